-- THE RULES OF ONE GROUP, drained again: where its set has the point they are the list, elsewhere they leave it as it was; they have the
-- entries of the group's day; and they are a group as demand 3 asks. Rests on the laws of rules laid over a set.
use mathlib.Core.Path.{◌≡◌, refl, sym, ap, ap₂, ◌∙◌}
use mathlib.Core.List.{List, [], ◌∷◌, map}
use mathlib.Core.Bool.{Bool, true, false, ◌&&◌, not, cond, false≢true}
use Prim.Native.Nat.{ℕ}
use lib.Dec.{eqb}
use Rattle.laws.specs.Lists.{any_of, All, Filled}
use Rattle.laws.proofs.Lists.{All-each}
use Rattle.grid.specs.Group.{Group, inside}
use Rattle.grid.specs.Cut.{runs, as_runs}
use Rattle.grid.proofs.Part.{Part}
use Rattle.definition.specs.Rule.{Operator, Normal, Additional, Rule}
use Rattle.definition.specs.Stop.{is_fallback, span_stops, stops}
use Rattle.definition.specs.Point.{dimensions, all_bounds, points, is_normal, is_closed, combinations, replaces, list_from, list_at}
use Rattle.definition.specs.Day.{Entry, Day, entry_of}
use Rattle.definition.specs.Group.{non_empty, laid_over, as_rule, as_rules, rules_of}
use Rattle.definition.proofs.FoldBox.{bounds-proper}
use Rattle.promises.specs.Meaning.{is_point, SameDays, IsGroup, covered}
use Rattle.promises.proofs.Again.{times, list-in}
use Rattle.promises.proofs.Laid.{set-combinations, Lays, laid}

-- a set that is part of the points, none of its lists empty
abbrev pub Sound : Group ℕ Day → Type 0
Sound g = Part points g.1 × All Filled g.1

-- rules that don't cover a point
uncovered : (p : List ℕ) (rs : List Rule) → All (λ r. times r p ≡ 0) rs → covered rs p ≡ false
unfolding any_of
uncovered p [] h = refl
uncovered p (r ∷ rs) h = rw h.0 (uncovered p rs h.1)

module _ (g : Group ℕ Day) (sound : Sound g) where
  abbrev pub lay : Rule → Rule
  lay = laid_over dimensions (map runs g.1)

  lays : Lays g.1 lay
  lays = laid g.1 sound.0

  -- what holds of the rule of each entry holds of all the group's rules; they are Normal and Additional
  pub rules-all : (R : Entry → Type 0) (P : Rule → Type 0) → ((o : Operator) (e : Entry) → is_fallback o ≡ false → R e → P (lay (as_rule o e)))
      → All R g.0 → All P (rules_of (as_runs g))
  unfolding rules_of
  rules-all R P h = go g.0
    where
      others : (d : Day) → All R d → All P (map lay (map (as_rule Additional) d))
      others [] k = tt
      others (e ∷ d) k = (h Additional e refl k.0, others d k.1)

      go : (d : Day) → All R d → All P (map lay (as_rules d))
      go [] k = tt
      go (e ∷ d) k = (h Normal e refl k.0, others d k.1)

  -- none of them stops, if no span of the day does
  pub rules-go : All (λ e. any_of span_stops e.1 ≡ false) g.0 → All (λ r. stops r ≡ false) (rules_of (as_runs g))
  rules-go = rules-all (λ e. any_of span_stops e.1 ≡ false) (λ r. stops r ≡ false) lays.laid-goes

  -- they have the day's entries
  pub rules-entries : map entry_of (rules_of (as_runs g)) ≡ g.0
  unfolding rules_of
  rules-entries = go g.0
    where
      others : (d : Day) → map entry_of (map lay (map (as_rule Additional) d)) ≡ d
      others [] = refl
      others (e ∷ d) = ap₂ ◌∷◌ (lays.laid-entry Additional e) (others d)

      go : (d : Day) → map entry_of (map lay (as_rules d)) ≡ d
      go [] = refl
      go (e ∷ d) = ap₂ ◌∷◌ (lays.laid-entry Normal e) (others d)

  module _ (p : List ℕ) (i : is_point p ≡ true) where
    rule-times : (b : Bool) → inside eqb g.1 p ≡ b → (o : Operator) (e : Entry) → times (lay (as_rule o e)) p ≡ cond b 1 0
    rule-times b h o e =
        ap (λ R. combinations R p) (lays.laid-ranges o e) ∙ set-combinations all_bounds bounds-proper g.1 sound.0 sound.1 p i ∙ ap (λ v. cond v 1 0) h

    -- outside the set they don't cover the point
    pub rules-out : inside eqb g.1 p ≡ false → All (λ r. times r p ≡ 0) (rules_of (as_runs g))
    rules-out h = rules-all (λ e. Unit {0}) (λ r. times r p ≡ 0) (λ o e f u. rule-times false h o e) (All-each (λ e. Unit {0}) (λ e. tt) g.0)

    -- inside they are the list
    pub rules-in : inside eqb g.1 p ≡ true → list_at (rules_of (as_runs g)) p ≡ rules_of (as_runs g)
    unfolding rules_of list_from
    rules-in h = go g.0
      where
        adds : (e : Entry) → replaces (lay (as_rule Additional e)) ≡ false
        adds e = ap (λ o. is_normal o && not (is_closed (lay (as_rule Additional e)).state.kind)) (lays.laid-operator Additional e)

        others : (d : Day) → All (λ r. (times r p ≡ 1) × (replaces r ≡ false)) (map lay (map (as_rule Additional) d))
        others [] = tt
        others (e ∷ d) = ((rule-times true h Additional e, adds e), others d)

        go : (d : Day) → list_at (map lay (as_rules d)) p ≡ map lay (as_rules d)
        go [] = refl
        go (e ∷ d) = list-in p (lay (as_rule Normal e)) (map lay (map (as_rule Additional) d)) (rule-times true h Normal e) (others d)

    pub rules-uncovered : inside eqb g.1 p ≡ false → covered (rules_of (as_runs g)) p ≡ false
    rules-uncovered h = uncovered p (rules_of (as_runs g)) (rules-out h)

    pub covered-inside : covered (rules_of (as_runs g)) p ≡ true → inside eqb g.1 p ≡ true
    covered-inside c = go (inside eqb g.1 p) refl
      where
        go : (b : Bool) → inside eqb g.1 p ≡ b → b ≡ true
        go true h = refl
        go false h = absurd (false≢true (sym (rules-uncovered h) ∙ c))

  -- THEY ARE A GROUP, where the day isn't empty
  pub rules-group : non_empty g.0 ≡ true → IsGroup (rules_of (as_runs g))
  unfolding rules_of
  rules-group full = go g.0 full
    where
      others : (first : Entry) (d : Day) → All (λ q. (q.operator ≡ Additional) × SameDays (lay (as_rule Normal first)) q) (map lay (map (as_rule Additional) d))
      others first [] = tt
      others first (e ∷ d) = ((lays.laid-operator Additional e, lays.laid-days Normal Additional first e), others first d)

      go : (d : Day) → non_empty d ≡ true → IsGroup (map lay (as_rules d))
      go [] h = absurd (false≢true h)
      go (e ∷ d) h = (lays.laid-operator Normal e, others e d)
