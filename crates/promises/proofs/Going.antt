-- DEMAND 3, of all that the fold wrote: the folded rules don't stop, so whoever drains it drains just them, and the rules left are left again.
-- Rests on what the folded rules mean, and on the law that what holds of a list's spans holds of its day's.
use mathlib.Core.Path.{◌≡◌, refl, sym, ap, ◌∙◌, subst}
use mathlib.Core.List.{List, [], ◌∷◌, ◌++◌, map, append-nil}
use mathlib.Core.Bool.{Bool, true, false, not, true≢false}
use Prim.Native.Nat.{ℕ}
use lib.Dec.{eqb}
use borrow.Author.Tests.{lt-ltb, le-leb}
use Rattle.laws.proofs.Flags.{split-or}
use Rattle.laws.specs.Lists.{any_of, All}
use Rattle.laws.proofs.Lists.{All-map, image-All}
use Rattle.laws.proofs.Spread.{flat_map-all}
use Rattle.grid.specs.Group.{Group}
use Rattle.grid.specs.Cut.{Range, as_runs}
use Rattle.definition.specs.Rule.{Span, Rule}
use Rattle.definition.specs.Stop.{is_fallback, monthday_stops, weekday_stops, span_stops, stops, drained, left}
use Rattle.definition.specs.Day.{Day, plain_span}
use Rattle.definition.specs.Group.{pages, rules_of, folded}
use Rattle.definition.proofs.PaintedShows.{ProperRun}
use Rattle.definition.proofs.Groups.{point_groups}
use Rattle.promises.specs.Meaning.{SaySame, InGroups, SameMeaning}
use Rattle.promises.specs.Conditions.{written}
use Rattle.promises.proofs.Group.{Sound, rules-go}
use Rattle.promises.proofs.Pages.{pages-hold}
use Rattle.promises.proofs.Meaning.{sound, folded-says, folded-groups}

-- a rule that doesn't stop
abbrev pub Goes : Rule → Type 0
Goes r = stops r ≡ false

-- ## Drained and left
drained-go : (rs : List Rule) → All Goes (drained rs)
unfolding drained
drained-go [] = tt
drained-go (r ∷ rs) = go (stops r) refl (drained-go rs)
  where
    go : (b : Bool) → stops r ≡ b → All Goes (drained rs) → All Goes (drained (r ∷ rs))
    go true e ih = rw (e, drained) tt
    go false e ih = rw (e, drained) (e, ih)

-- rules that don't stop, before others
go-before : (qs rs : List Rule) → All Goes qs → (drained (qs ++ rs) ≡ qs ++ drained rs) × (left (qs ++ rs) ≡ left rs)
unfolding drained left
go-before [] rs h = (refl, refl)
go-before (q ∷ qs) rs h = let k = go-before qs rs h.1 in rw (h.0, drained, left) (ap (q ∷◌) k.0, k.1)

-- of the rules left none is drained
left-again : (rs : List Rule) → (drained (left rs) ≡ []) × (left (left rs) ≡ left rs)
unfolding drained left
left-again [] = (refl, refl)
left-again (r ∷ rs) = go (stops r) refl (left-again rs)
  where
    go : (b : Bool) → stops r ≡ b → (drained (left rs) ≡ []) × (left (left rs) ≡ left rs)
        → (drained (left (r ∷ rs)) ≡ []) × (left (left (r ∷ rs)) ≡ left (r ∷ rs))
    go true e ih = rw (e, left, e, drained, left) (refl, refl)
    go false e ih = rw (e, left) ih

-- ## Spans that don't stop
abbrev Stays : Span → Type 0
Stays s = span_stops s ≡ false

none-stops : (ss : List Span) → All Stays ss → any_of span_stops ss ≡ false
unfolding any_of
none-stops [] h = refl
none-stops (s ∷ ss) h = rw h.0 (none-stops ss h.1)

all_stay : (ss : List Span) → any_of span_stops ss ≡ false → All Stays ss
unfolding any_of
all_stay [] h = tt
all_stay (s ∷ ss) h = go (span_stops s) refl (all_stay ss)
  where
    go : (b : Bool) → span_stops s ≡ b → (any_of span_stops ss ≡ false → All Stays ss) → All Stays (s ∷ ss)
    go true e ih = absurd (true≢false (rw e at h))
    go false e ih = (e, ih (rw e at h))

plain-stays : (r : Range) → ProperRun r → Stays (plain_span r)
plain-stays r h = rw (lt-ltb r.0 r.1 h.0, le-leb r.1 1440 h.1)

-- the spans of a rule that doesn't stop
spans-stay : (r : Rule) → Goes r → All Stays r.spans
unfolding stops
spans-stay r h =
    let years = (split-or (is_fallback r.operator) _ h).1 in
    let monthdays = (split-or (any_of (λ y. not (eqb y.step 1)) r.years) _ years).1 in
    let weeks = (split-or (any_of monthday_stops r.monthdays) _ monthdays).1 in
    let weekdays = (split-or (any_of (λ w. not (eqb w.step 1)) r.weeks) _ weeks).1 in
    all_stay r.spans (split-or (any_of weekday_stops r.weekdays) _ weekdays).1

-- ## The folded rules
module _ (ds : List Rule) (h : All Goes ds) where
  days-stay : All (λ g. All (λ e. any_of span_stops e.1 ≡ false) g.0) (pages ds)
  days-stay = All-map (λ g k. All-map (λ e n. none-stops e.1 n.1) g.0 k) (pages ds)
      (pages-hold (λ S. Unit {0}) Stays plain-stays ds (All-map (λ r k. (tt {0}, spans-stay r k)) ds h))

  pub folded-go : All Goes (folded ds)
  unfolding folded pages
  folded-go = flat_map-all Goes rules_of (pages ds) (each (point_groups ds) (sound ds) (image-All _ as_runs (point_groups ds) days-stay))
    where
      each : (gs : List (Group ℕ Day)) → All Sound gs → All (λ g. All (λ e. any_of span_stops e.1 ≡ false) g.0) gs
          → All (λ g. All Goes (rules_of g)) (map as_runs gs)
      each [] s k = tt
      each (g ∷ gs) s k = (rules-go g s.0 k.0, each gs s.1 k.1)

-- ## What the fold wrote
module _ (rs : List Rule) where
  -- its drained rules are the folded ones
  pub folded-drained : drained (written rs) ≡ folded (drained rs)
  folded-drained = (go-before (folded (drained rs)) (left rs) (folded-go (drained rs) (drained-go rs))).0 ∙ ap (folded (drained rs) ++◌)
      (left-again rs).0 ∙ append-nil (folded (drained rs))

  -- DEMAND 3
  pub written-means : SameMeaning rs (written rs)
  written-means = record {
    says_same = subst (λ ws. SaySame ws (drained rs)) (sym folded-drained) (folded-says (drained rs));
    in-groups = subst InGroups (sym folded-drained) (folded-groups (drained rs));
    left-same = (go-before (folded (drained rs)) (left rs) (folded-go (drained rs) (drained-go rs))).1 ∙ (left-again rs).1;
  }
