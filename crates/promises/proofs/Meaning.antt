-- DEMAND 3. The folded rules, drained again, have at each point the entries of that point's day; so they say what the drained rules said,
-- since a day says what its list says. Rests on grid's laws of groups and on the laws of one group's rules.
use mathlib.Core.Path.{◌≡◌, refl, sym, ap, ◌∙◌}
use mathlib.Core.List.{List, [], ◌∷◌, map, flat_map}
use mathlib.Core.Bool.{Bool, true, false, cond, true≢false}
use Prim.Native.Nat.{ℕ}
use lib.Dec.{eqb}
use Rattle.laws.specs.Lists.{All}
use Rattle.laws.proofs.Lists.{All-map₂, All-each, OnSome-map}
use Rattle.laws.proofs.Spread.{flat_map-map}
use Rattle.laws.proofs.Tests.{exact-eqb}
use Rattle.grid.specs.Group.{Group, inside, pop}
use Rattle.grid.specs.Cut.{as_runs}
use Rattle.grid.proofs.Part.{groups-part, groups-each}
use Rattle.grid.proofs.Value.{pop-agree}
use Rattle.grid.proofs.Width.{groups-filled}
use Rattle.grid.proofs.Cover.{found, Avoid, Separate}
use Rattle.definition.specs.Rule.{closed, Rule}
use Rattle.definition.specs.Point.{points, list_from, list_at}
use Rattle.definition.specs.Day.{Day, flattened, last_over, entry_of}
use Rattle.definition.specs.Group.{same_day, day_at, non_empty, day_classes, pages, rules_of, folded}
use Rattle.definition.specs.Saying.{says}
use Rattle.definition.proofs.Same.{exact-day}
use Rattle.definition.proofs.Groups.{classes-empty, point_groups, groups-cover, groups-apart}
use Rattle.definition.proofs.DayShows.{day-shows}
use Rattle.promises.specs.Meaning.{is_point, SaySame, IsGroup, covered, Apart, InGroups}
use Rattle.definition.proofs.Points.{list-append}
use Rattle.promises.proofs.Again.{list-out}
use Rattle.promises.proofs.Group.{Sound, rules-entries, rules-out, rules-in, rules-uncovered, covered-inside, rules-group}

-- the rules of groups, one group after the other
abbrev all_rules : List (Group ℕ Day) → List Rule
all_rules gs = flat_map rules_of (map as_runs gs)

abbrev Separated : List (Group ℕ Day) → Type 0
Separated = Separate exact-day exact-eqb [] points

-- ## The list at a point
module _ (p : List ℕ) (i : is_point p ≡ true) where
  groups-out : (l : List Rule) (gs : List (Group ℕ Day)) → All Sound gs → Avoid exact-day exact-eqb [] points p gs → list_from l (all_rules gs) p ≡ l
  unfolding flat_map list_from
  groups-out l [] s a = refl
  groups-out l (g ∷ gs) s a =
      list-append l (rules_of (as_runs g)) (all_rules gs) p
      ∙ ap (λ k. list_from k (all_rules gs) p) (list-out p l (rules_of (as_runs g)) (rules-out g s.0 p i a.0))
      ∙ groups-out l gs s.1 a.1

  groups-list : (gs : List (Group ℕ Day)) → All Sound gs → Separated gs → map entry_of (list_at (all_rules gs) p) ≡ found eqb [] gs p
  unfolding flat_map list_from found
  groups-list [] s a = refl
  groups-list (g ∷ gs) s a =
      ap (map entry_of) (list-append [] (rules_of (as_runs g)) (all_rules gs) p) ∙ go (inside eqb g.1 p) refl (groups-list gs s.1 a.1)
    where
      own : List Rule
      own = rules_of (as_runs g)

      go : (b : Bool) → inside eqb g.1 p ≡ b → map entry_of (list_at (all_rules gs) p) ≡ found eqb [] gs p
          → map entry_of (list_from (list_at own p) (all_rules gs) p) ≡ cond b g.0 (found eqb [] gs p)
      go true h ih =
          ap (λ l. map entry_of (list_from l (all_rules gs) p)) (rules-in g s.0 p i h)
          ∙ ap (map entry_of) (groups-out own gs s.1 (a.0 p h)) ∙ rules-entries g s.0
      go false h ih = ap (λ l. map entry_of (list_from l (all_rules gs) p)) (list-out p [] own (rules-out g s.0 p i h)) ∙ ih

module _ (rs : List Rule) where
  pub sound : All Sound (point_groups rs)
  sound = All-map₂ (λ g. λ a b. (a, b)) (point_groups rs) (groups-part same_day eqb [] points day_classes (day_at rs))
      (groups-filled exact-day eqb [] points day_classes (day_at rs))

  -- THE FOLDED RULES, DRAINED AGAIN, HAVE AT EACH POINT ITS DAY
  pub folded-list : (p : List ℕ) → is_point p ≡ true → map entry_of (list_at (folded rs) p) ≡ day_at rs p
  unfolding folded pages
  folded-list p i = groups-list p i (point_groups rs) sound (groups-apart rs) ∙ groups-cover rs p i

  -- THEY SAY WHAT THE DRAINED RULES SAID
  pub folded-says : SaySame (folded rs) rs
  unfolding says day_at
  folded-says choice p i m small =
      ap (λ d. last_over (choice p).covers closed (flattened d) m) (folded-list p i) ∙ day-shows (choice p) (list_at rs p) m small

  -- ## In groups
  full : All (λ g. non_empty g.0 ≡ true) (point_groups rs)
  full = groups-each same_day eqb [] points (λ ok. ok [] ≡ false) (λ g. non_empty g.0 ≡ true) (λ f. Unit {0})
      (λ ok z f u. OnSome-map (λ g h. matched ok z g.0 h.1) (pop same_day ok points f) (pop-agree exact-day ok points f)) (λ S f u. tt)
      day_classes classes-empty (day_at rs) tt
    where
      matched : (ok : Day → Bool) → ok [] ≡ false → (d : Day) → ok d ≡ true → non_empty d ≡ true
      matched ok z [] h = absurd (true≢false (sym h ∙ z))
      matched ok z (e ∷ d) h = refl

  apart : (gs : List (Group ℕ Day)) → All Sound gs → Separated gs → Apart (map rules_of (map as_runs gs))
  apart [] s a = tt
  apart (g ∷ gs) s a = (λ p i c. others p i gs s.1 (a.0 p (covered-inside g s.0 p i c)), apart gs s.1 a.1)
    where
      others : (p : List ℕ) → is_point p ≡ true → (hs : List (Group ℕ Day)) → All Sound hs → Avoid exact-day exact-eqb [] points p hs
          → All (λ h. covered h p ≡ false) (map rules_of (map as_runs hs))
      others p i [] s a = tt
      others p i (h ∷ hs) s a = (rules-uncovered h s.0 p i a.0, others p i hs s.1 a.1)

  each : (gs : List (Group ℕ Day)) → All Sound gs → All (λ g. non_empty g.0 ≡ true) gs → All IsGroup (map rules_of (map as_runs gs))
  each [] s f = tt
  each (g ∷ gs) s f = (rules-group g s.0 f.0, each gs s.1 f.1)

  -- THEY FORM GROUPS
  pub folded-groups : InGroups (folded rs)
  unfolding folded pages
  folded-groups = record {
    groups = map rules_of (pages rs);
    all-rules = flat_map-map (λ g. g) rules_of rules_of (pages rs) (All-each _ (λ g. refl) (pages rs));
    are-groups = each (point_groups rs) sound full;
    are-apart = apart (point_groups rs) sound (groups-apart rs);
  }
