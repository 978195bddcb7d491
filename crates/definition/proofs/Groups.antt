-- The groups of the fold: they are disjoint, they cover exactly the points with a non-empty day, each with its day; and a group has at
-- most one rule more than the longest list has entries. Rests on grid's laws of groups.
use mathlib.Core.Path.{◌≡◌, refl, sym, ap, ◌∙◌, subst}
use mathlib.Core.List.{List, [], ◌∷◌, map}
use mathlib.Core.Option.{none}
use mathlib.Core.Bool.{Bool, true, false, cond, true≢false}
use Prim.Native.Nat.{ℕ, suc, ◌≤◌}
use native.Mathlib.Omega.{arith}
use lib.Dec.{eqb}
use lib.ListN.{length, length-map}
use Rattle.laws.specs.Lists.{All}
use Rattle.laws.proofs.Lists.{All-map}
use Rattle.laws.proofs.Tests.{exact-eqb}
use Rattle.grid.specs.Group.{Group, inside, clear, groups}
use Rattle.grid.specs.Cut.{as_runs}
use Rattle.grid.proofs.Part.{groups-each}
use Rattle.grid.proofs.Value.{pop-inside, clear-value}
use Rattle.grid.proofs.Cover.{found, Separate, groups-found, groups-separate}
use Rattle.definition.specs.Rule.{Rule}
use Rattle.definition.specs.Sheet.{Limits}
use Rattle.definition.specs.Point.{points, list_at}
use Rattle.definition.specs.Lists.{first_refused}
use Rattle.definition.specs.Day.{Day}
use Rattle.definition.specs.Group.{same_day, day_at, day_classes, Page, pages, as_rules, rules_of}
use Rattle.definition.proofs.Same.{exact-day}
use Rattle.definition.proofs.Lists.{short-lists}
use Rattle.definition.proofs.Entries.{day-entries}

pub classes-empty : All (λ ok. ok [] ≡ false) day_classes
classes-empty = (refl, (refl, (refl, (refl, (refl, tt)))))

-- every day but the empty one is of some class
no-class : (v : Day) → All (λ ok. ok v ≡ false) day_classes → v ≡ []
no-class [] h = refl
no-class (e ∷ d) h = absurd (true≢false h.1.1.1.1.0)

module _ (rs : List Rule) where
  abbrev pub point_groups : List (Group ℕ Day)
  point_groups = groups same_day eqb [] day_classes points (day_at rs)

  -- THE GROUPS GIVE EACH POINT ITS DAY, and a point of no group has none
  pub groups-cover : (p : List ℕ) → inside eqb points p ≡ true → found eqb [] point_groups p ≡ day_at rs p
  groups-cover p i = groups-found exact-day exact-eqb [] points day_classes classes-empty (day_at rs) p i (no-class (day_at rs p))

  -- NO TWO GROUPS MEET
  pub groups-apart : Separate exact-day exact-eqb [] points point_groups
  groups-apart = groups-separate exact-day exact-eqb [] points day_classes classes-empty (day_at rs)

  -- ## A group's rules
  -- what holds of the day of every point, and of the empty day, holds of every page's
  pub pages-each : (P : Day → Type 0) → P [] → ((p : List ℕ) → inside eqb points p ≡ true → P (day_at rs p)) → All (λ g. P g.0) (pages rs)
  unfolding pages
  pages-each P pe h = runs point_groups
      (groups-each same_day eqb [] points (λ ok. Unit {0}) (λ g. P g.0) (λ f. (p : List ℕ) → inside eqb points p ≡ true → P (f p))
      (λ ok u f q. pop-inside same_day exact-eqb ok P points f q) cleared day_classes (tt, (tt, (tt, (tt, (tt, tt))))) (day_at rs) h)
    where
      cleared : (S : List (List ℕ)) (f : List ℕ → Day) → ((p : List ℕ) → inside eqb points p ≡ true → P (f p)) → (p : List ℕ)
          → inside eqb points p ≡ true → P (clear eqb [] S f p)
      cleared S f q p i = subst P (sym (clear-value eqb [] S f p)) (go (inside eqb S p))
        where
          go : (b : Bool) → P (cond b [] (f p))
          go true = pe
          go false = q p i

      runs : (gs : List (Group ℕ Day)) → All (λ g. P g.0) gs → All (λ g. P g.0) (map as_runs gs)
      runs [] k = tt
      runs (g ∷ gs) k = (k.0, runs gs k.1)

  rules-length : (g : Page) → length (rules_of g) ≡ length g.0
  unfolding rules_of
  rules-length g = length-map (as_rules g.0) _ ∙ go g.0
    where
      go : (d : Day) → length (as_rules d) ≡ length d
      go [] = refl
      go (e ∷ d) = ap suc (length-map d _)

  -- A GROUP HAS AT MOST 33 RULES: one more than the limit of a list
  pub group-rules : (limits : Limits) → first_refused limits rs ≡ none → All (λ g. length (rules_of g) ≤ suc limits.entries) (pages rs)
  unfolding day_at
  group-rules limits h =
      All-map (λ g k. subst (◌≤ suc limits.entries) (sym (rules-length g)) k) (pages rs)
      (pages-each (λ d. length d ≤ suc limits.entries) (omega arith) (λ p i. omega (arith, day-entries (list_at rs p), short-lists limits rs h p i)))
