-- HOW DRAINED RULES ARE JUDGED: 11 where one has days typed twice, 5 where there are too many boxes, 6 where some list is too long, 14 where there are
-- too many, else fine. Rests on which rule overlaps and which rule's lists are refused.
use mathlib.Core.Path.{◌≡◌, refl, sym, ap, ◌∙◌}
use mathlib.Core.List.{List}
use mathlib.Core.Logic.{◌⊎◌, inl, inr}
use mathlib.Core.Bool.{Bool, true, false}
use Prim.Native.Nat.{ℕ, ◌≤◌, ◌<◌}
use lib.Dec.{ltb}
use borrow.Author.Tests.{ltb-true, ltb-false}
use Rattle.definition.specs.Field.{days_twice, many_boxes, long_list, many_lists}
use Rattle.definition.specs.Rule.{Rule}
use Rattle.definition.specs.Sheet.{Limits}
use Rattle.definition.specs.Point.{dimensions}
use Rattle.definition.specs.Box.{box_count}
use Rattle.definition.specs.Fold.{fine, over, drain}
use Rattle.definition.proofs.Drained as judged
use Rattle.promises.specs.Conditions.{FirstTwice, AllOnce, FirstLong, FirstMany, AllPass}
use Rattle.promises.proofs.Twice.{first-twice, none-twice, twice-cases}
use Rattle.promises.proofs.Lists.{first-long, first-many, none-refused, ListCases, list_cases}

module _ (limits : Limits) (ds : List Rule) where
  abbrev boxes : ℕ
  boxes = box_count dimensions ds

  pub drain-twice : (k : ℕ) → FirstTwice ds k → drain limits ds ≡ over days_twice k
  drain-twice k h = judged.drain-twice limits ds k (first-twice ds k h)

  pub drain-many : (p : ℕ) → AllOnce ds → limits.boxes < boxes → p ≡ boxes → drain limits ds ≡ over many_boxes p
  drain-many p o l e = judged.drain-many limits ds (none-twice ds o) l ∙ ap (over many_boxes) (sym e)

  pub drain-long : (k : ℕ) → AllOnce ds → boxes ≤ limits.boxes → FirstLong limits ds k → drain limits ds ≡ over long_list k
  drain-long k o l h = judged.drain-lists limits ds (none-twice ds o) l long_list k (first-long limits ds k h)

  pub drain-lists : (k : ℕ) → AllOnce ds → boxes ≤ limits.boxes → FirstMany limits ds k → drain limits ds ≡ over many_lists k
  drain-lists k o l h = judged.drain-lists limits ds (none-twice ds o) l many_lists k (first-many limits ds k h)

  pub drain-fine : AllOnce ds → boxes ≤ limits.boxes → AllPass limits ds → drain limits ds ≡ fine
  drain-fine o l h = judged.drain-fine limits ds (none-twice ds o) l (none-refused limits ds h)

  -- one of the five
  abbrev ByBoxes : Type 0
  ByBoxes = (limits.boxes < boxes) ⊎ ((boxes ≤ limits.boxes) × ListCases limits ds)

  abbrev pub DrainCases : Type 0
  DrainCases = ((k : ℕ) × FirstTwice ds k) ⊎ (AllOnce ds × ByBoxes)

  pub drain-cases : DrainCases
  drain-cases = by-days (twice-cases ds)
    where
      by-boxes : (b : Bool) → ltb limits.boxes boxes ≡ b → ByBoxes
      by-boxes true t = inl (ltb-true limits.boxes boxes t)
      by-boxes false t = inr (ltb-false limits.boxes boxes t, list_cases limits ds)

      by-days : ((k : ℕ) × FirstTwice ds k) ⊎ AllOnce ds → DrainCases
      by-days (inl k) = inl k
      by-days (inr o) = inr (o, by-boxes (ltb limits.boxes boxes) refl)
