-- A RULE COVERS A POINT where some combination of its ranges does: what the tests of the four dimensions come to. Where no
-- days are typed twice, it covers the point once. Rests on the values that a rule's ranges hold.
use mathlib.Core.Path.{◌≡◌, refl, ap, ap₂, ◌∙◌, subst}
use mathlib.Core.Bool.{◌&&◌, not}
use mathlib.Core.List.{List, [], ◌∷◌, map}
use mathlib.Core.Option.{none}
use Prim.Native.Nat.{ℕ, zero, suc, ◌≤◌, ◌<◌}
use native.Mathlib.Omega.{arith}
use lib.Dec.{eqb}
use lib.ListN.{length, get_or}
use Rattle.laws.specs.Lists.{from, count}
use Rattle.laws.proofs.Lists.{All-map₂, All-at}
use Rattle.laws.proofs.Passing.{Found, first_found}
use Rattle.grid.specs.Cut.{holds}
use Rattle.definition.specs.Rule.{Rule, no_rule}
use Rattle.definition.specs.Point.{combinations}
use Rattle.definition.specs.Overlap.{overlaps, first_overlap}
use Rattle.definition.proofs.Once.{covers-once}
use Rattle.definition.proofs.Points.{times_covered}
use Rattle.tables.specs.Ranges.{table_row, range_of, selector_of}
use Rattle.tables.specs.Rules.{rule_at, AllFit, RuleDays}
use Rattle.tables.proofs.Days.{fits-lawful}
use Rattle.plain_lists.specs.Covers.{RangesThere, holds_in}
use Rattle.plain_lists.proofs.Covering.{ranges-there, held-row, some-both}
use Rattle.point_state.specs.Point.{covers_point}

module _ (counts ranges : List ℕ) (rule : ℕ) where
  -- the tests of the four dimensions, one after the other
  pub point-asked : (weekday week month year : ℕ) → covers_point counts ranges rule 4 (weekday ∷ week ∷ month ∷ year ∷ [])
      ≡ ((holds_in counts ranges rule 0 year && holds_in counts ranges rule 1 month) && holds_in counts ranges rule 2 week) && holds_in counts ranges rule 3 weekday
  unfolding covers_point
  point-asked weekday week month year = refl

  -- ## What they come to
  pub covers-combined : RangesThere counts ranges rule → (l : ℕ) → l ≤ 4 → (p : List ℕ)
      → covers_point counts ranges rule l p ≡ not (eqb (combinations (selector_of (table_row counts rule 4) (table_row ranges rule 256) l) p) 0)
  unfolding covers_point combinations selector_of
  covers-combined there zero h p = refl
  covers-combined there (suc i) h [] = refl
  covers-combined there (suc i) h (x ∷ p) =
      ap₂ ◌&&◌ (covers-combined there i (omega arith) p) (held-row counts ranges rule there i x (omega arith))
      ∙ some-both (count (holds x) (map (range_of (table_row ranges rule 256) i) (from 0 (get_or (table_row counts rule 4) i 0))))
      (combinations (selector_of (table_row counts rule 4) (table_row ranges rule 256) i) p)

-- ## Rules in tables, none with days typed twice
-- each covers a point at most once
pub rules-once : (rs : List Rule) → AllFit rs → first_overlap rs ≡ none → (p : List ℕ) (k : ℕ) → k < length rs → times_covered (rule_at rs k) p ≤ 1
unfolding first_overlap
rules-once rs fits apart p k h =
    All-at (λ r. times_covered r p ≤ 1) rs no_rule
    (All-map₂ (λ r l a. covers-once r l a p) rs (fits-lawful rs fits) (subst (Found overlaps rs) apart (first_found overlaps rs))) k h

-- and the test tells whether it does
pub covers-times : (counts ranges : List ℕ) (n : ℕ) (rs : List Rule) → RuleDays counts ranges n rs → (k : ℕ) → k < n → (p : List ℕ)
    → covers_point counts ranges k 4 p ≡ not (eqb (times_covered (rule_at rs k) p) 0)
covers-times counts ranges n rs days k h p =
    covers-combined counts ranges k (ranges-there counts ranges n rs days k h) 4 (omega arith) p ∙ ap (λ S. not (eqb (combinations S p) 0)) (days.each k h).selected
