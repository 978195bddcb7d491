-- Where a table holds each day's class, its test of a day's number is the definition's test of the day.
use mathlib.Core.Path.{◌≡◌, refl, sym, ap, ◌∙◌}
use mathlib.Core.Bool.{Bool, true, false, ◌&&◌, cond}
use mathlib.Core.List.{List, [], ◌∷◌}
use Prim.Native.Nat.{ℕ}
use native.Mathlib.Omega.{arith}
use lib.Dec.{ltb, leb}
use lib.ListN.{get_or}
use borrow.Author.Tests.{eqb-true}
use Rattle.laws.specs.Lists.{every}
use Rattle.definition.specs.Rule.{Open, Unknown, kind_number}
use Rattle.definition.specs.Day.{Day}
use Rattle.definition.specs.Group.{is_kind, non_empty, first_is, all_are, day_classes, day_class}
use Rattle.paving.specs.Grid.{lowest_class, in_class}
use Rattle.paving.proofs.Points.{Classed}

-- a kind's test
abbrev test : ℕ → ℕ → Bool
test c k = cond (ltb c (lowest_class k)) false (leb c k)

-- whether the first entry is Open, and all others; whether it is Unknown, and all others
kind-tests : (a b u w : Bool) → (a ≡ true → u ≡ true → ⊥)
    → (a && b ≡ test (cond (a && b) 1 (cond a 2 (cond (u && w) 3 (cond u 4 5)))) 1)
    × (a ≡ test (cond (a && b) 1 (cond a 2 (cond (u && w) 3 (cond u 4 5)))) 2)
    × (u && w ≡ test (cond (a && b) 1 (cond a 2 (cond (u && w) 3 (cond u 4 5)))) 3)
    × (u ≡ test (cond (a && b) 1 (cond a 2 (cond (u && w) 3 (cond u 4 5)))) 4)
    × (true ≡ test (cond (a && b) 1 (cond a 2 (cond (u && w) 3 (cond u 4 5)))) 5)
unfolding lowest_class
kind-tests true b true w n = absurd (n refl refl)
kind-tests true true false w n = (refl, refl, refl, refl, refl)
kind-tests true false false w n = (refl, refl, refl, refl, refl)
kind-tests false b true true n = (refl, refl, refl, refl, refl)
kind-tests false b true false n = (refl, refl, refl, refl, refl)
kind-tests false b false w n = (refl, refl, refl, refl, refl)

day-tests : (d : Day)
    → (all_are Open d ≡ test (day_class d) 1) × (first_is Open d ≡ test (day_class d) 2) × (all_are Unknown d ≡ test (day_class d) 3)
    × (first_is Unknown d ≡ test (day_class d) 4) × (non_empty d ≡ test (day_class d) 5)
unfolding day_class every lowest_class
day-tests [] = (refl, refl, refl, refl, refl)
day-tests (e ∷ d) = kind-tests (is_kind Open e) (every (is_kind Open) d) (is_kind Unknown e) (every (is_kind Unknown) d) neither
  where
    neither : is_kind Open e ≡ true → is_kind Unknown e ≡ true → ⊥
    neither p q =
        let r : kind_number Open ≡ kind_number Unknown =
        sym (eqb-true (kind_number e.0.kind) (kind_number Open) p) ∙ eqb-true (kind_number e.0.kind) (kind_number Unknown) q in
        omega arith

-- THE CLASSES: a table that holds the class of each day in use says of its number what the definition's classes say of the day
pub day-classed : (day : ℕ → Day) (P : ℕ → Type 0) (classes : List ℕ) → ((v : ℕ) → P v → get_or classes v 0 ≡ day_class (day v)) → Classed day P classes 1 day_classes
unfolding in_class
day-classed day P classes h = (
  λ v p. (day-tests (day v)).0 ∙ ap (λ c. test c 1) (sym (h v p)),
  (
    λ v p. (day-tests (day v)).1 ∙ ap (λ c. test c 2) (sym (h v p)),
    (
      λ v p. (day-tests (day v)).2 ∙ ap (λ c. test c 3) (sym (h v p)),
      (
        λ v p. (day-tests (day v)).3 ∙ ap (λ c. test c 4) (sym (h v p)),
        (λ v p. (day-tests (day v)).4 ∙ ap (λ c. test c 5) (sym (h v p)), tt),
      ),
    ),
  ),
)
