-- The layout that stands behind each tag.
use mathlib.Core.Path.{◌≡◌, sym, ap, ◌∙◌}
use mathlib.Core.List.{List}
use mathlib.Core.Bool.{true, false}
use Prim.Native.Nat.{ℕ}
use lib.Dec.{eqb}
use Rattle.definition.specs.Field.{Read, Layout}
use Rattle.definition.specs.Sheet.{months_layout, months_of_layout, dated_layout, monthday_of, fixed_days_layout, holiday_layout, weekday_of, fixed_layout, variable_layout, time_of}

-- a reading of the layout that the tag asks for
pub body : {A : Type 0} (L M : Layout A) (s : List ℕ) (q : ℕ) (r : Read A) → M ≡ L → r ≡ L.read s q → M.read s q ≡ r
body L M s q r e h = ap (λ N. N.read s q) e ∙ sym h

pub as-months : (t : ℕ) → eqb t 0 ≡ true → monthday_of t ≡ months_layout
unfolding monthday_of
as-months t e = rw e

pub as-months-of : (t : ℕ) → eqb t 0 ≡ false → eqb t 1 ≡ true → monthday_of t ≡ months_of_layout
unfolding monthday_of
as-months-of t e f = rw (e, f)

pub as-dated : (t : ℕ) → eqb t 0 ≡ false → eqb t 1 ≡ false → monthday_of t ≡ dated_layout
unfolding monthday_of
as-dated t e f = rw (e, f)

pub as-fixed-days : (t : ℕ) → eqb t 0 ≡ true → weekday_of t ≡ fixed_days_layout
unfolding weekday_of
as-fixed-days t e = rw e

pub as-holiday : (t : ℕ) → eqb t 0 ≡ false → weekday_of t ≡ holiday_layout
unfolding weekday_of
as-holiday t e = rw e

pub as-fixed : (t : ℕ) → eqb t 0 ≡ true → time_of t ≡ fixed_layout
unfolding time_of
as-fixed t e = rw e

pub as-variable : (t : ℕ) → eqb t 0 ≡ false → time_of t ≡ variable_layout
unfolding time_of
as-variable t e = rw e
