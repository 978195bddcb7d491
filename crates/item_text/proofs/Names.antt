-- The names of months and weekdays, found in one row of bytes: one computed test over each table.
use mathlib.Core.Path.{◌≡◌, refl, sym, ap, ◌∙◌}
use mathlib.Core.List.{List, [], map}
use mathlib.Core.Bool.{Bool, true}
use Prim.Native.Nat.{ℕ, ◌+◌, ◌*◌, ◌-◌, ◌≤◌, ◌<◌}
use Prim.Native.String.{String}
use native.Mathlib.Omega.{arith}
use lib.Dec.{eqb}
use lib.ListN.{length, get_or, take, drop, length-drop}
use lib.Seq.{length-take-le}
use Rattle.laws.specs.Lists.{from, every}
use Rattle.laws.specs.Tests.{same_list}
use Rattle.laws.proofs.Numbers.{every-below}
use Rattle.laws.proofs.Tests.{exact-eqb, exact-list}
use Rattle.grid.specs.Cut.{Range}
use Rattle.grid.proofs.Cut.{holds-in}
use Rattle.definition.specs.Text.{ascii, named}
use Rattle.definition.specs.Line.{month_names, weekday_names}
use Rattle.definition.specs.Rule.{weekday_bounds, month_bounds}
use Rattle.item_text.specs.Day.{month_name, weekday_name}

-- does the name of each number stand at its place?
abbrev row-right : List ℕ → List String → ℕ → ℕ → Bool
row-right row names width n = every (λ k. same_list eqb (take width (drop (k * width) row)) (get_or (map ascii names) k [])) (from 0 n)

-- a number of the range has its name there
name-found : (row : List ℕ) (names : List String) (r : Range) (width : ℕ) → row-right row names width (r.1 - r.0) ≡ true
    → (v : ℕ) → (named names r).fits v ≡ true → (r.0 ≤ v) × (v < r.1) × (take width (drop ((v - r.0) * width) row) ≡ (named names r).write v)
unfolding named
name-found row names r width t v f =
    let b = holds-in v r f in (
      b.0,
      b.1,
      (exact-list exact-eqb).equal _ _
          (every-below (λ k. same_list eqb (take width (drop (k * width) row)) (get_or (map ascii names) k [])) (r.1 - r.0) t (v - r.0) (omega (arith, b))),
    )

-- so many bytes of the row from there on
name-long : (row : List ℕ) (start width : ℕ) (name : List ℕ) → start + width ≤ length row → take width (drop start row) ≡ name → length name ≡ width
name-long row start width name h e = ap length (sym e) ∙ length-take-le width (drop start row) (omega (arith, length-drop start row))

abbrev pub month_row : List ℕ
month_row = ascii "JanFebMarAprMayJunJulAugSepOctNovDec"

abbrev pub weekday_row : List ℕ
weekday_row = ascii "MoTuWeThFrSaSu"

-- a month's name at its place in the row, and how long it is; and a weekday's
pub month-found : (v : ℕ) → month_name.fits v ≡ true
    → (1 ≤ v) × (v < 13) × (take 3 (drop ((v - 1) * 3) month_row) ≡ month_name.write v) × (length (month_name.write v) ≡ 3)
unfolding from every same_list ascii
month-found v f =
    let k = name-found month_row month_names month_bounds 3 refl v f in
    (k.0, k.1, k.2, name-long month_row ((v - 1) * 3) 3 _ (omega (arith, k.0, k.1)) k.2)

pub weekday-found : (v : ℕ) → weekday_name.fits v ≡ true
    → (v < 7) × (take 2 (drop (v * 2) weekday_row) ≡ weekday_name.write v) × (length (weekday_name.write v) ≡ 2)
unfolding from every same_list ascii
weekday-found v f =
    let k = name-found weekday_row weekday_names weekday_bounds 2 refl v f in
    let z : v ≡ v - 0 = omega arith in
    let e = ap (λ n. take 2 (drop (n * 2) weekday_row)) z ∙ k.2 in
    (k.1, e, name-long weekday_row (v * 2) 2 _ (omega (arith, k.1)) e)
