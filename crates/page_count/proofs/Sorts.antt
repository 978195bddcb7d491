-- The items of a sort can be written: they are few, since every other interval at most begins a run, and they lie below their dimension's
-- upper bound, which is their row's last cut. Rests on the laws of runs and of cut rows.
use mathlib.Core.Path.{◌≡◌, refl, sym, subst}
use mathlib.Core.Bool.{Bool, true, false}
use mathlib.Core.List.{List, ◌∷◌}
use Prim.Native.Nat.{ℕ, zero, suc, ◌*◌, ◌≤◌, ◌<◌, ◌^◌}
use native.Mathlib.Omega.{arith}
use native.Mathlib.Nat.{mul-pos, mul-le-mul_right, le-mul_of_pos_right, one-mul}
use lib.Dec.{eqb}
use lib.ListN.{length, get_or}
use borrow.Author.Tests.{eqb-true, eqb-false}
use Rattle.laws.specs.Lists.{from, keep, All}
use Rattle.definition.specs.Rule.{Rule}
use Rattle.definition.specs.Range.{Ends}
use Rattle.definition.specs.Sheet.{sheet_limits}
use Rattle.definition.specs.Point.{Dimension}
use Rattle.paving.specs.Grid.{size_of}
use Rattle.tables.specs.Cuts as tables
use Rattle.tables.specs.Cuts.{CutBy}
use Rattle.paving_points.proofs.Boxes.{Bounded}
use Rattle.tables.specs.Items.{Below}
use Rattle.date_items.specs.Runs.{runs_of, cut_of, Cuts}
use Rattle.date_items.proofs.Joining.{runs-few}
use Rattle.definition.proofs.RuleCounts.{items-less}
use Rattle.date_items.proofs.Within.{items-below}
use Rattle.paving_pages.specs.Pages.{sort_items}
use Rattle.paving_pages.proofs.Rules.{row_ends}

-- a size among filled ones is no more than all boxes
pub sizes-few : (sizes : List ℕ) (l : ℕ) → ((k : ℕ) → k < l → 1 ≤ get_or sizes k 0) → (1 ≤ size_of sizes l) × ((i : ℕ) → i < l → get_or sizes i 0 ≤ size_of sizes l)
unfolding size_of
sizes-few sizes zero filled = (omega arith, λ i h. absurd (omega arith))
sizes-few sizes (suc l) filled =
    let below = sizes-few sizes l (λ k h. filled k (omega arith)) in
    (mul-pos (filled l (omega arith)) below.0, λ i h. go below.0 (below.1 i) h (eqb i l) refl)
  where
    go : {i : ℕ} → 1 ≤ size_of sizes l → (i < l → get_or sizes i 0 ≤ size_of sizes l) → i < suc l → (b : Bool) → eqb i l ≡ b → get_or sizes i 0 ≤ get_or sizes l 0 * size_of sizes l
    go {i} some later h true e = rw (eqb-true i l e) (le-mul_of_pos_right (get_or sizes l 0) some)
    go {i} some later h false e =
        omega (arith, later (omega (arith, eqb-false i l e)), mul-le-mul_right (size_of sizes l) (filled l (omega arith)), one-mul (size_of sizes l))

-- items that a head can count and fields can carry
abbrev pub Writable : ℕ → List Ends → Type 0
Writable upper es = (length es < 2 ^ 12) × All (Below upper) es

module _ (rows sizes cuts : List ℕ) (rs : List Rule) where
  pub sort-writable : (d : Dimension) (ds : List Dimension) → CutBy rows sizes cuts rs (d ∷ ds) → Bounded rs (d ∷ ds) → Cuts cuts (get_or rows (length ds) 0) (get_or sizes (length ds) 0)
      → get_or sizes (length ds) 0 ≤ sheet_limits.boxes → (E : List ℕ) → (t : ℕ → Bool) × (E ≡ keep t (from 0 (get_or sizes (length ds) 0))) → Writable d.bounds.1 (sort_items rows cuts sizes (length ds) E)
  unfolding sort_items runs_of tables.cut_of
  sort-writable d ds c b lawful size E (t, kept) =
      let i : ℕ = length ds in
      let row : ℕ = get_or rows i 0 in
      let width : ℕ = get_or sizes i 0 in
      subst (λ D. Writable d.bounds.1 (sort_items rows cuts sizes i D)) (sym kept) (
        omega (arith, items-less (cut_of cuts row 0, cut_of cuts row width) (runs_of (cut_of cuts row) t 0 width), runs-few (cut_of cuts row) t width 0, size),
        items-below t cuts row width d.bounds.1 lawful (omega (arith, (row_ends rows sizes cuts rs d ds c b).1)),
      )
