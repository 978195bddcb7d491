-- A BUFFER THAT HOLDS ALL PAGES: 13 numbers for each box of four dimensions. A page has its value, four counts, and two numbers for each item;
-- a set's items are no more than its intervals, and these hardly more than its boxes. Rests on grid's count of the groups' points.
use mathlib.Core.Path.{◌≡◌, refl, ap, ap₂}
use mathlib.Core.Bool.{false}
use mathlib.Core.List.{List, [], ◌∷◌, map, flat_map}
use Prim.Native.Nat.{ℕ, zero, suc, ◌-◌, ◌*◌, ◌≤◌}
use native.Mathlib.Omega.{arith}
use lib.Dec.{eqb}
use lib.ListN.{length, get_or, length-append, length-map}
use Rattle.laws.specs.Lists.{from, sum, All, Filled}
use Rattle.laws.proofs.Lists.{All-each, All-image}
use Rattle.laws.proofs.Numbers.{length_from}
use Rattle.laws.proofs.Tests.{exact-eqb}
use Rattle.grid.specs.Group.{Set, Group, size}
use Rattle.grid.specs.Cut.{joined}
use Rattle.grid.proofs.Part.{Part, groups-part}
use Rattle.grid.proofs.Size.{groups-size}
use Rattle.grid.proofs.Width.{set-width, groups-filled}
use Rattle.paving.specs.Grid.{size_of, axes, grid, in_class}
use Rattle.paving.specs.Sweep.{classes_from, groups_from}
use Rattle.paving.proofs.Sweeping.{empty-unmatched}
use Rattle.date_items.specs.Runs.{cut_of}
use Rattle.tables.specs.Cuts.{interval_at}
use Rattle.grid.proofs.Count.{joined-less}
use Rattle.definition.proofs.RuleCounts.{items-less}
use Rattle.paving_pages.specs.Pages.{sort_items, page_items, group_numbers, groups_numbers}
use Rattle.tables.specs.Items.{end_numbers}
use Rattle.tables.specs.Pages.{page_numbers}
use Rattle.paving_pages.proofs.Writing.{last-length}

-- ## Dimensions
part_length : {A : Type 0} (Ds S : Set A) → Part Ds S → length S ≡ length Ds
part_length [] [] p = refl
part_length [] (E ∷ S) p = absurd p
part_length (D ∷ Ds) [] p = absurd p
part_length (D ∷ Ds) (E ∷ S) p = ap suc (part_length Ds S p.1)

axes-length : (sizes : List ℕ) (l : ℕ) → length (axes sizes l) ≡ l
unfolding axes
axes-length sizes zero = refl
axes-length sizes (suc l) = ap suc (axes-length sizes l)

axes-size : (sizes : List ℕ) (l : ℕ) → size (axes sizes l) ≡ size_of sizes l
unfolding axes size size_of
axes-size sizes zero = refl
axes-size sizes (suc l) = ap₂ ◌*◌ (length_from 0 (get_or sizes l 0)) (axes-size sizes l)

-- ## A page's numbers, and all pages'
module _ (rows cuts sizes : List ℕ) where
  sort-few : (i : ℕ) (E : List ℕ) → length (sort_items rows cuts sizes i E) ≤ length E
  unfolding sort_items
  sort-few i E =
      let row : ℕ = get_or rows i 0 in
      let R = map (interval_at (cut_of cuts row)) E in
      omega (arith, items-less (cut_of cuts row 0, cut_of cuts row (get_or sizes i 0)) (joined R), joined-less R, length-map E (interval_at (cut_of cuts row)))

  items-few-by-sort : (l : ℕ) (S : Set ℕ) → (length (page_items rows cuts sizes l S) ≤ l) × (length (end_numbers (page_items rows cuts sizes l S)) ≤ 2 * sum length S)
  unfolding page_items end_numbers flat_map sum
  items-few-by-sort zero S = (omega arith, omega arith)
  items-few-by-sort (suc i) [] = (omega arith, omega arith)
  items-few-by-sort (suc i) (E ∷ S) =
      let below = items-few-by-sort i S in
      let Es = page_items rows cuts sizes i S in
      let F = sort_items rows cuts sizes i E in
      (omega (arith, length-append Es (F ∷ []), below.0), omega (arith, last-length Es F, below.1, sort-few i E))

  group-few : (g : Group ℕ ℕ) → Part (axes sizes 4) g.1 → All Filled g.1 → length (group_numbers rows cuts sizes 4 g) ≤ 13 * size g.1
  unfolding group_numbers page_numbers
  group-few g p f =
      let Es = page_items rows cuts sizes 4 g.1 in
      let few = items-few-by-sort 4 g.1 in
      let w = set-width g.1 f in
      omega (arith, length-append (map length Es) (end_numbers Es), length-map Es length, few.0, few.1, w.0, w.1, part_length (axes sizes 4) g.1 p, axes-length sizes 4)

  groups-few : (gs : List (Group ℕ ℕ)) → All (λ g. Part (axes sizes 4) g.1) gs → All (λ g. All Filled g.1) gs
      → length (groups_numbers rows cuts sizes 4 gs) ≤ 13 * sum (λ g. size g.1) gs
  unfolding groups_numbers flat_map sum
  groups-few [] p f = omega arith
  groups-few (g ∷ gs) p f =
      omega (
        arith,
        length-append (group_numbers rows cuts sizes 4 g) (groups_numbers rows cuts sizes 4 gs),
        group-few g p.0 f.0,
        groups-few gs p.1 f.1,
      )

-- EVERYTHING HAS ROOM
pub pages-few : (rows cuts cells classes sizes : List ℕ) (last k : ℕ) → get_or classes 0 0 ≡ 0
    → length (groups_numbers rows cuts sizes 4 (groups_from cells classes sizes last k 4)) ≤ 13 * size_of sizes 4
unfolding groups_from classes_from
pages-few rows cuts cells classes sizes last k none =
    let part = groups-part eqb eqb 0 (axes sizes 4) (classes_from classes last k) (grid cells sizes 4 0) in
    let filled = groups-filled exact-eqb eqb 0 (axes sizes 4) (classes_from classes last k) (grid cells sizes 4 0) in
    let unmatched = All-image (λ ok. ok 0 ≡ false) (in_class classes) (from k (suc last - k)) (All-each _ (λ c. empty-unmatched classes c none) (from k (suc last - k))) in
    omega (
      arith,
      groups-few rows cuts sizes (groups_from cells classes sizes last k 4) part filled,
      groups-size exact-eqb exact-eqb 0 (axes sizes 4) (classes_from classes last k) unmatched (grid cells sizes 4 0),
      axes-size sizes 4,
    )
