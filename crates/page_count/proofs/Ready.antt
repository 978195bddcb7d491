-- THE PAGES IN THE BUFFER ARE READY to be written where rules cut the dimensions and each group's day is ready: each page is all there, and its rows
-- can be written. Rests on the laws that the pages are read back and that the items of a sort can be written.
use mathlib.Core.Path.{◌≡◌, sym, ap, ◌∙◌, subst}
use mathlib.Core.List.{List, [], ◌∷◌, ◌++◌}
use Prim.Native.Nat.{ℕ, zero, suc, ◌+◌, ◌≤◌, ◌<◌, ◌^◌}
use native.Mathlib.Omega.{arith}
use lib.ListN.{length, drop, get_or, length-append, length-drop}
use lib.Seq.{sets}
use Rattle.laws.specs.Lists.{All}
use Rattle.grid.specs.Group.{Set, Group}
use Rattle.grid.proofs.Part.{Part}
use Rattle.definition.specs.Sheet.{Form, sheet_limits}
use Rattle.definition.specs.Rule.{Rule}
use Rattle.definition.specs.Range.{Ends}
use Rattle.definition.specs.Point.{year_dimension, month_dimension, week_dimension, weekday_dimension, dimensions}
use Rattle.definition.proofs.Lawful.{Lawful}
use Rattle.paving.specs.Grid.{size_of, axes}
use Rattle.paving_points.proofs.Boxes.{Bounded, lawful-bounded}
use Rattle.tables.specs.Items.{upper_of, Below, row, Rows, rows_below}
use Rattle.paving_pages.specs.Pages.{CutRows, sort_items, group_numbers, groups_numbers}
use Rattle.paving_pages.proofs.Rules.{by-sorts, cut-rows}
use Rattle.tables.specs.Pages.{page_numbers, page_counts, page_ends, page_size, page_at, PageReady, Pages}
use Rattle.tables.proofs.Pages.{ends, sorts, ends-length, rows_back, counts-back, ends-back, size_low}
use Rattle.tables.specs.Cuts.{Cut}
use Rattle.page_count.specs.DayReady.{DayReady}
use Rattle.page_count.proofs.Reading.{group-numbers, Read, first_read, numbers_behind, text-held}
use Rattle.page_count.proofs.Sorts.{sizes-few, Writable, sort-writable}

-- ## Rows of items that can be written
module _ (Y M K D : List Ends) (years : Writable (upper_of 0) Y) (months : Writable (upper_of 1) M) (weeks : Writable (upper_of 2) K) (weekdays : Writable (upper_of 3) D) where
  few-counts : (sort : ℕ) → get_or (sorts Y M K D) sort 0 < 2 ^ 12
  few-counts zero = years.0
  few-counts (suc zero) = months.0
  few-counts (suc (suc zero)) = weeks.0
  few-counts (suc (suc (suc zero))) = weekdays.0
  few-counts (suc (suc (suc (suc sort)))) = omega arith

  lawful-rows : (sort : ℕ) → sort < 4 → All (Below (upper_of sort)) (row (ends Y M K D) (sorts Y M K D) sort)
  unfolding rows_below
  lawful-rows zero l = subst (All (Below (upper_of 0))) (sym (ap (λ Es. get_or Es 3 []) (rows_back Y M K D))) years.1
  lawful-rows (suc zero) l = subst (All (Below (upper_of 1))) (sym (ap (λ Es. get_or Es 2 []) (rows_back Y M K D))) months.1
  lawful-rows (suc (suc zero)) l = subst (All (Below (upper_of 2))) (sym (ap (λ Es. get_or Es 1 []) (rows_back Y M K D))) weeks.1
  lawful-rows (suc (suc (suc zero))) l = subst (All (Below (upper_of 3))) (sym (ap (λ Es. get_or Es 0 []) (rows_back Y M K D))) weekdays.1
  lawful-rows (suc (suc (suc (suc sort)))) l = absurd (omega arith)

  page-rows : (pages : List ℕ) (at number : ℕ) (rest : List ℕ) → drop at pages ≡ page_numbers number (Y ∷ M ∷ K ∷ D ∷ []) ++ rest → Rows (page_ends pages at) (page_counts pages at)
  page-rows pages at number rest held =
      subst (λ es. Rows es (page_counts pages at)) (sym (ends-back Y M K D pages at number rest held))
      (subst (Rows (ends Y M K D)) (sym (counts-back Y M K D pages at number rest held))
      (record { four = omega arith; inside = omega (arith, ends-length Y M K D); few = few-counts; lawful = lawful-rows }))

-- ## A group's page, and those behind it
module _ (rows sizes cuts : List ℕ) (rs : List Rule) (cut : Cut rows sizes cuts rs) (bounded : Bounded rs dimensions) (few : size_of sizes 4 ≤ sheet_limits.boxes) where
  cut-row : CutRows rows cuts sizes 4
  cut-row = cut-rows rows sizes cuts rs dimensions cut.cut_by bounded cut.all-rows (omega (arith, cut.four)) cut.inside

  size_few : (i : ℕ) → i < 4 → get_or sizes i 0 ≤ sheet_limits.boxes
  size_few i l = omega (arith, (sizes-few sizes 4 cut.filled).1 i l)

  group-rows : (pages : List ℕ) (at v : ℕ) (rest : List ℕ) (S : Set ℕ) → Part (axes sizes 4) S → drop at pages ≡ group_numbers rows cuts sizes 4 (v, S) ++ rest
      → Rows (page_ends pages at) (page_counts pages at)
  unfolding axes upper_of
  group-rows pages at v rest =
      by-sorts sizes (λ S. drop at pages ≡ group_numbers rows cuts sizes 4 (v, S) ++ rest → Rows (page_ends pages at) (page_counts pages at))
      (λ D K M Y p h. page-rows (sort_items rows cuts sizes 0 Y) (sort_items rows cuts sizes 1 M) (sort_items rows cuts sizes 2 K) (sort_items rows cuts sizes 3 D)
      (sort-writable rows sizes cuts rs year_dimension [] cut.cut_by.1.1.1 bounded.1.1.1 (cut-row.row 0 (omega arith)) (size_few 0 (omega arith)) Y p.1.1.1.0)
      (sort-writable rows sizes cuts rs month_dimension (year_dimension ∷ []) cut.cut_by.1.1 bounded.1.1 (cut-row.row 1 (omega arith)) (size_few 1 (omega arith)) M p.1.1.0)
      (sort-writable rows sizes cuts rs week_dimension (month_dimension ∷ year_dimension ∷ []) cut.cut_by.1 bounded.1 (cut-row.row 2 (omega arith)) (size_few 2 (omega arith)) K p.1.0)
      (sort-writable rows sizes cuts rs weekday_dimension (week_dimension ∷ month_dimension ∷ year_dimension ∷ []) cut.cut_by bounded (cut-row.row 3 (omega arith)) (size_few 3 (omega arith)) D p.0)
      pages at v rest (h ∙ ap (◌++ rest) (group-numbers rows cuts sizes v D K M Y)))

  module _ (form : Form) (states counts spans lists pages : List ℕ) (room : ℕ) where
    group-ready : (g : Group ℕ ℕ) (at : ℕ) (rest : List ℕ) → Part (axes sizes 4) g.1 → DayReady form states counts spans lists room g.0 → Read rows cuts sizes pages at g rest
        → PageReady form states counts spans lists pages room at
    unfolding page_at
    group-ready g at rest p d read =
        let day : DayReady form states counts spans lists room (get_or pages at 0) = subst (DayReady form states counts spans lists room) (sym (ap (λ page. page.0) read.page)) d in
        record {
          inside = omega (arith, read.sized, size_low pages at, ap length read.held, length-drop at pages, length-append (group_numbers rows cuts sizes 4 g) rest);
          rows = group-rows pages at g.0 rest g.1 p read.held;
          numbered = day.0;
          ready = day.1;
          carried = day.2;
        }

    pages-ready : (gs : List (Group ℕ ℕ)) (at : ℕ) (rest : List ℕ) → All (λ g. Part (axes sizes 4) g.1) gs → All (λ g. DayReady form states counts spans lists room g.0) gs
        → drop at pages ≡ groups_numbers rows cuts sizes 4 gs ++ rest → Pages form states counts spans lists pages room (length gs) at
    unfolding Pages
    pages-ready [] at rest p d h = tt
    pages-ready (g ∷ gs) at rest p d h =
        let first = first_read rows cuts sizes pages g gs at rest p.0 h in
        (group-ready g at (groups_numbers rows cuts sizes 4 gs ++ rest) p.0 d.0 first, pages-ready gs (at + page_size pages at) rest p.1 d.1 first.behind)

-- THE PAGES FROM THE BUFFER'S FRONT ON
pub text-ready : (rows sizes cuts : List ℕ) (rs : List Rule) → Cut rows sizes cuts rs → All Lawful rs → size_of sizes 4 ≤ sheet_limits.boxes → (form : Form) (states counts spans lists pages₀ pages : List ℕ) (room : ℕ)
    (gs : List (Group ℕ ℕ)) → pages ≡ sets pages₀ 0 (groups_numbers rows cuts sizes 4 gs) → length (groups_numbers rows cuts sizes 4 gs) ≤ length pages₀
    → All (λ g. Part (axes sizes 4) g.1) gs → All (λ g. DayReady form states counts spans lists room g.0) gs → Pages form states counts spans lists pages room (length gs) 0
text-ready rows sizes cuts rs cut lawful few form states counts spans lists pages₀ pages room gs laid inside parts days =
    pages-ready rows sizes cuts rs cut (lawful-bounded rs lawful) few form states counts spans lists pages room gs 0 (numbers_behind rows cuts sizes pages₀ pages gs laid inside) parts days
    (text-held rows cuts sizes pages₀ pages gs laid inside)
