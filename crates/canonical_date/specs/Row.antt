-- A row of items as ranges, and the table of ranges: a dimension has its row at 64 times its number, as start, end, start, end ..
use Rattle.std.specs.Prelude.{List, [], ◌∷◌, ◌++◌, cond, ℕ, zero, suc, ◌<◌, eqb, Some, None}
use Rattle.std.specs.Prelude as std
use Rattle.std.proofs.Math.Option.{Option, none, some}
use Rattle.grid.specs.Cut.{Range}
use Rattle.canonical_date.specs.declared.row.Row.{Row}
use Rattle.canonical_date.specs.Says.{bounds_of, item_says}

-- ## Ranges as numbers
unfoldable pub flat : List Range → List ℕ
flat [] = []
flat (r ∷ R) = r.0 ∷ r.1 ∷ flat R

abbrev pub Narrow : Range → Type 0
Narrow r = (r.0 < 65536) × (r.1 < 65536)

-- ## A row
-- the ranges of n items from p on, up to the first that stops
unfoldable pub items_ranges : ℕ → ℕ → List ℕ → ℕ → List Range
items_ranges sort zero s p = []
items_ranges sort (suc n) s p = elim (item_says sort s p) [ some v ↦ v.0 ++ items_ranges sort n s v.1 | none ↦ [] ]

-- the bit after them, where none stops
unfoldable pub items_end : ℕ → ℕ → List ℕ → ℕ → Option ℕ
items_end sort zero s p = some p
items_end sort (suc n) s p = elim (item_says sort s p) [ some v ↦ items_end sort n s v.1 | none ↦ none ]

-- "A count of 0 days' items means the whole dimension."
unfoldable pub row_ranges : ℕ → ℕ → List ℕ → ℕ → List Range
row_ranges sort n s p = cond (eqb n 0) (bounds_of sort ∷ []) (items_ranges sort n s p)

-- how a row is answered: the place after its ranges, and the bit after its items
abbrev pub Answer : Type 0
Answer = Option (ℕ × ℕ)

abbrev pub answered : ℕ → Option ℕ → Answer
answered place none = none
answered place (some q) = some (place, q)

abbrev pub row_of : std.Option Row → Answer
row_of (Some row) = some (row.place, row.next)
row_of None = none
