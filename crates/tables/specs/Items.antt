-- The items of a rule or a page in slices: the ends of all items, first, last, first, last .., by sorts (0 years, 1 months, 2 weeks,
-- 3 weekdays), and how many items each sort has.
use Rattle.std.specs.Prelude.{cond, ℕ, zero, suc, ◌+◌, ◌*◌, ◌≤◌, ◌<◌, ◌^◌, eqb, length, take, drop, get_or}
use mathlib.Core.List.{List, [], ◌∷◌, flat_map}
use Rattle.laws.specs.Lists.{All}
use Rattle.definition.specs.Rule.{year_bounds, month_bounds, week_bounds, weekday_bounds, Rule}
use Rattle.definition.specs.Range.{Ends}
use Rattle.definition.specs.Sheet.{Form, most_items}
use Rattle.definition.specs.Point.{Dimension}

-- ## Sorts
abbrev pub by_sort : {A : Type 0} → ℕ → A → A → A → A → A
by_sort sort years monthdays weeks weekdays = cond (eqb sort 0) years (cond (eqb sort 1) monthdays (cond (eqb sort 2) weeks weekdays))

unfoldable pub upper_of : ℕ → ℕ
upper_of sort = by_sort sort year_bounds.1 month_bounds.1 week_bounds.1 weekday_bounds.1

abbrev pub Below : ℕ → Ends → Type 0
Below upper e = (e.0 < upper) × (e.1 < upper)

-- ## Ends
unfoldable pub numbers : List Ends → List ℕ
numbers [] = []
numbers (e ∷ es) = e.0 ∷ e.1 ∷ numbers es

-- those of some sorts, one behind the other
unfoldable pub end_numbers : List (List Ends) → List ℕ
end_numbers Es = flat_map numbers Es

unfoldable pub pairs : List ℕ → List Ends
pairs [] = []
pairs (a ∷ []) = []
pairs (a ∷ b ∷ ns) = (a, b) ∷ pairs ns

-- so many items from a place on
unfoldable pub ends_at : List ℕ → ℕ → ℕ → List Ends
ends_at ends place many = pairs (take (2 * many) (drop place ends))

-- ## Rows
-- so many items of each sort are no more than the counts of a form can carry
abbrev pub FewItems : Form → List ℕ → Type 0
FewItems form counts = (sort : ℕ) → sort < 4 → get_or counts sort 0 ≤ most_items form

-- where a sort's row begins, and the row
unfoldable pub row_place : List ℕ → ℕ → ℕ
row_place counts zero = 0
row_place counts (suc sort) = row_place counts sort + 2 * get_or counts sort 0

unfoldable pub row : List ℕ → List ℕ → ℕ → List Ends
row ends counts sort = ends_at ends (row_place counts sort) (get_or counts sort 0)

-- the rows below a sort, the last first: dimensions go from weekdays to years
unfoldable pub rows_below : List ℕ → List ℕ → ℕ → List (List Ends)
rows_below ends counts zero = []
rows_below ends counts (suc sort) = row ends counts sort ∷ rows_below ends counts sort

-- rows that are all there, with counts that the heads of form 2 can carry and values that a field can
pub record Rows (ends counts : List ℕ) : Type 0 where
  pub four : 4 ≤ length counts
  pub inside : row_place counts 4 ≤ length ends
  pub few : (sort : ℕ) → get_or counts sort 0 < 2 ^ 12
  pub lawful : (sort : ℕ) → sort < 4 → All (Below (upper_of sort)) (row ends counts sort)

-- a rule with given items in each dimension
unfoldable pub over_items : List Dimension → List (List Ends) → Rule → Rule
over_items [] Es r = r
over_items (d ∷ ds) [] r = r
over_items (d ∷ ds) (E ∷ Es) r = over_items ds Es (d.over E r)
