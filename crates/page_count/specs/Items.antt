-- A group as a page that is read: its value, and its items dimension by dimension, from weekdays to years.
use Rattle.std.specs.Prelude.{List, [], ◌∷◌, ℕ, zero, suc}
use Rattle.grid.specs.Group.{Set, Group}
use Rattle.definition.specs.Range.{Ends}
use Rattle.paving_pages.specs.Pages.{sort_items}
use Rattle.tables.specs.Pages.{Page}

module _ (rows cuts sizes : List ℕ) where
  -- the items of a set of l dimensions, years last: those of `page_items` from the other end
  unfoldable pub dimension_items : ℕ → Set ℕ → List (List Ends)
  dimension_items zero S = []
  dimension_items (suc i) [] = []
  dimension_items (suc i) (E ∷ S) = sort_items rows cuts sizes i E ∷ dimension_items i S

  abbrev pub group_page : Group ℕ ℕ → Page
  group_page g = (g.0, dimension_items 4 g.1)
