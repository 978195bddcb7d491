-- What the plain engine asks to be lent.
use Rattle.std.specs.Prelude.{◌≡◌, List, ℕ, ◌*◌, ◌≤◌, ◌<◌, length, get_or}
use Rattle.paving.specs.Grid.{size_of}
use Rattle.tables.specs.Sizes.{list_places}

-- for each box an empty list, a day number beside that of the empty list, and a page
pub record PlainRoom (lists : List ℕ) (numbers pages : ℕ) (sizes : List ℕ) : Type 0 where
  pub listed : size_of sizes 4 * list_places ≤ length lists
  pub empty : (box : ℕ) → box < size_of sizes 4 → get_or lists (box * list_places) 0 ≡ 0
  pub numbered : size_of sizes 4 < numbers
  pub paged : 13 * size_of sizes 4 ≤ pages
