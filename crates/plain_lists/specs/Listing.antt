-- What `list_rules` requires, and what it answers: the refusal that is met first, or a list for each box.
use Rattle.std.specs.Prelude.{◌≡◌, List, Result, Ok, Err, ℕ, ◌*◌, ◌≤◌, ◌<◌, length, get_or, take}
use Rattle.std.proofs.Math.Option.{none, some}
use Rattle.definition.specs.Rule.{Rule}
use Rattle.definition.specs.Sheet.{sheet_limits}
use Rattle.definition.specs.Lists.{indexes_at, first_refused}
use Rattle.paving.specs.Grid.{size_of}
use Rattle.tables.specs.Sizes.{list_places, list_limit}
use Rattle.tables.specs.Cuts.{Cut}
use Rattle.tables.specs.Lists.{list_of, Earlier, Within, box_of, start_of}
use Rattle.answers.specs.Refusal.{code_of}
use Rattle.answers.specs.declared.refusal.Refusal.{Refusal}

-- A LIST FOR EACH BOX, at the box's own place: that of its points
pub record OwnLists (rows sizes table lists : List ℕ) (rs : List Rule) : Type 0 where
  pub cut : Cut rows sizes table rs
  pub few-boxes : size_of sizes 4 ≤ sheet_limits.boxes
  pub room : size_of sizes 4 * list_places ≤ length lists
  pub short : (box : ℕ) → box < size_of sizes 4 → get_or lists (box * list_places) 0 ≤ list_limit
  pub earlier : Earlier lists (size_of sizes 4) (length rs)
  pub list : (p : List ℕ) → Within sizes 4 p → list_of lists (box_of sizes 4 0 p) ≡ indexes_at (take (length rs) rs) (start_of rows table 4 p)

-- THE ANSWER about rules rs
unfoldable pub Listing : (rows sizes table lists : List ℕ) → List Rule → Result (Unit {0}) Refusal → Type 0
Listing rows sizes table lists rs (Ok _) = (first_refused sheet_limits rs ≡ none) × OwnLists rows sizes table lists rs
Listing rows sizes table lists rs (Err r) = first_refused sheet_limits rs ≡ some (code_of r.reason, r.place)
