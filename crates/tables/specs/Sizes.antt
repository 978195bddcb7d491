-- How many numbers a row of each table has.
use Rattle.std.specs.Prelude.{ℕ, ◌+◌, ◌*◌}
use Rattle.definition.specs.Sheet.{sheet_limits}

-- a rule's ranges in one dimension: an item gives two at most, each with its start and its end
abbrev pub range_places : ℕ
range_places = 4 * sheet_limits.items

-- the cuts of a dimension: both bounds, and both ends of the ranges that each of n rules has at most in it
abbrev pub row_places : ℕ → ℕ
row_places n = 2 + range_places * n

-- a box's list: how many rules it has, then their numbers
abbrev pub list_limit : ℕ
list_limit = sheet_limits.entries

abbrev pub list_places : ℕ
list_places = list_limit + 1

-- so many lists are held at most after a rule
abbrev pub held_limit : ℕ
held_limit = sheet_limits.lists

-- the words of a day of a list within the limit
abbrev pub day_room : ℕ
day_room = 2049
