-- A list folded into a buffer: the words of its day at the front, and how many they are.
use Rattle.std.specs.Prelude.{◌≡◌, List, ℕ, length}
use Rattle.std.proofs.lemmas.List.Edits.{sets}
use Rattle.definition.specs.Day.{day}
use Rattle.day_flat.specs.Day.{flat, list_rules}

-- the words of a list's day, over the tables of the rules' times
abbrev pub list_words : (states counts spans list : List ℕ) → List ℕ
list_words states counts spans list = flat (day (list_rules states counts spans list 0 (length list)))

abbrev pub Folded : (states counts spans list old new : List ℕ) → ℕ → Type 0
Folded states counts spans list old new r = (new ≡ sets old 0 (list_words states counts spans list)) × (r ≡ length (list_words states counts spans list))
