-- A day's rules over items, in the definition's words, and the bits of rules; and a day that stands whole in words. 01, "From points to
-- rules": "Write the list's entries as rules over these sets' maximal runs, first Normal, others Additional".
use Rattle.std.specs.Prelude.{◌≡◌, Bool, false, ℕ, ◌+◌, ◌≤◌, ltb, length, get_or}
use mathlib.Core.List.{List, [], ◌∷◌, flat_map}
use Rattle.laws.specs.Lists.{All, any_of, from}
use Rattle.definition.specs.Rule.{operator_of, Rule}
use Rattle.definition.specs.Range.{Ends}
use Rattle.definition.specs.Sheet.{Form, most_items, sheet_limits, rule}
use Rattle.definition.specs.Point.{dimensions}
use Rattle.definition.specs.Day.{Day}
use Rattle.definition.specs.Group.{as_rule}
use Rattle.definition.specs.Fold.{many_items}
use Rattle.words.specs.Words.{part}
use Rattle.day_flat.specs.Day.{flat, unflat}
use Rattle.tables.specs.Days.{Carried}
use Rattle.tables.specs.Items.{over_items}

-- the bits that a day's rules take for each of its words, at most: a rule has fewer than 2 ^ 20 and stands as two words at least
abbrev pub bits_per_word : ℕ
bits_per_word = 524288

-- a day's rules entry by entry: the first with an operator's number, all others Additional
unfoldable pub entry_rules : ℕ → List (List Ends) → Day → List Rule
entry_rules operator E [] = []
entry_rules operator E (e ∷ d) = over_items dimensions E (as_rule (operator_of operator) e) ∷ entry_rules 1 E d

-- rules one behind the other, as the bits of a form
abbrev pub rules_bits : Form → List Rule → List ℕ
rules_bits form rs = flat_map (rule form sheet_limits).write rs

-- rules whose items the counts of a form can carry
abbrev pub Countable : Form → List Rule → Type 0
Countable form rs = any_of (many_items form) rs ≡ false

-- some sort has more items than these counts can carry
abbrev pub many_counted : Form → List ℕ → Bool
many_counted form counts = any_of (λ sort. ltb (most_items form) (get_or counts sort 0)) (from 0 4)

-- the day in so many words from a place on
abbrev pub day_in : List ℕ → ℕ → ℕ → Day
day_in words at n = unflat (part words at n)

-- these words are a whole number of entries, and a sheet of the form can carry each
pub record Whole (form : Form) (words : List ℕ) (at n : ℕ) : Type 0 where
  pub inside : at + n ≤ length words
  pub flatly : part words at n ≡ flat (day_in words at n)
  pub carried : All (Carried form) (day_in words at n)
