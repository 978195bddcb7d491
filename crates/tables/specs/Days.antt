-- The days of the boxes as words, over the boxes' lists and the tables of the rules' times.
use Rattle.std.specs.Prelude.{◌≡◌, true, List, [], ℕ, zero, suc, ◌+◌, ◌*◌, ◌≤◌, ◌<◌, ◌^◌, length, get_or}
use Rattle.laws.specs.Lists.{All}
use Rattle.definition.specs.Rule.{Span}
use Rattle.definition.specs.Sheet.{Form, span}
use Rattle.definition.specs.Day.{Entry, Day, day}
use Rattle.day_flat.specs.Day.{flat, unflat, list_rules}
use Rattle.tables.specs.Sizes.{list_places, list_limit}
use Rattle.tables.specs.Lists.{list_of}
use Rattle.tables.specs.Rules.{Commented}

-- each rule that a list names stands in the tables, with sixteen spans at most
pub record Tables (states counts spans list : List ℕ) : Type 0 where
  pub named : (i : ℕ) → i < length list → (get_or list i 0 < length states) × (get_or list i 0 < length counts) × (get_or list i 0 * 16 + 16 ≤ length spans)
  pub few : (r : ℕ) → get_or counts r 0 ≤ 16

-- the words of a box's day
unfoldable pub box_words : List ℕ → List ℕ → List ℕ → List ℕ → ℕ → List ℕ
box_words states counts spans lists node = flat (day (list_rules states counts spans (list_of lists node) 0 (length (list_of lists node))))

-- a box whose list can be folded: it is there and short, its rules stand in the tables, and its day has room among so many words
pub record Ready (states counts spans lists : List ℕ) (room node : ℕ) : Type 0 where
  pub there : node * list_places + list_places ≤ length lists
  pub short : get_or lists (node * list_places) 0 ≤ list_limit
  pub tabled : Tables states counts spans (list_of lists node)
  pub wordy : length (box_words states counts spans lists node) ≤ room

-- the words that a day's number stands for: none for 0, else those of the box before it; W gives the words of each box
unfoldable pub words_of : (ℕ → List ℕ) → ℕ → List ℕ
words_of W zero = []
words_of W (suc j) = W j

-- the words and the day of a number, over the tables
abbrev pub number_words : List ℕ → List ℕ → List ℕ → List ℕ → ℕ → List ℕ
number_words states counts spans lists = words_of (box_words states counts spans lists)

abbrev pub number_day : List ℕ → List ℕ → List ℕ → List ℕ → ℕ → Day
number_day states counts spans lists v = unflat (number_words states counts spans lists v)

abbrev pub FitsSpan : Span → Type 0
FitsSpan s = span.fits s ≡ true

-- an entry of a day that the fields of a form can carry; so few spans the counts of either form can tell
pub record Carried (form : Form) (e : Entry) : Type 0 where
  pub commented : Commented form e.0
  pub spanned : All FitsSpan e.1
  pub few : length e.1 < 2 ^ 10
