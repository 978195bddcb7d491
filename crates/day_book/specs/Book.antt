-- What the book of days holds: the words of the days that are noted, all of them in its filled part. W gives the words of each day's number.
use Rattle.std.specs.Prelude.{◌≡◌, List, ℕ, ◌+◌, ◌*◌, ◌≤◌, ◌<◌, length, get_or}
use Rattle.words.specs.Words.{part}
use Rattle.day_book.specs.declared.Fetched.{Fetched}

-- a day's words stand in the first so many words of the book, where the notes say
pub record Kept (W : ℕ → List ℕ) (notes book : List ℕ) (filled number : ℕ) : Type 0 where
  pub inside : get_or notes (2 * number) 0 + get_or notes (2 * number + 1) 0 ≤ filled
  pub words : part book (get_or notes (2 * number) 0) (get_or notes (2 * number + 1) 0) ≡ W number

-- so does each day of which words are noted
abbrev pub Book : (ℕ → List ℕ) → List ℕ → List ℕ → ℕ → Type 0
Book W notes book filled = (number : ℕ) → 1 ≤ get_or notes (2 * number + 1) 0 → Kept W notes book filled number

-- and behind what is filled there is room for a day; places in the book fit 16 bits
pub record Open (W : ℕ → List ℕ) (notes book : List ℕ) (room filled : ℕ) : Type 0 where
  pub held : Book W notes book filled
  pub roomy : filled + room ≤ length book
  pub few : length book < 65536

-- a day's words where they were found, and the book then
pub record Fetch (W : ℕ → List ℕ) (notes book : List ℕ) (room number : ℕ) (fetched : Fetched) : Type 0 where
  pub inside : fetched.from + fetched.count ≤ length book
  pub words : part book fetched.from fetched.count ≡ W number
  pub opened : Open W notes book room fetched.filled
