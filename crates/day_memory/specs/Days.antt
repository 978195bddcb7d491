-- The number of a day: the first list number whose day has the same words; and the hashes of the days before a place. A day stands here as
-- its words.
use Rattle.std.specs.Prelude.{◌≡◌, List, ℕ, ◌%◌, ◌≤◌, ◌<◌, get_or}
use Rattle.day_flat.specs.Day.{fingerprint_of}

-- the first of the numbers up to n that stands for some words, or n where none before it does; W gives the words of each number
pub record FirstSame (W : ℕ → List ℕ) (w : List ℕ) (n r : ℕ) : Type 0 where
  pub low : r ≤ n
  pub same : r < n → W r ≡ w
  pub first : (k : ℕ) → k < r → W k ≡ w → ⊥

-- a number of 16 bits that equal words share
abbrev pub hash_of : List ℕ → ℕ
hash_of words = fingerprint_of 0 words % 65536

-- so many places have the hash of their day; W gives the words of each place
abbrev pub DaysHashed : (ℕ → List ℕ) → List ℕ → ℕ → Type 0
DaysHashed W hashes places = (i : ℕ) → i < places → get_or hashes i 0 ≡ hash_of (W i)
