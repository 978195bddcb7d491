-- The room that numbering the lists' days needs, the day of a list, and the days of the first lists.
use Rattle.std.specs.Prelude.{◌≡◌, List, ℕ, suc, ◌≤◌, ◌<◌, get_or}
use Rattle.definition.specs.Group.{day_class}
use Rattle.day_flat.specs.Day.{unflat}
use Rattle.tables.specs.Days.{Ready, words_of}
use Rattle.day_memory.specs.Days.{FirstSame, hash_of}
use Rattle.number_lists.specs.declared.ListDay.{ListDay}

-- so many lists that can be folded
abbrev pub AllReady : List ℕ → List ℕ → List ℕ → List ℕ → ℕ → ℕ → Type 0
AllReady states counts spans lists room places = (i : ℕ) → i < places → Ready states counts spans lists room i

-- room for a hash of each of so many lists, and for a number and a class of each and of the empty list
pub record NumberingRoom (hashes numbers classes used : ℕ) : Type 0 where
  pub hashed : used ≤ hashes
  pub numbered : used < numbers
  pub classed : used < classes
  pub few : used < 65536

-- a list number's day has a number, the first list number whose day has the same words; and the table has the day's class there
pub record DayNumber (W : ℕ → List ℕ) (classes : List ℕ) (n number : ℕ) : Type 0 where
  pub first : FirstSame W (W n) n number
  pub classed : get_or classes number 0 ≡ day_class (unflat (W n))

-- THE DAYS OF SO MANY LIST NUMBERS, from 0 on; W gives the words of each
abbrev pub DaysNumbered : (ℕ → List ℕ) → List ℕ → List ℕ → ℕ → Type 0
DaysNumbered W numbers classes count = (n : ℕ) → n < count → DayNumber W classes n (get_or numbers n 0)

-- the day of a place: its hash, its number among the list numbers up to its own, and its class; W gives the words of each place
pub record DayAt (W : ℕ → List ℕ) (place : ℕ) (day : ListDay) : Type 0 where
  pub hashed : day.hash ≡ hash_of (W place)
  pub first : FirstSame (words_of W) (W place) (suc place) day.number
  pub classed : day.class ≡ day_class (unflat (W place))
