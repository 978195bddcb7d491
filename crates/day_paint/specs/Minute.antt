-- The minutes of a day, each with the number of the stroke that shows there, counted from 1; 0 where none does.
use Rattle.std.specs.Prelude.{◌≡◌, List, ◌&&◌, cond, ℕ, zero, suc, ◌+◌, ◌*◌, ◌≤◌, ◌<◌, eqb, leb, ltb, get_or}
use Rattle.codes.specs.Number.{closed_number}
use Rattle.words.specs.Words.{part}
use Rattle.day_paint.specs.Stroke.{stroke_state, shown}

-- the state that a number stands for
unfoldable pub number_state : List ℕ → ℕ → ℕ
number_state strokes zero = closed_number
number_state strokes (suc j) = stroke_state (get_or strokes j 0)

-- what minute m holds after minutes a up to b were painted with a number
unfoldable pub filled_at : List ℕ → ℕ → ℕ → ℕ → ℕ → ℕ
filled_at minutes a b number m = cond (leb a m && ltb m b) number (get_or minutes m 0)

-- how often, among the first minutes, one holds another number than the minute after it
unfoldable pub changes : List ℕ → ℕ → ℕ
changes minutes zero = 0
changes minutes (suc n) = changes minutes n + cond (eqb (get_or minutes n 0) (get_or minutes (n + 1) 0)) 0 1

-- the minutes show the first k strokes
pub record Painted (strokes : List ℕ) (k : ℕ) (minutes : List ℕ) : Type 0 where
  pub numbers : (m : ℕ) → get_or minutes m 0 ≤ k
  pub shows : (m : ℕ) → m < 1440 → number_state strokes (get_or minutes m 0) ≡ shown closed_number (part strokes 0 k) m
  pub few : changes minutes 1439 ≤ 2 * k
