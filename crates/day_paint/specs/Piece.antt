-- A range of minutes as pieces, each of one state. Strokes are painted one over another, so the last one that meets the range shows where it does,
-- and the strokes before it show to its left and to its right.
use Rattle.std.specs.Prelude.{◌≡◌, List, [], ◌∷◌, ◌++◌, map, Bool, true, false, cond, ℕ, zero, suc, ◌≤◌, ◌<◌, ltb, length, get_or}
use Rattle.codes.specs.Number.{closed_number}
use Rattle.words.specs.Words.{part}
use Rattle.day_paint.specs.Stroke.{stroke_start, stroke_end, stroke_state}

-- from a minute up to another, excluded, with a state
abbrev pub Piece : Type 0
Piece = ℕ × ℕ × ℕ

abbrev pub piece_start : Piece → ℕ
piece_start t = t.0

abbrev pub piece_end : Piece → ℕ
piece_end t = t.1

abbrev pub piece_state : Piece → ℕ
piece_state t = t.2

unfoldable pub later : ℕ → ℕ → ℕ
later a b = cond (ltb a b) b a

unfoldable pub earlier : ℕ → ℕ → ℕ
earlier a b = cond (ltb a b) a b

-- where a stroke x meets the range from a up to b
abbrev pub meets_from : ℕ → ℕ → ℕ
meets_from x a = later a (stroke_start x)

abbrev pub meets_up_to : ℕ → ℕ → ℕ
meets_up_to x b = earlier (stroke_end x) b

unfoldable pub meets : ℕ → ℕ → ℕ → Bool
meets x a b = ltb (meets_from x a) (meets_up_to x b)

-- which of the first i strokes is the last that meets the range, counted from 1; 0 where none does
unfoldable pub last_meeting : List ℕ → ℕ → ℕ → ℕ → ℕ
last_meeting strokes zero a b = 0
last_meeting strokes (suc i) a b = cond (meets (get_or strokes i 0) a b) (suc i) (last_meeting strokes i a b)

-- the pieces of a range when a stroke is painted over it, by the pieces of any range before that
unfoldable pub painted_over : ℕ → (ℕ → ℕ → List Piece) → ℕ → ℕ → List Piece
painted_over x before a b = elim (meets x a b) [
  | true ↦ before a (meets_from x a) ++ (meets_from x a, meets_up_to x b, stroke_state x) ∷ before (meets_up_to x b) b
  | false ↦ before a b
]

-- the pieces of a range under the first i strokes; what none covers is plain Closed
unfoldable pub pieces : List ℕ → ℕ → ℕ → ℕ → List Piece
pieces strokes zero a b = cond (ltb a b) ((a, b, closed_number) ∷ []) []
pieces strokes (suc i) a b = painted_over (get_or strokes i 0) (pieces strokes i) a b

-- the pieces of a whole day
abbrev pub day_pieces : List ℕ → ℕ → List Piece
day_pieces strokes k = pieces strokes k 0 1440

-- pieces that tile a range, on each of which f has its state
abbrev pub Tiles : (ℕ → ℕ) → ℕ → ℕ → List Piece → Type 0
Tiles f a b [] = a ≡ b
Tiles f a b (t ∷ L) = (piece_start t ≡ a) × (a < piece_end t) × ((m : ℕ) → a ≤ m → m < piece_end t → f m ≡ piece_state t) × Tiles f (piece_end t) b L

-- pieces that tile a day stand in two buffers: their starts with the day's end behind them, and their states; r of them
pub record DayLaid (f : ℕ → ℕ) (starts states : List ℕ) (r : ℕ) : Type 0 where
  pub tiles : List Piece
  pub tile : Tiles f 0 1440 tiles
  pub starts-read : part starts 0 (suc r) ≡ map piece_start tiles ++ 1440 ∷ []
  pub states-read : part states 0 r ≡ map piece_state tiles
  pub counted : r ≡ length tiles
