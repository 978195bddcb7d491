-- Painting, in numbers. A stroke is a simple span with its state: state, start and end as digits of one number.
use Rattle.std.specs.Prelude.{List, [], ◌∷◌, true, false, ◌&&◌, cond, ℕ, zero, suc, ◌+◌, ◌*◌, ◌/◌, ◌%◌, eqb, leb, ltb, get_or}
use Rattle.definition.specs.Day.{simple}
use Rattle.codes.specs.Number.{span_at}

unfoldable pub stroke_number : ℕ → ℕ → ℕ
stroke_number state span = state * 4194304 + span / 8589934592 * 2048 + span / 16384 % 524288

abbrev pub stroke_state : ℕ → ℕ
stroke_state x = x / 4194304

abbrev pub stroke_start : ℕ → ℕ
stroke_start x = x / 2048 % 2048

abbrev pub stroke_end : ℕ → ℕ
stroke_end x = x % 2048

-- ## Which spans paint, along a list of states and spans
-- the simple spans of the run of a state
unfoldable pub strokes_of_run : List ℕ → List ℕ → ℕ → ℕ → ℕ → List ℕ
strokes_of_run states spans S i zero = []
strokes_of_run states spans S i (suc r) = elim (eqb (get_or states i 0) S) [
  | false ↦ []
  | true ↦ elim (simple (span_at (get_or spans i 0))) [ true ↦ stroke_number (get_or states i 0) (get_or spans i 0) ∷ strokes_of_run states spans S (i + 1) r | false ↦ strokes_of_run states spans S (i + 1) r ]
]

unfoldable pub strokes_from : List ℕ → List ℕ → ℕ → ℕ → List ℕ
strokes_from states spans i zero = []
strokes_from states spans i (suc r) = elim (simple (span_at (get_or spans i 0))) [
  | true ↦ stroke_number (get_or states i 0) (get_or spans i 0) ∷ strokes_from states spans (i + 1) r
  | false ↦ strokes_of_run states spans (get_or states i 0) (i + 1) r
]

-- ## What strokes show
unfoldable pub stroke_over : ℕ → ℕ → ℕ → ℕ
stroke_over x m S = cond (leb (stroke_start x) m && ltb m (stroke_end x)) (stroke_state x) S

-- the state of the last stroke that covers the minute
unfoldable pub shown : ℕ → List ℕ → ℕ → ℕ
shown S [] m = S
shown S (x ∷ strokes) m = shown (stroke_over x m S) strokes m
