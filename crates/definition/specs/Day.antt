-- 01, "From a list to a day": "A span is simple if both times are fixed, start < end ≤ 24:00, not `open_end`, no repeats."
-- "1. Flatten the list to spans with their states. Simple spans paint their minutes, later over earlier. 2. At the first non-simple span,
-- with state S, take it and the unbroken run of S spans after it: simple ones paint, the rest form one group. 3. After that every
-- span, simple or not, joins groups of consecutive equal state. 4. Result: painted states, each once with all its maximal runs
-- rising; then the groups, each sorted. Painted order: Open plain, Open commented, Unknown plain, Unknown commented, Closed
-- commented; inside a class by first minute. Painted plain Closed is dropped."
use mathlib.Core.List.{List, [], ◌∷◌, ◌++◌, map, flat_map}
use Rattle.std.proofs.Math.Option.{Option, none, some}
use Rattle.std.specs.Prelude.{Bool, true, false, ◌&&◌, not, cond, ℕ, eqb, leb, ltb}
use Rattle.laws.specs.Lists.{keep}
use Rattle.grid.specs.Group.{Map, groups}
use Rattle.grid.specs.Cut.{Range, coordinates, as_runs}
use Rattle.definition.specs.Rule.{midnight24, Kind, Open, Closed, Unknown, State, closed, same_state, Time, fixed, variable, Span, sorted, Rule}

-- a span with its state
abbrev pub Stated : Type 0
Stated = State × Span

-- a day: states, each with its spans
abbrev pub Entry : Type 0
Entry = State × List Span

abbrev pub Day : Type 0
Day = List Entry

-- ## Simple spans
abbrev pub fixed_within_day : Time → Time → Bool
fixed_within_day (fixed a) (fixed b) = ltb a b && leb b midnight24
fixed_within_day (fixed a) (variable f p) = false
fixed_within_day (variable e o) t = false

abbrev pub no_repeats : Option ℕ → Bool
no_repeats none = true
no_repeats (some n) = false

unfoldable pub simple : Span → Bool
simple s = fixed_within_day s.start s.end && (not s.open_end && no_repeats s.repeats)

-- the minutes of a simple span: from its start up to its end, excluded
abbrev pub minute_of : Time → ℕ
minute_of (fixed m) = m
minute_of (variable e o) = 0

abbrev pub minutes_of : Span → Range
minutes_of s = (minute_of s.start, minute_of s.end)

abbrev pub within : Span → ℕ → Bool
within s m = leb (minute_of s.start) m && ltb m (minute_of s.end)

-- ## Step 1: spans with their states
abbrev pub stated : Entry → List Stated
stated e = map (λ s. (e.0, s)) e.1

unfoldable pub flattened : Day → List Stated
flattened d = flat_map stated d

-- ## Steps 2 and 3: what is painted, and what stays in groups
-- the spans of the unbroken run of S at the front, and what comes after it
unfoldable pub run_of : State → List Stated → List Span
run_of S [] = []
run_of S (x ∷ xs) = elim (same_state x.0 S) [ true ↦ x.1 ∷ run_of S xs | false ↦ [] ]

unfoldable pub after_run : State → List Stated → List Stated
after_run S [] = []
after_run S (x ∷ xs) = elim (same_state x.0 S) [ true ↦ after_run S xs | false ↦ x ∷ xs ]

-- what is painted: the simple spans before the first non-simple one, and the simple ones of its run
unfoldable pub painting : List Stated → List Stated
painting [] = []
painting (x ∷ xs) = elim (simple x.1) [ true ↦ x ∷ painting xs | false ↦ stated (x.0, keep simple (run_of x.0 xs)) ]

-- groups of consecutive equal state
unfoldable pub join_group : Stated → Day → Day
join_group x [] = (x.0, x.1 ∷ []) ∷ []
join_group x (g ∷ gs) = elim (same_state x.0 g.0) [ true ↦ (x.0, x.1 ∷ g.1) ∷ gs | false ↦ (x.0, x.1 ∷ []) ∷ g ∷ gs ]

unfoldable pub by_state : List Stated → Day
by_state [] = []
by_state (x ∷ xs) = join_group x (by_state xs)

-- what stays in groups: the first span that isn't simple, with those of its run that aren't either; then all that follow, by state
-- 01's wrong reading: "Painting simple spans after the first group has ended. They stay in groups."
unfoldable pub grouped : List Stated → Day
grouped [] = []
grouped (x ∷ xs) = elim (simple x.1) [
  | true ↦ grouped xs
  | false ↦ (x.0, x.1 ∷ keep (λ s. not (simple s)) (run_of x.0 xs)) ∷ by_state (after_run x.0 xs)
]

-- ## Step 4: the result
-- the state of the last span that covers the minute, S where none does
unfoldable pub last_over : (Span → ℕ → Bool) → State → List Stated → ℕ → State
last_over covers S [] m = S
last_over covers S (x ∷ xs) m = last_over covers (cond (covers x.1 m) x.0 S) xs m

-- 1 Open plain, 2 Open commented, 3 Unknown plain, 4 Unknown commented, 5 Closed commented; 0 plain Closed, which is dropped
abbrev pub class_of : Kind → ℕ → ℕ
class_of Open comment = cond (eqb comment 0) 1 2
class_of Unknown comment = cond (eqb comment 0) 3 4
class_of Closed comment = cond (eqb comment 0) 0 5

abbrev pub state_class : State → ℕ
state_class S = class_of S.kind S.comment

abbrev pub state_classes : List (State → Bool)
state_classes = map (λ c S. eqb (state_class S) c) (1 ∷ 2 ∷ 3 ∷ 4 ∷ 5 ∷ [])

-- the minutes of a day, as the one dimension of a painting
abbrev pub minute_bounds : Range
minute_bounds = (0, midnight24)

abbrev pub painted : List Stated → Map ℕ State
painted xs [] = closed
painted xs (m ∷ p) = last_over within closed xs m

abbrev pub plain_span : Range → Span
plain_span r = record { start = fixed r.0; end = fixed r.1; open_end = false; repeats = none }

-- a painted state with its runs of minutes, the runs of the one dimension
abbrev pub minute_runs : List (List Range) → List Range
minute_runs [] = []
minute_runs (R ∷ Rs) = R

abbrev pub as_entry : State × List (List Range) → Entry
as_entry g = (g.0, map plain_span (minute_runs g.1))

unfoldable pub painted_entries : List Stated → Day
painted_entries xs = map as_entry (map as_runs (groups same_state eqb closed state_classes (map coordinates (minute_bounds ∷ [])) (painted xs)))

abbrev pub sorted_entry : Entry → Entry
sorted_entry e = (e.0, sorted e.1)

-- "painted states .. then the groups, each sorted"
unfoldable pub day_of : List Stated → Day
day_of xs = painted_entries (painting xs) ++ map sorted_entry (grouped xs)

-- the day of a list of rules
abbrev pub entry_of : Rule → Entry
entry_of r = (r.state, r.spans)

unfoldable pub day : List Rule → Day
day l = day_of (flattened (map entry_of l))
