-- The painted states of the intervals between cuts, written class by class: one dimension of the Rust's paving.
use Rattle.std.specs.Prelude.{List, [], ◌∷◌, ◌++◌, Bool, true, false, cond, ℕ, zero, suc, ◌+◌, eqb, ltb, get_or, set}
use Rattle.laws.specs.Lists.{every}
use Rattle.definition.specs.Day.{state_class}
use Rattle.codes.specs.Number.{state_coded, closed_number, parts_number}
use Rattle.words.specs.Words.{part, entry_words}

-- ## Bounds
-- the number of every time lies below this
abbrev pub time_limit : ℕ
time_limit = 524288

-- the intervals of a day, at most
abbrev pub interval_limit : ℕ
interval_limit = 65536

-- the words of an entry, at most: its state, how many runs it has, and these, one more than there are intervals
abbrev pub entry_limit : ℕ
entry_limit = 65539

-- the words of a class, at most: an entry for each interval
abbrev pub class_limit : ℕ
class_limit = 4295163904

-- the painted states have fewer words than this: 2 ^ 40, more than five classes can have
abbrev pub word_limit : ℕ
word_limit = 1099511627776

-- ## Words
-- a run from a up to c, where there is one
unfoldable pub run_up_to : ℕ → ℕ → List ℕ
run_up_to a c = cond (ltb a c) (parts_number a c 0 0 ∷ []) []

-- the runs of a state from interval j on for r intervals, where a run goes on from a
unfoldable pub runs_from : List ℕ → List ℕ → ℕ → ℕ → ℕ → ℕ → List ℕ
runs_from cuts cells S a j zero = run_up_to a (get_or cuts j 0)
runs_from cuts cells S a j (suc r) = elim (eqb (get_or cells j 0) S) [
  | true ↦ runs_from cuts cells S a (j + 1) r
  | false ↦ run_up_to a (get_or cuts j 0) ++ runs_from cuts cells S (get_or cuts (j + 1) 0) (j + 1) r
]

-- the cells with a state emptied
unfoldable pub clear_from : List ℕ → ℕ → ℕ → ℕ → List ℕ
clear_from cells S j zero = cells
clear_from cells S j (suc r) = clear_from (cond (eqb (get_or cells j 0) S) (set cells j closed_number) cells) S (j + 1) r

unfoldable pub is_of_class : ℕ → ℕ → Bool
is_of_class c S = eqb (state_class (state_coded S)) c

-- the words of a class from interval j on, and the cells that it leaves
unfoldable pub class_words : List ℕ → ℕ → List ℕ → ℕ → ℕ → List ℕ
class_words cuts c cells j zero = []
class_words cuts c cells j (suc r) = elim (is_of_class c (get_or cells j 0)) [
  | true ↦ entry_words (get_or cells j 0) (runs_from cuts cells (get_or cells j 0) (get_or cuts j 0) j (suc r)) ++ class_words cuts c (clear_from cells (get_or cells j 0) j (suc r)) (j + 1) r
  | false ↦ class_words cuts c cells (j + 1) r
]

unfoldable pub class_left : ℕ → List ℕ → ℕ → ℕ → List ℕ
class_left c cells j zero = cells
class_left c cells j (suc r) = elim (is_of_class c (get_or cells j 0)) [ true ↦ class_left c (clear_from cells (get_or cells j 0) j (suc r)) (j + 1) r | false ↦ class_left c cells (j + 1) r ]

-- the words of k classes from c on
unfoldable pub classes_words : List ℕ → ℕ → ℕ → List ℕ → ℕ → List ℕ
classes_words cuts n c cells zero = []
classes_words cuts n c cells (suc k) = class_words cuts c cells 0 n ++ classes_words cuts n (c + 1) (class_left c cells 0 n) k

-- whether n cells from j on are all plain Closed: then there is nothing to sweep
abbrev pub all_closed : List ℕ → ℕ → ℕ → Bool
all_closed cells j n = every (eqb closed_number) (part cells j n)
