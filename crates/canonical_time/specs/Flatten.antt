-- The states and spans of a list of rule numbers, taken from the tables: these have a state for each rule, how many spans it has, and its spans
-- from sixteen times its number on.
use Rattle.std.specs.Prelude.{List, [], ◌++◌, ℕ, zero, suc, ◌+◌, ◌*◌, get_or, replicate}
use Rattle.words.specs.Words.{part}

-- the state of each span of rules i on of the list, r of them, and the spans
unfoldable pub states_from : List ℕ → List ℕ → List ℕ → ℕ → ℕ → List ℕ
states_from states counts list i zero = []
states_from states counts list i (suc r) = replicate (get_or counts (get_or list i 0) 0) (get_or states (get_or list i 0) 0) ++ states_from states counts list (i + 1) r

unfoldable pub spans_from : List ℕ → List ℕ → List ℕ → ℕ → ℕ → List ℕ
spans_from counts spans list i zero = []
spans_from counts spans list i (suc r) = part spans (get_or list i 0 * 16) (get_or counts (get_or list i 0) 0) ++ spans_from counts spans list (i + 1) r
