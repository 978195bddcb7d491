-- The states and spans that `flatten` wrote are the spans of the list, each with its state.
use mathlib.Core.Path.{◌≡◌, refl, ap, ◌∙◌}
use mathlib.Core.List.{List, ◌∷◌, ◌++◌, map, flat_map}
use Prim.Native.Nat.{ℕ, zero, suc, ◌+◌, ◌*◌}
use lib.ListN.{get_or, replicate}
use Rattle.definition.specs.Day.{stated, flattened, entry_of}
use Rattle.codes.specs.Number.{state_coded, span_at}
use Rattle.words.specs.Words.{part}
use Rattle.canonical_time.specs.Flatten.{states_from, spans_from}
use Rattle.day_flat.specs.Day.{list_rules, pairs}

pairs-run : (S n a : ℕ) (spans X P : List ℕ) → pairs (replicate n S ++ X) (part spans a n ++ P) ≡ stated (state_coded S, map span_at (part spans a n)) ++ pairs X P
unfolding pairs part
pairs-run S zero a spans X P = refl
pairs-run S (suc n) a spans X P = ap ((state_coded S, span_at (get_or spans a 0)) ∷◌) (pairs-run S n (a + 1) spans X P)

-- THE LIST'S SPANS WITH THEIR STATES
pub pairs-list : (states counts spans list : List ℕ) (i r : ℕ)
    → pairs (states_from states counts list i r) (spans_from counts spans list i r) ≡ flattened (map entry_of (list_rules states counts spans list i r))
unfolding pairs states_from spans_from list_rules flattened flat_map
pairs-list states counts spans list i zero = refl
pairs-list states counts spans list i (suc r) =
    pairs-run (get_or states (get_or list i 0) 0) (get_or counts (get_or list i 0) 0) (get_or list i 0 * 16) spans (states_from states counts list (i + 1) r)
    (spans_from counts spans list (i + 1) r)
    ∙ ap (stated (state_coded (get_or states (get_or list i 0) 0), map span_at (part spans (get_or list i 0 * 16) (get_or counts (get_or list i 0) 0))) ++◌)
    (pairs-list states counts spans list (i + 1) r)
