-- The flat form of a day, as words: for each entry its state, how many spans it has, and these; and a day read back from words. And the rules
-- that a list of numbers names in the tables: only with their states and spans, which are all that a day depends on.
use Rattle.std.specs.Prelude.{◌≡◌, List, [], ◌∷◌, ◌++◌, map, Bool, ℕ, zero, suc, ◌+◌, ◌*◌, ◌%◌, eqb, get_or}
use Rattle.laws.specs.Lists.{All}
use Rattle.definition.specs.Rule.{Normal, kind_number, Span, Rule}
use Rattle.definition.specs.Day.{Stated, Entry, Day}
use Rattle.definition.specs.Group.{as_rule}
use Rattle.codes.specs.Number.{state_number, state_coded, span_number, span_at}
use Rattle.words.specs.Words.{part, entry_words}

unfoldable pub flat : Day → List ℕ
flat [] = []
flat (e ∷ d) = entry_words (state_number e.0) (map span_number e.1) ++ flat d

-- the spans that k words at the front stand for, and the entries that the words after them do; of words that break off, what is there
unfoldable pub unflat_from : ℕ → List ℕ → List Span × Day
unflat_from zero [] = ([], [])
unflat_from (suc k) [] = ([], [])
unflat_from zero (w ∷ []) = ([], (state_coded w, []) ∷ [])
unflat_from zero (w ∷ n ∷ ws) = let r = unflat_from n ws in ([], (state_coded w, r.0) ∷ r.1)
unflat_from (suc k) (w ∷ ws) = let r = unflat_from k ws in (span_at w ∷ r.0, r.1)

abbrev pub unflat : List ℕ → Day
unflat ws = (unflat_from 0 ws).1

-- a day whose spans have numbers of their own, as every state has
abbrev pub OwnSpan : Span → Type 0
OwnSpan s = span_at (span_number s) ≡ s

abbrev pub OwnNumbers : Day → Type 0
OwnNumbers = All (λ e. All OwnSpan e.1)

-- an entry of the kind with this number
abbrev pub of_kind : ℕ → Entry → Bool
of_kind k e = eqb (kind_number e.0.kind) k

-- the rules that r numbers from place i of the list on name
unfoldable pub list_rules : List ℕ → List ℕ → List ℕ → List ℕ → ℕ → ℕ → List Rule
list_rules states counts spans list i zero = []
list_rules states counts spans list i (suc r) =
    as_rule Normal (state_coded (get_or states (get_or list i 0) 0), map span_at (part spans (get_or list i 0 * 16) (get_or counts (get_or list i 0) 0)))
    ∷ list_rules states counts spans list (i + 1) r

-- numbers of states and spans, one for one, as spans with their states
unfoldable pub pairs : List ℕ → List ℕ → List Stated
pairs [] ps = []
pairs (x ∷ xs) [] = []
pairs (x ∷ xs) (p ∷ ps) = (state_coded x, span_at p) ∷ pairs xs ps

-- a number that equal days share
abbrev pub mixed : ℕ → ℕ → ℕ
mixed acc w = (acc * 1009 + w % 1000003) % 1000003

unfoldable pub fingerprint_of : ℕ → List ℕ → ℕ
fingerprint_of acc [] = acc
fingerprint_of acc (w ∷ ws) = fingerprint_of (mixed acc w) ws
