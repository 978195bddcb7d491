-- HOW MANY WORDS A DAY HAS: at most 64 for each rule of the list and one, where a rule has at most 16 spans. Rests on the size of a day.
use mathlib.Core.Path.{◌≡◌, refl}
use mathlib.Core.List.{List, [], ◌∷◌, map, flat_map}
use Prim.Native.Nat.{ℕ, zero, suc, ◌+◌, ◌*◌, ◌≤◌}
use native.Mathlib.Omega.{arith}
use lib.ListN.{length, get_or, length-append, length-map}
use Rattle.laws.specs.Lists.{sum}
use Rattle.definition.specs.Day.{Stated, Day, stated, flattened, entry_of, day}
use Rattle.definition.proofs.DaySize.{total, day-total}
use Rattle.codes.specs.Number.{state_coded, span_number, span_at}
use Rattle.words.specs.Words.{part, entry_words}
use Rattle.words.proofs.Sets.{length_part}
use Rattle.day_flat.specs.Day.{flat, list_rules}

flat-length : (d : Day) → length (flat d) ≡ total d
unfolding flat entry_words sum
flat-length [] = refl
flat-length (e ∷ d) = omega (arith, length-append (map span_number e.1) (flat d), length-map e.1 span_number, flat-length d)

module _ (states counts spans list : List ℕ) (few : (r : ℕ) → get_or counts r 0 ≤ 16) where
  list_length : (i r : ℕ) → length (flattened (map entry_of (list_rules states counts spans list i r))) ≤ 16 * r
  unfolding flattened flat_map list_rules
  list_length i zero = omega arith
  list_length i (suc r) =
      let rule : ℕ = get_or list i 0 in
      let ps : List ℕ = part spans (rule * 16) (get_or counts rule 0) in
      omega (
        arith,
        length-append (stated (state_coded (get_or states rule 0), map span_at ps)) (flattened (map entry_of (list_rules states counts spans list (i + 1) r))),
        length-map {B = Stated} (map span_at ps) (λ s. (state_coded (get_or states rule 0), s)),
        length-map ps span_at,
        length_part spans (rule * 16) (get_or counts rule 0),
        few rule,
        list_length (i + 1) r,
      )

  pub day-room : (i r : ℕ) → length (flat (day (list_rules states counts spans list i r))) ≤ 64 * r + 1
  day-room i r = omega (arith, flat-length (day (list_rules states counts spans list i r)), day-total (list_rules states counts spans list i r), list_length i r)
