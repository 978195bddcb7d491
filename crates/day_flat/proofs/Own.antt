-- THE DAY OF A LIST OVER TABLES HAS NUMBERS OF ITS OWN, so its flat form tells it apart from every other one. Rests on the law that what
-- holds of a list's states and spans holds of its day's.
use mathlib.Core.Path.{ap}
use mathlib.Core.List.{List, [], ◌∷◌, map, flat_map}
use Prim.Native.Nat.{ℕ, zero, suc, ◌+◌, ◌*◌}
use native.Mathlib.Omega.{arith}
use lib.ListN.{get_or}
use Rattle.laws.proofs.Lists.{All-map, All-append}
use Rattle.grid.specs.Cut.{Range}
use Rattle.definition.specs.Day.{stated, flattened, plain_span, entry_of, day}
use Rattle.definition.proofs.Faithful.{Always}
use Rattle.definition.proofs.PaintedShows.{ProperRun}
use Rattle.definition.proofs.DayHolds.{InList, day-holds}
use Rattle.codes.specs.Number.{state_coded, time_number, span_at}
use Rattle.codes.proofs.Numbers.{span-number, number-span}
use Rattle.words.specs.Words.{part}
use Rattle.day_flat.specs.Day.{list_rules, OwnSpan, OwnNumbers}

plain-own : (r : Range) → ProperRun r → OwnSpan (plain_span r)
plain-own r h = number-span (plain_span r)
    (unfold time_number in record { starts = omega (arith, h.0, h.1); ends = omega (arith, h.1); early = omega (arith, h.1); few = omega arith })

entry-own : (s : ℕ) (ps : List ℕ) → InList Always OwnSpan (stated (state_coded s, map span_at ps))
entry-own s [] = tt
entry-own s (p ∷ ps) = ((tt, ap span_at (span-number p)), entry-own s ps)

module _ (states counts spans list : List ℕ) where
  rules-own : (i r : ℕ) → InList Always OwnSpan (flattened (map entry_of (list_rules states counts spans list i r)))
  unfolding flattened flat_map list_rules
  rules-own i zero = tt
  rules-own i (suc r) =
      All-append (λ x. Always x.0 × OwnSpan x.1)
      (stated (state_coded (get_or states (get_or list i 0) 0), map span_at (part spans (get_or list i 0 * 16) (get_or counts (get_or list i 0) 0))))
      (flattened (map entry_of (list_rules states counts spans list (i + 1) r)))
      (entry-own (get_or states (get_or list i 0) 0) (part spans (get_or list i 0 * 16) (get_or counts (get_or list i 0) 0)))
      (rules-own (i + 1) r)

  pub day-own : (i r : ℕ) → OwnNumbers (day (list_rules states counts spans list i r))
  day-own i r =
      All-map (λ e h. h.1) (day (list_rules states counts spans list i r))
      (day-holds Always OwnSpan plain-own (list_rules states counts spans list i r) (rules-own i r))
