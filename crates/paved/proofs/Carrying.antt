-- A BOX'S DAY CAN BE CARRIED by a sheet, if the tables hold states and spans that a sheet can carry: its states are the tables', its spans the
-- tables' or painted runs of minutes, and they are few. Rests on the laws that what holds of a list's states and spans holds of its
-- day's, and that an entry has at most one span more than the list.
use mathlib.Core.Path.{refl, sym, subst}
use mathlib.Core.List.{List, [], ◌∷◌, map, flat_map}
use Prim.Native.Nat.{ℕ, zero, suc, ◌+◌, ◌*◌, ◌≤◌}
use native.Mathlib.Omega.{arith}
use lib.ListN.{length, get_or, length-append, length-map}
use borrow.Author.Tests.{lt-ltb, le-leb}
use Rattle.laws.specs.Lists.{All}
use Rattle.laws.proofs.Lists.{All-append, All-map₂}
use Rattle.grid.specs.Cut.{Range}
use Rattle.definition.specs.Field.{no_bits, field, ◌then◌, via, tagged}
use Rattle.definition.specs.Rule.{State, Span}
use Rattle.definition.specs.Sheet.{Form, time_of, time, repeats_of, repeats_layout, span}
use Rattle.definition.specs.Day.{Stated, stated, flattened, plain_span, entry_of, day}
use Rattle.definition.proofs.PaintedShows.{ProperRun}
use Rattle.definition.proofs.DayHolds.{InList, day-holds}
use Rattle.definition.proofs.Spans.{day-brief}
use Rattle.codes.specs.Number.{state_coded, span_at}
use Rattle.words.specs.Words.{part}
use Rattle.words.proofs.Sets.{length_part}
use Rattle.day_flat.specs.Day.{list_rules, unflat}
use Rattle.day_flat.proofs.Flat.{unflat-flat}
use Rattle.day_flat.proofs.Own.{day-own}
use Rattle.tables.specs.Rules.{Commented}
use Rattle.tables.specs.Days.{FitsSpan, Carried, box_words}
use Rattle.tables.specs.Sizes.{list_places, list_limit}
use Rattle.tables.specs.Lists.{list_of}
use Rattle.tables.proofs.Lists.{list_length}

-- a painted run of minutes
plain_fits : (r : Range) → ProperRun r → FitsSpan (plain_span r)
unfolding span time time_of repeats_layout repeats_of no_bits tagged via ◌then◌ field
plain_fits r h =
    rw (lt-ltb r.0 4096 (omega (arith, h.0, h.1)), le-leb r.0 2880 (omega (arith, h.0, h.1)), lt-ltb r.1 4096 (omega (arith, h.1)), le-leb r.1 2880 (omega (arith, h.1))) refl

entry-holds : (form : Form) (S : State) (ss : List Span) → Commented form S → All FitsSpan ss → InList (Commented form) FitsSpan (stated (S, ss))
entry-holds form S [] h k = tt
entry-holds form S (s ∷ ss) h k = ((h, k.0), entry-holds form S ss h k.1)

module _ (form : Form) (states counts spans : List ℕ) (few : (r : ℕ) → get_or counts r 0 ≤ 16)
    (fits : (r : ℕ) → Commented form (state_coded (get_or states r 0)) × All FitsSpan (map span_at (part spans (r * 16) (get_or counts r 0)))) where
  module _ (list : List ℕ) where
    abbrev listed : ℕ → ℕ → List Stated
    listed i n = flattened (map entry_of (list_rules states counts spans list i n))

    rules-hold : (i n : ℕ) → InList (Commented form) FitsSpan (listed i n) × (length (listed i n) ≤ 16 * n)
    unfolding flattened flat_map list_rules
    rules-hold i zero = (tt, omega arith)
    rules-hold i (suc n) = (
      All-append (λ x. Commented form x.0 × FitsSpan x.1) first (listed (i + 1) n)
          (entry-holds form (state_coded (get_or states rule 0)) (map span_at ps) (fits rule).0 (fits rule).1) (rules-hold (i + 1) n).0,
      omega (
        arith,
        length-append first (listed (i + 1) n),
        length-map {B = Stated} (map span_at ps) (λ s. (state_coded (get_or states rule 0), s)),
        length-map ps span_at,
        length_part spans (rule * 16) (get_or counts rule 0),
        few rule,
        (rules-hold (i + 1) n).1,
      ),
    )
      where
        rule : ℕ
        rule = get_or list i 0

        ps : List ℕ
        ps = part spans (rule * 16) (get_or counts rule 0)

        first : List Stated
        first = stated (state_coded (get_or states rule 0), map span_at ps)

    pub day-carried : (i n : ℕ) → n ≤ list_limit → All (Carried form) (day (list_rules states counts spans list i n))
    day-carried i n l =
        All-map₂ (λ e p b. record { commented = p.0; spanned = p.1; few = omega (arith, b, l, (rules-hold i n).1) }) (day (list_rules states counts spans list i n))
        (day-holds (Commented form) FitsSpan plain_fits (list_rules states counts spans list i n) (rules-hold i n).0) (day-brief (list_rules states counts spans list i n))

  -- as pages ask for it
  pub box-carried : (lists : List ℕ) (box : ℕ) → get_or lists (box * list_places) 0 ≤ list_limit → All (Carried form) (unflat (box_words states counts spans lists box))
  unfolding box_words
  box-carried lists box l =
      let list = list_of lists box in
      let n = length list in
      subst (All (Carried form)) (sym (unflat-flat (day (list_rules states counts spans list 0 n)) (day-own states counts spans list 0 n))) (day-carried list 0 n (omega (arith, l, list_length lists box)))
