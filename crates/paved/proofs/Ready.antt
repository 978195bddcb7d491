-- EVERY LIST IN USE CAN BE FOLDED, and a sheet can carry its day: its rules stand in the tables, its day has room, and what the tables hold can
-- be carried. Rests on the entries of tables and on the size of a day.
use mathlib.Core.Path.{◌≡◌, refl, sym, subst}
use mathlib.Core.Bool.{Bool, true, false}
use mathlib.Core.List.{List, map}
use Prim.Native.Nat.{ℕ, zero, suc, ◌+◌, ◌*◌, ◌≤◌, ◌<◌}
use native.Mathlib.Nat.{le-mul_of_pos_right}
use native.Mathlib.Omega.{arith}
use lib.Pow.{pow_pos}
use lib.Dec.{ltb}
use lib.ListN.{length, get_or, get_or-eq_default}
use borrow.Author.Tests.{ltb-true, ltb-false}
use Rattle.laws.specs.Lists.{All}
use Rattle.laws.proofs.Lists.{All-at, every-all}
use Rattle.definition.specs.Rule.{Rule, no_rule}
use Rattle.definition.specs.Sheet.{Form, form2, sheet_limits, span}
use Rattle.definition.specs.Point.{dimensions}
use Rattle.definition.specs.Day.{Entry}
use Rattle.definition.proofs.Lawful.{items-fit}
use Rattle.codes.specs.Number.{state_coded, span_at}
use Rattle.words.specs.Words.{part}
use Rattle.day_flat.specs.Day.{unflat}
use Rattle.day_flat.proofs.Room.{day-room}
use Rattle.tables.specs.Days.{FitsSpan, Carried, box_words, Ready}
use Rattle.paving.specs.Grid.{size_of, width_of, Node, Room}
use Rattle.tables.specs.Lists.{list_of, NamedLists}
use Rattle.tables.proofs.Lists.{list_length}
use Rattle.paving_points.proofs.Boxes.{lawful-bounded}
use Rattle.paving_pages.specs.Pages.{CutRows}
use Rattle.paving_pages.proofs.Rules.{cut-rows}
use Rattle.paved.proofs.Carrying.{box-carried}
use Rattle.tables.specs.Rules.{RuleTimes, Commented, AllCommented}
use Rattle.tables.specs.Sizes.{list_places, list_limit, day_room}
use Rattle.tables.proofs.Days.{fits-lawful}
use Rattle.tables.proofs.Times.{entry-back}

-- ## Tables
module _ (states counts spans : List ℕ) (rs : List Rule) (tables : RuleTimes states counts spans rs) where
  -- past the last rule there are no spans
  counts_past : (r : ℕ) → length rs ≤ r → get_or counts r 0 ≡ 0
  counts_past r l = get_or-eq_default counts 0 (omega (arith, tables.all-counts))

  counts-few : (r : ℕ) → get_or counts r 0 ≤ 16
  counts-few r = go (ltb r (length rs)) refl
    where
      go : (b : Bool) → ltb r (length rs) ≡ b → get_or counts r 0 ≤ 16
      go true e = let h = tables.each r (ltb-true r (length rs) e) in omega (arith, h.count_held, h.few-held)
      go false e = omega (arith, counts_past r (ltb-false r (length rs) e))

  entries_fit : (form : Form) → AllCommented form rs → (r : ℕ) → Commented form (state_coded (get_or states r 0)) × All FitsSpan (map span_at (part spans (r * 16) (get_or counts r 0)))
  unfolding state_coded part
  entries_fit form commented r = go (ltb r (length rs)) refl
    where
      go : (b : Bool) → ltb r (length rs) ≡ b → Commented form (state_coded (get_or states r 0)) × All FitsSpan (map span_at (part spans (r * 16) (get_or counts r 0)))
      go true e =
          let l = ltb-true r (length rs) e in
          let named = get_or rs r no_rule in
          let f = All-at _ rs no_rule tables.fits r l in
          subst (λ (x : Entry). Commented form x.0 × All FitsSpan x.1) (sym (entry-back states counts spans r named (tables.each r l) f))
          (All-at _ rs no_rule commented r l, every-all FitsSpan span.fits (λ s k. k) named.spans (items-fit form2 sheet_limits named f).spans_fit)
      go false e =
          let l = ltb-false r (length rs) e in
          let s : get_or states r 0 ≡ 0 = get_or-eq_default states 0 (omega (arith, l, tables.all-states)) in
          rw (s, counts_past r l) (pow_pos form.comment, tt)

  -- ## Lists
  module _ (rows sizes cuts cells lists : List ℕ) (used : ℕ) (boxed : NamedLists rows sizes cuts cells lists used rs) where
    -- the rows are those that popping requires
    pub rows_cut : CutRows rows cuts sizes 4
    rows_cut =
        cut-rows rows sizes cuts rs dimensions boxed.cut.cut_by (lawful-bounded rs (fits-lawful rs tables.fits))
        boxed.cut.all-rows (omega (arith, boxed.cut.four)) boxed.cut.inside

    pub list-ready : (i : ℕ) → i < used → Ready states counts spans lists day_room i
    list-ready i l = record {
      there = omega (arith, boxed.room);
      short = short;
      tabled = record { named = λ j k. inside (get_or (list_of lists i) j 0) (All-at _ (list_of lists i) 0 (boxed.earlier i l) j k); few = counts-few };
      wordy = unfold box_words in omega (arith, day-room states counts spans (list_of lists i) counts-few 0 (length (list_of lists i)), list_length lists i, short);
    }
      where
        short : get_or lists (i * list_places) 0 ≤ list_limit
        short = boxed.short i l

        inside : (x : ℕ) → x < length rs → (x < length states) × (x < length counts) × (x * 16 + 16 ≤ length spans)
        inside x h = (omega (arith, tables.all-states), omega (arith, tables.all-counts), omega (arith, tables.all-spans))

    pub list-carried : (form : Form) → AllCommented form rs → (i : ℕ) → i < used → All (Carried form) (unflat (box_words states counts spans lists i))
    list-carried form commented i l = box-carried form states counts spans counts-few (entries_fit form commented) lists i (boxed.short i l)

-- ## Room to pop
-- the intervals of all dimensions are hardly more than the boxes
width_few : (sizes : List ℕ) (l : ℕ) → ((i : ℕ) → i < l → 1 ≤ get_or sizes i 0) → (1 ≤ size_of sizes l) × (width_of sizes l + 1 ≤ size_of sizes l + l)
width_few sizes zero filled = unfold size_of width_of in (omega arith, omega arith)
width_few sizes (suc l) filled = go (get_or sizes l 0) refl (width_few sizes l (λ i h. filled i (omega arith)))
  where
    go : (n : ℕ) → get_or sizes l 0 ≡ n → (1 ≤ size_of sizes l) × (width_of sizes l + 1 ≤ size_of sizes l + l) → (1 ≤ size_of sizes (suc l)) × (width_of sizes (suc l) + 1 ≤ size_of sizes (suc l) + suc l)
    go zero e k = absurd (omega (arith, filled l (omega arith)))
    go (suc n) e k = unfold size_of width_of in rw e (omega (arith, le-mul_of_pos_right n k.0), omega (arith, le-mul_of_pos_right n k.0))

pub boxes-room : (sizes : List ℕ) (cells marks : ℕ) → Node cells sizes 4 0 → size_of sizes 4 + 3 ≤ marks → Room cells marks sizes 4 0 0
boxes-room sizes cells marks column m = record { column = column; marked = omega (arith, (width_few sizes 4 column.filled).1) }
