-- `fold_write::emit_in` meets its contract: what was measured decides, and all three answers are the definition's.
use mathlib.Core.Path.{sym, ◌∙◌}
use native.Mathlib.Omega.{arith}
use borrow.Author.Tests.{ltb-true, ltb-false}
use Rattle.fold_write.proofs.Answer.{not-counted, count_fits, countable, row-bits, no_room_lem, with-room}
use Rattle.fold_write.proofs.emit_in.Goals as goal

pub measure_pages-measured-requires : goal.measure_pages-measured-requires
measure_pages-measured-requires c = record { pages = c.requires.pages; count_bound = omega (arith, c.requires.paged.1.few); fact = c.requires.fact }

pub overflow_add-rules : goal.overflow_add-rules
overflow_add-rules c =
    let pre = c.requires.paged in
    omega (arith, c.measure_pages-measured.ensures.3, pre.1.few, pre.2.left-few)

pub returns-then-rules-most_rules : goal.returns-then-rules-most_rules
returns-then-rules-most_rules c =
    λ rs paged leaving. let m = c.measure_pages-measured.ensures in
    let past = not-counted c.args.form paged leaving m.0 m.2 c.most_rules.ensures c.if-rules-most_rules.true c.args.out.now in
    (c.refused.ensures ∙ past.0, past.1)

pub returns-then-lacks_room : goal.returns-then-lacks_room
returns-then-lacks_room c =
    λ rs paged leaving. let m = c.measure_pages-measured.ensures in
    let lacking = ltb-true _ _ (sym c.lacks_room.ensures ∙ c.if-lacks_room.true) in
    let full = no_room_lem c.args.form paged leaving m.0 m.1 c.opening_width.ensures.0 m.2 c.most_rules.ensures
    c.if-rules-most_rules.false c.args.out.now lacking in
    (c.refused-then-lacks_room.ensures ∙ full.0, full.1)

pub write_sheet-requires : goal.write_sheet-requires
write_sheet-requires c =
    let paged = c.requires.paged.1 in
    let leaving = c.requires.paged.2 in
    let m = c.measure_pages-measured.ensures in
    let opened = c.opening_width.ensures in
    let form = c.args.form in
    let long = row-bits form paged leaving m.0 m.1 opened.0 in
    let enough = ltb-false _ _ (sym c.lacks_room.ensures ∙ c.if-lacks_room.false) in record {
      pages = c.requires.pages;
      fact = m.5;
      start_le_end = (leaving.ordered, leaving.inside, omega (arith, leaving.low));
      rules_bound = count_fits form paged leaving m.0 m.2 c.most_rules.ensures c.if-rules-most_rules.false;
      countable = countable form paged leaving m.0 m.2 c.most_rules.ensures c.if-rules-most_rules.false;
      end_len_bound = (omega (arith, long, enough), omega (arith, long, m.4, paged.few, leaving.low, opened.1));
    }

pub returns : goal.returns
returns c =
    λ rs paged leaving. let m = c.measure_pages-measured.ensures in
    let enough = ltb-false _ _ (sym c.lacks_room.ensures ∙ c.if-lacks_room.false) in
    with-room c.args.form paged leaving m.0 m.1 c.opening_width.ensures.0 m.2 c.most_rules.ensures
    c.if-rules-most_rules.false c.args.out.now _ enough c.write_sheet.ensures
