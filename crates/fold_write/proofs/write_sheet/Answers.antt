-- `fold_write::write_sheet` meets its contract: mark and count, the rules of the pages, the rules left, one behind the other.
use native.Mathlib.Omega.{arith}
use borrow.Author.Rules.{rules}
use Rattle.sheet_writer.specs.Frame.{between}
use Rattle.sheet_writer.proofs.Left.{between-length}
use Rattle.page_writer.specs.Paged.{rules_of_pages}
use Rattle.fold_write.proofs.Sheet.{opening-room, rules-room, others-room, sheet-written}
use Rattle.fold_write.proofs.write_sheet.Goals as goal

pub put_opening-first-requires : goal.put_opening-first-requires
put_opening-first-requires c =
    let a = c.args in
    let pre = c.requires in record {
      count_bound = pre.rules_bound;
      room_for = opening-room _ a.rules (rules_of_pages a.paged) (between a.sheet.now a.left.start a.left.end) a.out.now pre.end_len_bound.0 pre.end_len_bound.1;
    }

pub write_pages-place-requires : goal.write_pages-place-requires
write_pages-place-requires c =
    let a = c.args in
    let pre = c.requires in record {
      pages = pre.pages;
      fact = pre.fact;
      countable = pre.countable;
      room_for = rules-room _ a.rules (rules_of_pages a.paged) (between a.sheet.now a.left.start a.left.end) a.out.now pre.end_len_bound.0 pre.end_len_bound.1
          c.put_opening-first.ensures;
    }

pub put_left-requires : goal.put_left-requires
put_left-requires c =
    let a = c.args in
    let pre = c.requires in
    let room = others-room _ a.rules (rules_of_pages a.paged) (between a.sheet.now a.left.start a.left.end) a.out.now pre.end_len_bound.0 pre.end_len_bound.1
    c.put_opening-first.ensures c.write_pages-place.ensures in record {
      start_le_end = pre.start_le_end;
      start_bound = (omega (arith, room.0, between-length a.sheet.now a.left.start a.left.end pre.start_le_end.0 pre.start_le_end.1), room.1);
    }

pub returns : goal.returns
returns c =
    let a = c.args in
    let pre = c.requires in
    let long = between-length a.sheet.now a.left.start a.left.end pre.start_le_end.0 pre.start_le_end.1 in
    sheet-written _ a.rules (rules_of_pages a.paged) (between a.sheet.now a.left.start a.left.end) a.out.now pre.end_len_bound.0 pre.end_len_bound.1
    c.put_opening-first.ensures c.write_pages-place.ensures long c.put_left.ensures (λ j. search rules) (λ j. search rules)
