-- `rule_text::row::show_days_of` meets its contract: the items, and the space behind them.
use native.Mathlib.Omega.{arith}
use Rattle.definition.specs.Field.{sheet_bits}
use Rattle.item.specs.Sort.{number_of}
use Rattle.text.proofs.Putting.{put_then}
use Rattle.rule_text.proofs.Telling.{shows-as, shows_nothing}
use Rattle.rule_text.proofs.Rows.{part_none, part-some, part-long}
use Rattle.rule_text.proofs.row.show_days_of.Goals as goal

pub returns-then-count-eq0 : goal.returns-then-count-eq0
returns-then-count-eq0 c =
    shows-as (part_none _ _ _ _ c.if-count-eq0.true) (shows_nothing _ _ _)

pub put_opening-opening-requires : goal.put_opening-opening-requires
put_opening-opening-requires c =
    let args = c.args in
    omega (arith, c.requires.1, part-long (number_of args.sort) (sheet_bits args.sheet.now) args.at args.count c.if-count-eq0.false)

pub show_row-items-requires : goal.show_row-items-requires
show_row-items-requires c =
    let args = c.args in
    let pre = c.requires in (
      pre.0,
      omega (
        arith,
        pre.1,
        part-long (number_of args.sort) (sheet_bits args.sheet.now) args.at args.count c.if-count-eq0.false,
        c.put_opening-opening.ensures.ends,
      ),
    )

pub put_byte-requires : goal.put_byte-requires
put_byte-requires c =
    let args = c.args in
    omega (
      arith,
      c.requires.1,
      part-long (number_of args.sort) (sheet_bits args.sheet.now) args.at args.count c.if-count-eq0.false,
      c.put_opening-opening.ensures.ends,
      c.show_row-items.ensures.put.ends,
    )

pub returns : goal.returns
returns c =
    let items = c.show_row-items.ensures in
    shows-as (part-some _ _ _ _ c.if-count-eq0.false)
    (record {
      read-to = items.read-to;
      lacks = items.lacks;
      put = put_then c.put_opening-opening.ensures (put_then items.put c.put_byte.ensures);
    })
