-- `rule_text::row::show_others` meets its contract: what is put so far and what is left make the whole.
use mathlib.Core.Path.{refl}
use native.Mathlib.Omega.{arith}
use Rattle.definition.specs.Field.{sheet_bits}
use Rattle.item.specs.Sort.{number_of}
use Rattle.text.proofs.Putting.{put-length}
use Rattle.rule_text.proofs.Rows.{item-near, ahead-as, ahead-start, ahead-room, ahead-next, ahead-end}
use Rattle.rule_text.proofs.row.show_others.Goals as goal

pub loop-item-init : goal.loop-item-init
loop-item-init c = record { near = omega arith; ahead = ahead-as (omega arith) (ahead-start _ _ _ _ _ _) }

pub put_byte-comma-requires : goal.put_byte-comma-requires
put_byte-comma-requires c = omega (arith, ahead-room c.loop-item.invariant.ahead (omega arith) c.requires.1)

pub show_one-item-requires : goal.show_one-item-requires
show_one-item-requires c =
    let pre = c.requires in (
      omega (arith, c.loop-item.invariant.near, pre.0),
      omega (arith, ahead-room c.loop-item.invariant.ahead (omega arith) pre.1, c.put_byte-comma.ensures.ends),
    )

pub loop-item-preserved : goal.loop-item-preserved
loop-item-preserved c =
    let old = c.loop-item in
    let near = item-near (number_of c.args.sort) (sheet_bits c.args.sheet.now) old.at in record {
      near = omega (arith, near, c.show_one-item.ensures.read-to, old.invariant.near);
      ahead = ahead-as (omega arith) (ahead-next old.invariant.ahead (omega arith) c.put_byte-comma.ensures c.show_one-item.ensures _ refl);
    }

pub shape_of-out : goal.shape_of-out
shape_of-out c = put-length c.loop-item.invariant.ahead.put

pub returns : goal.returns
returns c = ahead-end c.loop-item.invariant.ahead (omega arith)
