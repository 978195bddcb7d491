-- `sheet_writer::put_opening` meets its contract: the mark, then the count.
use mathlib.Core.Path.{refl}
use native.Mathlib.Omega.{arith}
use Rattle.forms.proofs.Numbers.{mark-fits}
use Rattle.item_writer.proofs.Chain.{wrote_then, room-first, room-rest, room_as, wrote_as}
use Rattle.sheet_writer.proofs.Frame.{opening-bits}
use Rattle.sheet_writer.proofs.put_opening.Goals as goal

pub put-count_at-requires : goal.put-count_at-requires
put-count_at-requires c =
    let width = c.mark_width.ensures in
    let whole = room_as (opening-bits _ _ _ _ c.args.count width.0 c.mark.ensures.0 refl) c.requires.room_for in
    record { fits = (omega (arith, width.1), mark-fits c.args.form _ _ width.0 c.mark.ensures.0); room_for = room-first _ _ whole }

pub put-requires : goal.put-requires
put-requires c =
    let wide = c.rule_count_width.ensures in
    let whole = room_as (opening-bits _ _ _ _ c.args.count c.mark_width.ensures.0 c.mark.ensures.0 wide.0) c.requires.room_for in
    record { fits = (omega (arith, wide.1), rw wide.0 c.requires.count_bound); room_for = room-rest c.put-count_at.ensures _ whole }

pub returns : goal.returns
returns c =
    wrote_as
    (opening-bits _ _ _ _ c.args.count c.mark_width.ensures.0 c.mark.ensures.0 c.rule_count_width.ensures.0)
    (wrote_then c.put-count_at.ensures c.put.ensures)
