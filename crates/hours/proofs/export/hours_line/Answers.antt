-- A slice too short is left as it is, and else the answer stands at its front.
use mathlib.Core.Path.{refl, ap, ◌∙◌}
use lib.ListN.{length}
use Rattle.definition.specs.Fold.{buffer}
use Rattle.hours.proofs.Lent.{too_short, has_room, long-enough}
use Rattle.hours.proofs.export.hours_line.Goals as goal

pub returns-then-lacks_room : goal.returns-then-lacks_room
returns-then-lacks_room c = (too_short 3 (length c.args.lent.now) _ c.lacks_room.ensures c.if-lacks_room.true, refl, refl)

pub put_written-requires : goal.put_written-requires
put_written-requires c = has_room 3 (length c.args.lent.now) _ c.lacks_room.ensures c.if-lacks_room.false

pub returns : goal.returns
returns c =
    let answer = c.line.ensures in (
      long-enough 3 (length c.args.lent.now) _ c.lacks_room.ensures c.if-lacks_room.false,
      c.put_written.ensures ∙ ap (λ n. buffer n c.args.lent.now) answer.0,
      answer.1,
    )
