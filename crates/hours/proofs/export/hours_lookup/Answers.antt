-- A slice too short is left as it is, and else the answer stands at its front.
use mathlib.Core.Path.{refl, ap, ◌∙◌}
use lib.ListN.{length}
use Rattle.definition.specs.Fold.{buffer}
use Rattle.definition.specs.Lookup.{numbers}
use Rattle.hours.proofs.Lent.{too_short, has_room, long-enough}
use Rattle.hours.proofs.export.hours_lookup.Goals as goal

pub returns-then-lacks_room : goal.returns-then-lacks_room
returns-then-lacks_room c = (too_short 4 (length c.args.lent.now) _ c.lacks_room.ensures c.if-lacks_room.true, refl)

pub put_looked-requires : goal.put_looked-requires
put_looked-requires c = has_room 4 (length c.args.lent.now) _ c.lacks_room.ensures c.if-lacks_room.false

pub returns : goal.returns
returns c =
    let answer = c.lookup.ensures in (
      long-enough 4 (length c.args.lent.now) _ c.lacks_room.ensures c.if-lacks_room.false,
      c.put_looked.ensures ∙ ap (λ k. buffer (numbers k) c.args.lent.now) answer,
    )
