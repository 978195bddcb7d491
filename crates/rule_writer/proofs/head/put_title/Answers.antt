-- `rule_writer::head::put_title` meets its contract.
use mathlib.Core.Path.{◌∙◌}
use Prim.Native.Nat.{◌<◌, ◌^◌}
use native.Mathlib.Omega.{arith}
use Rattle.codes.specs.Number.{state_coded}
use Rattle.codes.proofs.Numbers.{kind-number}
use Rattle.item_writer.proofs.Chain.{room_as, wrote_as}
use Rattle.item_writer.proofs.Joined.{three_carried}
use Rattle.rule_writer.proofs.Items.{title-bits}
use Rattle.rule_writer.proofs.head.put_title.Goals as goal

pub then-requires : goal.then-requires
then-requires c =
    let kind = c.from.ensures ∙ c.kind_of.ensures in
    (c.new.ensures.fits, (omega arith, omega (arith, kind, kind-number c.args.state)), omega (arith, c.new.ensures.spans))

pub then-title-requires : goal.then-title-requires
then-title-requires c =
    let low : (state_coded c.args.state).comment < 2 ^ c.comment_width.result = rw c.comment_width.ensures.0 c.requires.operator_bound.1 in (
      c.then.ensures.fits,
      (omega (arith, c.comment_width.ensures.1), omega (arith, c.comment_of.ensures, low)),
      omega (arith, c.comment_width.ensures.1, c.then.ensures.spans, c.new.ensures.spans),
    )

pub put-requires : goal.put-requires
put-requires c =
    let kind = c.from.ensures ∙ c.kind_of.ensures in record {
      fits = c.then-title.ensures.fits;
      room_for = room_as
          (title-bits _ c.args.operator c.args.state _ _ _ c.requires.operator_bound.0 kind c.comment_of.ensures c.comment_width.ensures.0
          ∙ three_carried 2 c.from.result c.new.ensures c.then.ensures c.comment_width.result c.comment_of.result c.then-title.ensures) c.requires.room_for;
    }

pub returns : goal.returns
returns c =
    let kind = c.from.ensures ∙ c.kind_of.ensures in
    wrote_as
    (title-bits _ c.args.operator c.args.state _ _ _ c.requires.operator_bound.0 kind c.comment_of.ensures c.comment_width.ensures.0
    ∙ three_carried 2 c.from.result c.new.ensures c.then.ensures c.comment_width.result c.comment_of.result c.then-title.ensures) c.put.ensures
