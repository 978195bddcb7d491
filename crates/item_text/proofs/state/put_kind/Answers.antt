-- `item_text::state::put_kind` meets its contract, kind by kind.
use mathlib.Core.Path.{ap}
use native.Mathlib.Omega.{arith}
use lib.ListN.{length}
use Rattle.text.proofs.Putting.{put-none, put_as}
use Rattle.item_text.proofs.Spelled.{kind-none, kind-open, kind-closed, kind-unknown}
use Rattle.item_text.proofs.state.put_kind.Goals as goal

pub returns-in-0 : goal.returns-in-0
returns-in-0 c =
    put_as (kind-none c.args.kind c.args.comment (omega arith) (omega arith)) (put-none _ _)

pub put_word-requires : goal.put_word-requires
put_word-requires c =
    let args = c.args in
    omega (arith, c.requires, ap length (kind-open args.kind args.comment (omega arith) c.if-comment-eq0.false))

pub put_word-requires-in-1 : goal.put_word-requires-in-1
put_word-requires-in-1 c =
    let args = c.args in
    omega (arith, c.requires, ap length (kind-closed args.kind args.comment (omega arith) (omega arith)))

pub put_word-requires-in_default : goal.put_word-requires-in_default
put_word-requires-in_default c =
    let args = c.args in
    omega (arith, c.requires, ap length (kind-unknown args.kind args.comment (omega arith) (omega arith)))

pub returns-in-0-2 : goal.returns-in-0-2
returns-in-0-2 c =
    let args = c.args in
    put_as (kind-open args.kind args.comment (omega arith) c.if-comment-eq0.false) c.put_word.ensures

pub returns-in-1 : goal.returns-in-1
returns-in-1 c =
    let args = c.args in
    put_as (kind-closed args.kind args.comment (omega arith) (omega arith)) c.put_word-in-1.ensures

pub returns-in_default : goal.returns-in_default
returns-in_default c =
    let args = c.args in
    put_as (kind-unknown args.kind args.comment (omega arith) (omega arith)) c.put_word-in_default.ensures
