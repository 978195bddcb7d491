-- `item_text::state::put_comment` meets its contract.
use mathlib.Core.Path.{sym}
use native.Mathlib.Omega.{arith}
use Rattle.text.proofs.Putting.{put-none, put_then, put_as}
use Rattle.item_text.specs.State.{state_of}
use Rattle.item_text.proofs.Spelled.{comment-none, comment-some, comment-long}
use Rattle.item_text.proofs.state.put_comment.Goals as goal

pub returns-then-comment-eq0 : goal.returns-then-comment-eq0
returns-then-comment-eq0 c =
    put_as (sym (comment-none (state_of c.args.kind c.args.comment) c.if-comment-eq0.true)) (put-none _ _)

pub put_word-open-requires : goal.put_word-open-requires
put_word-open-requires c =
    let args = c.args in
    omega (arith, c.requires, comment-long (state_of args.kind args.comment) c.if-comment-eq0.false)

pub put_decimal-close-requires : goal.put_decimal-close-requires
put_decimal-close-requires c =
    let args = c.args in
    omega (arith, c.requires, comment-long (state_of args.kind args.comment) c.if-comment-eq0.false, c.put_word-open.ensures.ends)

pub put_byte-requires : goal.put_byte-requires
put_byte-requires c =
    let args = c.args in
    omega (
      arith,
      c.requires,
      comment-long (state_of args.kind args.comment) c.if-comment-eq0.false,
      c.put_word-open.ensures.ends,
      c.put_decimal-close.ensures.ends,
    )

pub returns : goal.returns
returns c =
    let args = c.args in
    put_as (sym (comment-some (state_of args.kind args.comment) c.if-comment-eq0.false))
    (put_then c.put_word-open.ensures (put_then c.put_decimal-close.ensures c.put_byte.ensures))
