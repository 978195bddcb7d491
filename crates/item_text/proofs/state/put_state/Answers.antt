-- `item_text::state::put_state` meets its contract: kind, then comment.
use mathlib.Core.Path.{sym}
use native.Mathlib.Omega.{arith}
use Rattle.text.proofs.Putting.{put_then, put_as}
use Rattle.item_text.specs.State.{state_of}
use Rattle.item_text.proofs.Spelled.{state-text, state-long}
use Rattle.item_text.proofs.state.put_state.Goals as goal

pub put_kind-next-requires : goal.put_kind-next-requires
put_kind-next-requires c =
    omega (arith, c.requires, state-long (state_of c.args.kind c.args.comment))

pub put_comment-requires : goal.put_comment-requires
put_comment-requires c =
    let args = c.args in
    omega (arith, c.requires, state-long (state_of args.kind args.comment), c.put_kind-next.ensures.ends)

pub returns : goal.returns
returns c =
    put_as (sym (state-text _))
    (put_then c.put_kind-next.ensures c.put_comment.ensures)
