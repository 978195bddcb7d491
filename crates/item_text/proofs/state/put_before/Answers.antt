-- `item_text::state::put_before` meets its contract, operator by operator.
use mathlib.Core.Path.{ap}
use native.Mathlib.Omega.{arith}
use lib.ListN.{length}
use Rattle.text.proofs.Putting.{put_as}
use Rattle.item_text.proofs.Spelled.{before-normal, before-additional, before-fallback}
use Rattle.item_text.proofs.state.put_before.Goals as goal

pub put_word-requires : goal.put_word-requires
put_word-requires c =
    omega (arith, c.requires, ap length (before-normal c.args.operator (omega arith)))

pub put_word-requires-in-1 : goal.put_word-requires-in-1
put_word-requires-in-1 c =
    omega (arith, c.requires, ap length (before-additional c.args.operator (omega arith) (omega arith)))

pub put_word-requires-in_default : goal.put_word-requires-in_default
put_word-requires-in_default c =
    omega (arith, c.requires, ap length (before-fallback c.args.operator (omega arith) (omega arith)))

pub returns-in-0 : goal.returns-in-0
returns-in-0 c =
    put_as (before-normal c.args.operator (omega arith)) c.put_word.ensures

pub returns-in-1 : goal.returns-in-1
returns-in-1 c =
    put_as (before-additional c.args.operator (omega arith) (omega arith)) c.put_word-in-1.ensures

pub returns-in_default : goal.returns-in_default
returns-in_default c =
    put_as (before-fallback c.args.operator (omega arith) (omega arith)) c.put_word-in_default.ensures
