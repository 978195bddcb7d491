-- `rule_text::row::put_opening` meets its contract.
use mathlib.Core.Path.{sym, ap}
use native.Mathlib.Omega.{arith}
use lib.ListN.{length}
use Rattle.text.proofs.Putting.{put-none, put_as}
use Rattle.rule_text.proofs.Rows.{opening-weeks, opening-other}
use Rattle.rule_text.proofs.row.put_opening.Goals as goal

pub put_word-requires : goal.put_word-requires
put_word-requires c = omega (arith, c.requires, ap length (opening-weeks c.args.sort c.in-Weeks.is))

pub returns-in-Weeks : goal.returns-in-Weeks
returns-in-Weeks c = put_as (sym (opening-weeks c.args.sort c.in-Weeks.is)) c.put_word.ensures

pub returns-in_default : goal.returns-in_default
returns-in_default c = put_as (sym (opening-other c.args.sort c.in_default.not-Weeks)) (put-none _ _)
