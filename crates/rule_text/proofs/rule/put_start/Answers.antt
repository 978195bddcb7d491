-- `rule_text::rule::put_start` meets its contract.
use mathlib.Core.Path.{sym, ap}
use native.Mathlib.Omega.{arith}
use lib.ListN.{length}
use Rattle.definition.specs.Rule.{operator_of}
use Rattle.rule_text.specs.Rule.{start_text}
use Rattle.text.proofs.Putting.{put-none, put_as}
use Rattle.rule_text.proofs.rule.put_start.Goals as goal

pub returns-then-first : goal.returns-then-first
returns-then-first c =
    put_as (sym (ap (λ b. start_text b (operator_of c.args.operator)) c.if-first.true)) (put-none _ _)

pub put_before-requires : goal.put_before-requires
put_before-requires c =
    omega (arith, c.requires, ap (λ b. length (start_text b (operator_of c.args.operator))) c.if-first.false)

pub returns : goal.returns
returns c =
    put_as (sym (ap (λ b. start_text b (operator_of c.args.operator)) c.if-first.false)) c.put_before.ensures
