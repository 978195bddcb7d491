-- `convert::rule::rule_end` meets its contract.
use borrow.Author.Tests.{lt-ltb, le-ltb}
use Rattle.convert.proofs.rule.rule_end.Goals as goal

pub returns-then-rule-count : goal.returns-then-rule-count
returns-then-rule-count c =
    rw (lt-ltb _ _ c.if-rule-count.true)

pub returns-else-rule-count : goal.returns-else-rule-count
returns-else-rule-count c =
    rw (le-ltb _ _ c.if-rule-count.false)
