-- `sheet::rule::lawful_title` meets its contract: two choices.
use mathlib.Core.Path.{subst}
use Prim.Native.Nat.{◌<◌}
use borrow.Author.Tests.{ltb-true}
use Rattle.sheet.proofs.WideHeads.{wide-title}
use Rattle.sheet.proofs.rule.lawful_title.Goals as goal

pub returns-then-part-lt3 : goal.returns-then-part-lt3
returns-then-part-lt3 c t s p wide =
    wide-title wide c.args.form (subst (◌< 3) c.part.ensures c.if-part-lt3.true)
    (subst (◌< 3) c.part-then-part-lt3.ensures (ltb-true c.part-then-part-lt3.result 3 t))
