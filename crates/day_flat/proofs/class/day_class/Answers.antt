-- `day_flat::class::day_class` meets its contract, by one lemma for each class.
use Rattle.std.proofs.Common.{true, false, arith}
use Rattle.day_flat.proofs.ClassReturns.{class-none, class-open, class-closed, class-unknown}
use Rattle.day_flat.proofs.class.day_class.Goals as goal

pub returns-in_default : goal.returns-in_default
returns-in_default c = class-none _ c.in_default.len_below

pub returns-then-alike : goal.returns-then-alike
returns-then-alike c =
    class-open _ c.in-len1-up.len_at_least _ c.kind_of-kind.ensures _ c.all_of_kind-alike.ensures true c.if-alike.true c.in-0.is

pub returns-else-alike : goal.returns-else-alike
returns-else-alike c =
    class-open _ c.in-len1-up.len_at_least _ c.kind_of-kind.ensures _ c.all_of_kind-alike.ensures false c.if-alike.false c.in-0.is

pub returns-in-1 : goal.returns-in-1
returns-in-1 c = class-closed _ c.in-len1-up.len_at_least _ c.kind_of-kind.ensures c.in-1.is

pub returns-then-alike-2 : goal.returns-then-alike-2
returns-then-alike-2 c =
    class-unknown _ c.in-len1-up.len_at_least _ c.kind_of-kind.ensures _ c.all_of_kind-alike.ensures true c.if-alike-2.true (omega arith) (omega arith)

pub returns-else-alike-2 : goal.returns-else-alike-2
returns-else-alike-2 c =
    class-unknown _ c.in-len1-up.len_at_least _ c.kind_of-kind.ensures _ c.all_of_kind-alike.ensures false c.if-alike-2.false (omega arith) (omega arith)
