-- `paving::class::in_class` meets its contract.
use Rattle.paving.proofs.Classes.{below-class, from-class}
use Rattle.paving.proofs.class.in_class.Goals as goal

pub returns-then-lowest_class-own : goal.returns-then-lowest_class-own
returns-then-lowest_class-own c =
    from-class _ _ _ _ _ c.class_of-own.ensures c.lowest_class.ensures c.if-lowest_class-own.true

pub returns-else-lowest_class-own : goal.returns-else-lowest_class-own
returns-else-lowest_class-own c =
    below-class _ _ _ _ _ c.class_of-own.ensures c.lowest_class.ensures c.if-lowest_class-own.false
