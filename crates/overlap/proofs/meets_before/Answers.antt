-- `overlap::meets_before` meets its contract: the iterator asks every range before it.
use Rattle.std.proofs.Common.{◌∙◌, refl, arith, rules}
use Rattle.std.proofs.lemmas.Iterator.{YieldsList-from_range}
use Rattle.std.proofs.lemmas.Iterator.Search.{any_from_yields_List}
use Rattle.overlap.proofs.Rows.{before, any_asked}
use Rattle.overlap.proofs.meets_before.Goals as goal

pub returns : goal.returns
returns c =
    let a = c.args in
    any_from_yields_List (before a.ranges.now a.dimension a.range) _ _ _ c.any.ensures.ran (YieldsList-from_range 0 a.range a.range refl (omega arith)) (λ x b q k. search rules)
    ∙ any_asked (before a.ranges.now a.dimension a.range) 0 a.range
