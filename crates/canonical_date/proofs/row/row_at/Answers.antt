-- `canonical_date::row::row_at` meets its contract: the whole dimension, or the items.
use mathlib.Core.Path.{sym, subst}
use native.Mathlib.Omega.{arith}
use Rattle.canonical_date.specs.Row.{Narrow}
use Rattle.canonical_date.proofs.ItemFacts.{bounds-low}
use Rattle.canonical_date.proofs.Rows.{row-none, row-some}
use Rattle.canonical_date.proofs.row.row_at.Goals as goal

pub put_range-requires : goal.put_range-requires
put_range-requires c =
    let low = bounds-low c.args.sort in
    (omega arith, subst Narrow (sym c.bounds.ensures) (omega (arith, low.0, low.1), omega (arith, low.1)))

pub returns-then-count-eq0 : goal.returns-then-count-eq0
returns-then-count-eq0 c =
    row-none _ _ _ _ _ _ _ _ c.if-count-eq0.true c.put_range.ensures c.bounds.ensures

pub returns : goal.returns
returns c =
    row-some _ _ _ _ _ _ _ _ c.if-count-eq0.false c.items.ensures
