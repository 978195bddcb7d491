-- `canonical_date::row::put_split` meets its contract: one range, or two.
use mathlib.Core.Path.{subst}
use native.Mathlib.Omega.{arith}
use Rattle.laws.specs.Lists.{All}
use Rattle.bounded.specs.Strict.{list_of}
use Rattle.canonical_date.specs.Row.{Narrow}
use Rattle.canonical_date.proofs.Flat.{put-single, put-double}
use Rattle.canonical_date.proofs.row.put_split.Goals as goal

pub put_range-requires : goal.put_range-requires
put_range-requires c =
    (omega arith, (subst (λ v. All Narrow (list_of v)) c.in-One.is c.requires.1).0)

pub put_range-requires-in-Two : goal.put_range-requires-in-Two
put_range-requires-in-Two c =
    (omega arith, (subst (λ v. All Narrow (list_of v)) c.in-Two.is c.requires.1).0)

pub put_range-requires-in-Two-2 : goal.put_range-requires-in-Two-2
put_range-requires-in-Two-2 c =
    (omega (arith, c.put_range-in-Two.auto), (subst (λ v. All Narrow (list_of v)) c.in-Two.is c.requires.1).1.0)

pub returns-in-One : goal.returns-in-One
returns-in-One c =
    put-single _ _ _ _ _ c.in-One.is c.put_range.ensures

pub returns-in-Two : goal.returns-in-Two
returns-in-Two c =
    put-double _ _ _ _ _ _ _ c.in-Two.is c.put_range-in-Two.ensures c.put_range-in-Two-2.ensures
