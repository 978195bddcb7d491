-- `sheet::end::row_end` meets its contract.
use mathlib.Core.Path.{sym, ◌∙◌}
use Prim.Native.Nat.{◌+◌, ◌≤◌}
use native.Mathlib.Omega.{arith}
use Rattle.sheet.specs.End.{as_step}
use Rattle.sheet.proofs.Ends.{item-short, skip-goes, skip-stops, skip-ends}
use Rattle.sheet.proofs.Ends.{fails_on}
use Rattle.sheet.proofs.end.row_end.Goals as goal

pub item_end-requires : goal.item_end-requires
item_end-requires c = omega (arith, c.loop-i.invariant.near)

pub returns-in_err-at : goal.returns-in_err-at
returns-in_err-at c =
    fails_on as_step _ _ _ c.from_residual.ensures.1 (sym c.loop-i.invariant.same ∙ skip-stops _ _ _ _ _ _ (omega arith) (sym c.in_err-at.ensures))

pub loop-i-preserved : goal.loop-i-preserved
loop-i-preserved c =
    let old = c.loop-i in
    let step = sym c.in_ok-at.ensures in
    let short : c.in_ok-at.at ≤ old.at + 52 = item-short _ _ _ _ step in
    record { near = omega (arith, short, old.invariant.near); same = sym (skip-goes _ _ _ _ _ _ (omega arith) step) ∙ old.invariant.same }

pub returns : goal.returns
returns c = sym (sym c.loop-i.invariant.same ∙ skip-ends _ _ _ _ (omega arith))
