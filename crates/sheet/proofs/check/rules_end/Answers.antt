-- `sheet::check::rules_end` meets its contract.
use mathlib.Core.Path.{sym, ◌∙◌}
use Prim.Native.Nat.{◌+◌, ◌≤◌}
use native.Mathlib.Omega.{arith}
use lib.ListN.{length}
use Rattle.definition.specs.Field.{sheet_bits}
use Rattle.definition.proofs.Bits.{Bits, sheet-bits, length-sheet_bits}
use Rattle.field.proofs.Bytes.{known_bytes}
use Rattle.forms.proofs.Numbers.{narrow}
use Rattle.sheet.specs.End.{as_step}
use Rattle.sheet.proofs.Ends.{skip-goes, skip-stops, skip-ends}
use Rattle.sheet.proofs.RuleRows.{rule-end-short, rule-end-long, noted-goes, noted-stops, noted-ends}
use Rattle.sheet.proofs.Ends.{fails_on}
use Rattle.sheet.proofs.check.rules_end.Goals as goal

-- there is a place for this one
pub bounds-begins-i : goal.bounds-begins-i
bounds-begins-i c =
    let old = c.loop-i in
    omega (arith, c.requires.3 old.i (omega (arith, c.requires.2)) (omega (arith, old.invariant.far, old.invariant.inside)))

pub rule_end-requires : goal.rule_end-requires
rule_end-requires c = omega (arith, c.loop-i.invariant.near)

pub returns-in_err-at : goal.returns-in_err-at
returns-in_err-at c =
    let old = c.loop-i in
    let step = sym c.in_err-at.ensures in
    (fails_on as_step _ _ _ c.from_residual.ensures.1 (sym old.invariant.ends ∙ skip-stops _ _ _ _ _ _ (omega arith) step), sym (noted-stops _ _ _ _ _ _ _ _ (omega arith) step) ∙ old.invariant.noted)

pub loop-i-preserved : goal.loop-i-preserved
loop-i-preserved c =
    let old = c.loop-i in
    let args = c.args in
    let s = args.sheet.now in
    let bits : Bits (sheet_bits s) = sheet-bits s (known_bytes s (λ j. omega (arith, c.type_inv.sheet j))) in
    let step = sym c.in_ok-at.ensures in
    let next = c.in_ok-at.at in
    let short : next ≤ old.at + 3016 = rule-end-short _ (narrow args.form) _ _ _ step in
    let long : (old.at + 70 ≤ next) × (next ≤ length (sheet_bits s)) =
    rule-end-long _ (narrow args.form) _ bits _ _ (omega (arith, old.invariant.inside, length-sheet_bits s)) step in record {
      near = omega (arith, short, old.invariant.near);
      ends = sym (skip-goes _ _ _ _ _ _ (omega arith) step) ∙ old.invariant.ends;
      noted = sym (noted-goes _ _ _ _ _ _ _ _ (omega arith) step) ∙ old.invariant.noted;
      far = omega (arith, long.0, old.invariant.far);
      inside = omega (arith, long.1, length-sheet_bits s);
    }

pub returns : goal.returns
returns c =
    let old = c.loop-i in
    (sym (sym old.invariant.ends ∙ skip-ends _ _ _ _ (omega arith)), sym (noted-ends _ _ _ _ _ _ (omega arith)) ∙ old.invariant.noted)
