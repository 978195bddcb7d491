-- `sheet::check::check_rules` meets its contract: the rules, then what follows them.
use mathlib.Core.Path.{sym, ap, ◌∙◌}
use Prim.Native.Nat.{◌+◌, ◌*◌, ◌≤◌}
use native.Mathlib.Omega.{arith}
use lib.ListN.{length}
use Rattle.definition.specs.Field.{got, and_then, sheet_bits}
use Rattle.definition.proofs.Bits.{sheet-bits, length-sheet_bits}
use Rattle.field.proofs.Bytes.{known_bytes}
use Rattle.forms.proofs.Numbers.{narrow}
use Rattle.sheet.specs.Rules.{as_checked}
use Rattle.sheet.proofs.RuleRows.{rules-short, rules-within}
use Rattle.sheet.proofs.Whole.{rules-go, rules-stop}
use Rattle.sheet.proofs.Ends.{fails_on}
use Rattle.sheet.proofs.check.check_rules.Goals as goal

pub returns-in_err-behind : goal.returns-in_err-behind
returns-in_err-behind c =
    (fails_on as_checked _ _ _ c.from_residual.ensures.1 (rules-stop _ _ _ _ _ _ (sym c.in_err-behind.ensures.0)), c.in_err-behind.ensures.1)

pub ended_at-requires : goal.ended_at-requires
ended_at-requires c =
    let s = c.args.sheet.now in
    let bytes = known_bytes s (λ j. omega (arith, c.type_inv.sheet j)) in
    let rows = sym c.in_ok-behind.ensures.0 in
    let behind = c.in_ok-behind.behind in
    let within : behind ≤ length (sheet_bits s) = rules-within _ _ (sheet-bits s bytes) _ _ _ (omega (arith, length-sheet_bits s)) rows in
    let short : behind ≤ c.args.start + c.args.count * 3016 = rules-short _ (narrow c.args.form) _ _ _ _ rows in
    (omega (arith, length-sheet_bits s, within), omega (arith, short))

pub returns-in_err-end : goal.returns-in_err-end
returns-in_err-end c = (
  fails_on as_checked _ _ _ c.from_residual-in_err-end.ensures.1
      (rules-go _ _ _ _ _ (sym c.in_ok-behind.ensures.0) ∙ sym (ap (and_then (λ u e. got c.args.count e)) c.in_err-end.ensures)),
  c.in_ok-behind.ensures.1,
)

pub returns : goal.returns
returns c = (
  ap (and_then (λ u e. got c.args.count e)) c.in_ok-end.ensures ∙ sym (rules-go _ _ _ _ _ (sym c.in_ok-behind.ensures.0)),
  c.in_ok-behind.ensures.1,
)
