-- `draining::rule::drain_rule` meets its contract: days and spans, then the title.
use mathlib.Core.Path.{◌≡◌}
use Prim.Native.Nat.{◌≤◌}
use native.Mathlib.Omega.{arith}
use lib.ListN.{length}
use Rattle.definition.specs.Field.{sheet_bits}
use Rattle.forms.specs.Form.{as_form}
use Rattle.sheet.specs.Begin.{rule_read_at}
use Rattle.draining.specs.Rule.{parts_stop}
use Rattle.draining.proofs.RuleReturns.{spans-few, load-some, load-none, drain-stop, drain-go}
use Rattle.draining.proofs.rule.drain_rule.Goals as goal

pub returns-in_default : goal.returns-in_default
returns-in_default c =
    let load = c.in_default.ensures in
    let done = drain-stop _ _ _ _ _ _ _ load.1 (load-none _ _ load.0) in
    (done.0, done.1, load.2, load.3)

pub set_rule-requires : goal.set_rule-requires
set_rule-requires c =
    let r = rule_read_at (as_form c.args.form) (sheet_bits c.args.sheet.now) c.args.at in
    let many : c.in-Some.count ≡ length r.spans = (load-some (parts_stop r) _ _ c.in-Some.ensures.0).1 in
    let few : length r.spans ≤ 16 = spans-few _ _ _ c.requires.readable in
    let a = c.requires.at_bound in
    record { readable = c.requires.readable; at_bound = (a.0, omega (arith, many, few), a.2, a.3, a.4) }

pub returns : goal.returns
returns c =
    let load = c.in-Some.ensures in
    let k = load-some _ _ _ load.0 in
    let done = drain-go _ _ _ _ _ _ _ load.1 _ _ _ _ _ k.0 k.1 c.set_rule.ensures in
    (done.0, done.1, load.2, load.3)
