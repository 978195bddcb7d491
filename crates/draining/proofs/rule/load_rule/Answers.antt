-- `draining::rule::load_rule` meets its contract: the days, then the spans behind them.
use mathlib.Core.Path.{ap, ◌∙◌}
use native.Mathlib.Omega.{arith}
use Rattle.field.proofs.Bytes.{known_bytes}
use Rattle.draining.specs.Rule.{load_of}
use Rattle.draining.proofs.RuleReturns.{spans-early, load-days-stop, load-spans-stop, load-passes}
use Rattle.draining.proofs.rule.load_rule.Goals as goal

pub returns-in_err-found : goal.returns-in_err-found
returns-in_err-found c =
    let done = load-days-stop _ c.in_err-found.ensures.1 _ _ in
    (ap load_of c.from_residual.ensures ∙ done.0, done.1, ap (λ x. x.ranges) c.rule_ranges.ensures.0, ap (λ x. x.counts) c.rule_ranges.ensures.0)

pub load_spans-requires : goal.load_spans-requires
load_spans-requires c =
    let w = c.in_ok-found.ensures.1.spans in
    (omega (arith, spans-early w, w.few-spans), omega (arith, w.few-spans, c.requires.at_bound))

pub returns-then-load_spans : goal.returns-then-load_spans
returns-then-load_spans c =
    let s = c.args.sheet.now in
    let w = c.in_ok-found.ensures.1 in
    let done = load-spans-stop s (known_bytes s (λ j. omega (arith, c.type_inv.sheet j))) _ _ _ w.spans w.passes _ _ _
    c.load_spans.ensures.1 _ c.load_spans.ensures.0 c.if-load_spans.true in
    (done.0, done.1, ap (λ x. x.ranges) c.rule_ranges.ensures.0, ap (λ x. x.counts) c.rule_ranges.ensures.0)

pub returns : goal.returns
returns c =
    let s = c.args.sheet.now in
    let w = c.in_ok-found.ensures.1 in
    let done = load-passes s (known_bytes s (λ j. omega (arith, c.type_inv.sheet j))) _ _ _ w.spans w.passes _ _ _
    c.load_spans.ensures.1 _ c.load_spans.ensures.0 c.if-load_spans.false in
    (done.0, done.1, ap (λ x. x.ranges) c.rule_ranges.ensures.0, ap (λ x. x.counts) c.rule_ranges.ensures.0)
