-- `rule_text::rule::show_rule` meets its contract: what stands before it, days and spans, kind and comment.
use mathlib.Core.Path.{sym, ap, ap₂, ◌∙◌}
use mathlib.Core.Bool.{◌||◌}
use native.Mathlib.Omega.{arith}
use lib.ListN.{length}
use Rattle.definition.specs.Field.{sheet_bits}
use Rattle.definition.specs.Line.{state_text}
use Rattle.forms.specs.Form.{as_form}
use Rattle.sheet.specs.Begin.{rule_read_at}
use Rattle.sheet.proofs.Titles.{title-same, title-refused}
use Rattle.text.proofs.Putting.{put_then, put_as}
use Rattle.rule_text.specs.Rule.{start_text}
use Rattle.rule_text.proofs.Rules.{state-same, shown-text, shown-long, lacks-words}
use Rattle.rule_text.proofs.rule.show_rule.Goals as goal

pub put_start-start-requires : goal.put_start-start-requires
put_start-start-requires c =
    let args = c.args in
    let pre = c.requires in
    let s = sheet_bits args.sheet.now in
    let read = sym c.in-Ok.ensures in
    let same = title-same _ s args.at pre.readable _ _ _ _ read in
    omega (arith, pre.at_bound.1, shown-long args.first (rule_read_at (as_form args.form) s args.at), ap (λ o. length (start_text args.first o)) same.0)

pub show_body-body-requires : goal.show_body-body-requires
show_body-body-requires c =
    let args = c.args in
    let pre = c.requires in
    let s = sheet_bits args.sheet.now in
    let read = sym c.in-Ok.ensures in
    let same = title-same _ s args.at pre.readable _ _ _ _ read in
    let start = ap (λ o. length (start_text args.first o)) same.0 in
    record { readable = pre.readable; at_bound = (pre.at_bound.0, omega (arith, pre.at_bound.1, shown-long args.first (rule_read_at (as_form args.form) s args.at), start, c.put_start-start.ensures.ends)) }

pub put_state-requires : goal.put_state-requires
put_state-requires c =
    let args = c.args in
    let pre = c.requires in
    let s = sheet_bits args.sheet.now in
    let read = sym c.in-Ok.ensures in
    let same = title-same _ s args.at pre.readable _ _ _ _ read in
    let start = ap (λ o. length (start_text args.first o)) same.0 in
    let state = ap (λ S. length (state_text.write S)) (state-same (rule_read_at (as_form args.form) s args.at) _ _ same.1 same.2) in
    omega (
      arith,
      pre.at_bound.1,
      shown-long args.first (rule_read_at (as_form args.form) s args.at),
      start,
      state,
      c.put_start-start.ensures.ends,
      c.show_body-body.ensures.put.ends,
    )

pub returns : goal.returns
returns c =
    let args = c.args in
    let r = rule_read_at (as_form args.form) (sheet_bits args.sheet.now) args.at in
    let read = sym c.in-Ok.ensures in
    let same = title-same _ (sheet_bits args.sheet.now) args.at c.requires.readable _ _ _ _ read in
    let body = c.show_body-body.ensures in
    record {
      put = put_as (shown-text args.first r _ _ same.0 (state-same r _ _ same.1 same.2))
          (put_then c.put_start-start.ensures (put_then body.put c.put_state.ensures));
      so = ap₂ ◌||◌ c.begins_wrong.ensures body.so ∙ lacks-words args.first r _ same.0;
    }

pub returns-in_default : goal.returns-in_default
returns-in_default c = title-refused _ _ _ c.requires.readable _ _ (sym c.in_default.ensures)
