-- `rule_text::rule::show_body` meets its contract: the days and spans of the rule.
use mathlib.Core.Path.{sym, ap, ap₂, ◌∙◌}
use mathlib.Core.Bool.{◌||◌}
use Prim.Native.Nat.{◌+◌}
use native.Mathlib.Omega.{arith}
use lib.Dec.{eqb}
use lib.ListN.{length}
use Rattle.definition.specs.Field.{sheet_bits}
use Rattle.forms.specs.Form.{as_form}
use Rattle.forms.proofs.Numbers.{narrow}
use Rattle.sheet.specs.Begin.{rule_read_at}
use Rattle.sheet.proofs.Titles.{counts_same, counts-refused}
use Rattle.text.proofs.Putting.{put_then, put_as}
use Rattle.rule_text.proofs.Telling.{shows-as}
use Rattle.rule_text.proofs.Rules.{days-near, body-text, body-long, lacks-either}
use Rattle.rule_text.proofs.Bodies.{counts-few, days-told, spans-told}
use Rattle.rule_text.proofs.rule.show_body.Goals as goal

pub overflow_add-at : goal.overflow_add-at
overflow_add-at c =
    omega (arith, c.requires.at_bound.0, c.title_width.ensures.1)

pub show_days-days-requires : goal.show_days-days-requires
show_days-days-requires c =
    let args = c.args in
    let pre = c.requires in
    let s = sheet_bits args.sheet.now in
    let behind-title = ap (args.at +◌) c.title_width.ensures.0 in
    let read = sym c.in-Ok.ensures in
    let few = counts-few _ s args.at pre.readable _ _ _ behind-title read in
    let told = ap (λ x. length x.text) (days-told _ s args.at pre.readable _ _ _ behind-title read) in
    let low = (narrow args.form).head-narrow in record { at_bound = (omega (arith, few.5, pre.at_bound.0, low, behind-title), (few.0, few.1, few.2, few.3, few.4)); within = omega (arith, pre.at_bound.1, told, body-long (rule_read_at (as_form args.form) s args.at)) }

pub show_row-times-requires : goal.show_row-times-requires
show_row-times-requires c =
    let args = c.args in
    let pre = c.requires in
    let s = sheet_bits args.sheet.now in
    let behind-title = ap (args.at +◌) c.title_width.ensures.0 in
    let read = sym c.in-Ok.ensures in
    let few = counts-few _ s args.at pre.readable _ _ _ behind-title read in
    let near = days-near c.in-Ok.counts.years c.in-Ok.counts.monthdays c.in-Ok.counts.weeks c.in-Ok.counts.weekdays s c.in-Ok.items in
    let told = days-told _ s args.at pre.readable _ _ _ behind-title read in
    let days = shows-as told c.show_days-days.ensures in
    let spans = ap (λ x. length x.text) (spans-told _ s args.at pre.readable _ _ _ behind-title read _ days.read-to) in
    let low = (narrow args.form).head-narrow in (
      omega (arith, near, few.0, few.1, few.2, few.3, few.4, few.5, c.show_days-days.ensures.read-to, pre.at_bound.0, low, behind-title),
      omega (arith, pre.at_bound.1, days.put.ends, spans, body-long (rule_read_at (as_form args.form) s args.at)),
    )

pub returns : goal.returns
returns c =
    let args = c.args in
    let pre = c.requires in
    let s = sheet_bits args.sheet.now in
    let behind-title = ap (args.at +◌) c.title_width.ensures.0 in
    let read = sym c.in-Ok.ensures in
    let days = shows-as (days-told _ s args.at pre.readable _ _ _ behind-title read) c.show_days-days.ensures in
    let spans = shows-as (spans-told _ s args.at pre.readable _ _ _ behind-title read _ days.read-to) c.show_row-times.ensures in
    let none = lacks-either (rule_read_at (as_form args.form) s args.at) _ (counts_same _ s args.at pre.readable _ _ _ behind-title read).2 in
    record {
      put = put_as (body-text (rule_read_at (as_form args.form) s args.at)) (put_then days.put spans.put);
      so = ap₂ ◌||◌ days.lacks
          (ap (◌|| eqb c.in-Ok.counts.spans 0) spans.lacks) ∙ none;
    }

pub returns-in_default : goal.returns-in_default
returns-in_default c =
    counts-refused _ _ _ c.requires.readable _ _ _ (ap (c.args.at +◌) c.title_width.ensures.0) (sym c.in_default.ensures)
