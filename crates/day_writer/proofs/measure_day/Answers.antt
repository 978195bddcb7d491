-- `day_writer::measure_day` meets its contract: entry after entry; and where there is one, whether the form can count its items.
use mathlib.Core.Path.{◌≡◌, sym, ◌∙◌, subst}
use Prim.Native.Nat.{◌-◌}
use native.Mathlib.Omega.{arith}
use borrow.Author.Rules.{rules}
use lib.ListN.{length}
use borrow.Author.Tests.{le-ltb}
use Rattle.forms.specs.Form.{as_form}
use Rattle.forms.proofs.Numbers.{items-wide}
use Rattle.day_writer.specs.Rules.{Whole}
use Rattle.day_writer.proofs.Entries.{this_entry, entry_ends, few_words, whole-behind}
use Rattle.day_writer.proofs.Laid.{left_all, left-count, left-size}
use Rattle.day_writer.proofs.Counted.{some-counted, none-counted}
use Rattle.day_writer.proofs.measure_day.Goals as goal

pub loop-at-init : goal.loop-at-init
loop-at-init c =
    let n : length c.args.words.now ≡ length c.args.words.now - 0 = omega arith in record {
      inside = omega arith;
      whole = subst (Whole (as_form c.args.form) c.args.words.now 0) n c.requires.whole;
      passed = λ ends h. (0, omega arith, omega arith);
      few = omega arith;
      low = omega arith;
    }

pub bounds-words-at : goal.bounds-words-at
bounds-words-at c = omega (arith, (this_entry (as_form c.args.form) c.args.words.now c.loop-at.at (omega arith) c.loop-at.invariant.whole).within)

pub overflow_add-behind-in-loop-at : goal.overflow_add-behind-in-loop-at
overflow_add-behind-in-loop-at c =
    let e = entry_ends (as_form c.args.form) c.args.words.now c.loop-at.at (omega arith) c.loop-at.invariant.whole in
    search rules

pub slice_bounds-rule_bits-end : goal.slice_bounds-rule_bits-end
slice_bounds-rule_bits-end c =
    let e = entry_ends (as_form c.args.form) c.args.words.now c.loop-at.at (omega arith) c.loop-at.invariant.whole in
    search rules

pub rule_bits-requires-clause-span_count_in_bounds : goal.rule_bits-requires-clause-span_count_in_bounds
rule_bits-requires-clause-span_count_in_bounds c =
    few_words (as_form c.args.form) c.args.words.now c.loop-at.at (omega arith) c.loop-at.invariant.whole

pub loop-at-preserved : goal.loop-at-preserved
loop-at-preserved c =
    let loop = c.loop-at in
    let form = as_form c.args.form in
    let words = c.args.words.now in
    let counts = c.args.item_counts.now in
    let whole = loop.invariant.whole in
    let ends-here = entry_ends form words loop.at (omega arith) whole in record {
      inside = ends-here;
      whole = whole-behind form words loop.at (omega arith) whole;
      passed = λ ends h.
          let p = loop.invariant.passed ends h in (
            1,
            omega (arith, p.1, left-count form ends counts words p.0 loop.at (omega arith) whole),
            omega (arith, p.2, left-size form ends counts words p.0 loop.at (omega arith) whole _ (c.rule_bits.ensures.0 p.0 _ ends h)),
          );
      few = omega (arith, loop.invariant.few);
      low = omega (arith, loop.invariant.low, c.rule_bits.ensures.1);
    }

pub returns-then-rules-gt0 : goal.returns-then-rules-gt0
returns-then-rules-gt0 c =
    let a = c.args in
    let form = as_form a.form in
    let loop = c.loop-at in (
      λ ends h.
          let p = loop.invariant.passed ends h in
          let size = left_all form ends a.item_counts.now a.words.now p.0 loop.at loop.rules loop.bits (omega arith) p.1 p.2 in (
            size.0,
            size.1,
            some-counted form ends a.item_counts.now h (items-wide a.form) _ c.requires.whole.carried _ size.0 c.if-rules-gt0.true ∙ sym c.many_items.ensures,
          ),
      omega (arith, loop.invariant.few, loop.invariant.inside),
      omega (arith, loop.invariant.low, loop.invariant.inside),
    )

pub returns-else-rules-gt0 : goal.returns-else-rules-gt0
returns-else-rules-gt0 c =
    let a = c.args in
    let form = as_form a.form in
    let loop = c.loop-at in (
      λ ends h.
          let p = loop.invariant.passed ends h in
          let size = left_all form ends a.item_counts.now a.words.now p.0 loop.at loop.rules loop.bits (omega arith) p.1 p.2 in (
            size.0,
            size.1,
            none-counted form ends a.item_counts.now h (items-wide a.form) _ c.requires.whole.carried _ size.0 (omega (arith, c.if-rules-gt0.false))
                ∙ sym (le-ltb 0 loop.rules (omega (arith, c.if-rules-gt0.false))),
          ),
      omega (arith, loop.invariant.few, loop.invariant.inside),
      omega (arith, loop.invariant.low, loop.invariant.inside),
    )
