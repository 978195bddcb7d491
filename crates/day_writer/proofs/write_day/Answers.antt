-- `day_writer::write_day` meets its contract: entry after entry, the first Normal.
use mathlib.Core.Path.{◌≡◌, sym, ap, ◌∙◌, subst}
use Prim.Native.Nat.{◌-◌}
use native.Mathlib.Omega.{arith}
use borrow.Author.Rules.{rules}
use lib.ListN.{length}
use Rattle.laws.specs.Lists.{All, any_of}
use Rattle.definition.specs.Fold.{many_items}
use Rattle.forms.specs.Form.{as_form}
use Rattle.item_writer.proofs.Chain.{still-all, still-as, still-next, still-none, room-first, room_as}
use Rattle.tables.specs.Days.{FitsSpan}
use Rattle.day_writer.specs.Rules.{rules_bits, Whole}
use Rattle.day_writer.proofs.Entries.{this_entry, entry_ends, entry_spans, few_words, whole-behind}
use Rattle.day_writer.proofs.Laid.{all_rules, left_none, left-bits}
use Rattle.day_writer.proofs.Counted.{left-few, left-countable}
use Rattle.day_writer.proofs.write_day.Goals as goal

pub loop-entry-init : goal.loop-entry-init
loop-entry-init c =
    let form = as_form c.args.form in
    let words = c.args.words.now in
    let n : length words ≡ length words - 0 = omega arith in
    let all = all_rules form c.args.ends.now c.args.item_counts.now words in record {
      inside = omega arith;
      known = omega arith;
      whole = subst (Whole form words 0) n c.requires.whole;
      countable = ap (any_of (many_items form)) (sym all) ∙ c.requires.countable;
      still = still-as (still-all c.requires.room_for) (ap (rules_bits form) all);
    }

pub bounds-words-entry : goal.bounds-words-entry
bounds-words-entry c = omega (arith, (this_entry (as_form c.args.form) c.args.words.now c.loop-entry.entry (omega arith) c.loop-entry.invariant.whole).within)

pub overflow_add-behind-in-loop-entry : goal.overflow_add-behind-in-loop-entry
overflow_add-behind-in-loop-entry c =
    let e = entry_ends (as_form c.args.form) c.args.words.now c.loop-entry.entry (omega arith) c.loop-entry.invariant.whole in
    search rules

pub slice_bounds-put_rule-end : goal.slice_bounds-put_rule-end
slice_bounds-put_rule-end c =
    let e = entry_ends (as_form c.args.form) c.args.words.now c.loop-entry.entry (omega arith) c.loop-entry.invariant.whole in
    search rules

pub put_rule-next-requires : goal.put_rule-next-requires
put_rule-next-requires c =
    let loop = c.loop-entry in
    let form = as_form c.args.form in
    let words = c.args.words.now in
    let ends = c.args.ends.now in
    let counts = c.args.item_counts.now in
    let whole = loop.invariant.whole in
    let entry = this_entry form words loop.entry (omega arith) whole in record {
      operator_bound = (loop.invariant.known, entry.first.commented);
      rows = (c.requires.rows, left-few form ends counts c.requires.rows.inside loop.operator words loop.entry (omega arith) whole loop.invariant.countable);
      span_count_in_bounds = (
        few_words form words loop.entry (omega arith) whole,
        subst (All FitsSpan) (sym (entry_spans form words loop.entry (omega arith) whole)) entry.first.spanned,
      );
      room_for = room-first _ _ (room_as (left-bits form ends counts words loop.operator loop.entry (omega arith) whole) loop.invariant.still.room);
    }

pub loop-entry-preserved : goal.loop-entry-preserved
loop-entry-preserved c =
    let loop = c.loop-entry in
    let form = as_form c.args.form in
    let words = c.args.words.now in
    let ends = c.args.ends.now in
    let counts = c.args.item_counts.now in
    let whole = loop.invariant.whole in record {
      inside = entry_ends form words loop.entry (omega arith) whole;
      known = omega arith;
      whole = whole-behind form words loop.entry (omega arith) whole;
      countable = left-countable form ends counts c.requires.rows.inside loop.operator words loop.entry (omega arith) whole loop.invariant.countable;
      still = still-next loop.invariant.still (left-bits form ends counts words loop.operator loop.entry (omega arith) whole) c.put_rule-next.ensures;
    }

pub shape_of-out : goal.shape_of-out
shape_of-out c = c.loop-entry.invariant.still.size

pub returns : goal.returns
returns c =
    let loop = c.loop-entry in
    still-none loop.invariant.still
    (left_none (as_form c.args.form) c.args.ends.now c.args.item_counts.now c.args.words.now loop.operator loop.entry (omega arith)).0
