-- `day_writer::many_items` meets its contract. The loop's invariant: the sorts passed have no more items than the form can count.
use mathlib.Core.Path.{sym, ◌∙◌}
use native.Mathlib.Omega.{arith}
use Rattle.forms.specs.Form.{as_form}
use Rattle.day_writer.proofs.Counted.{many-here, many-later, many-ends, many-asked}
use Rattle.day_writer.proofs.many_items.Goals as goal

pub returns-then-item_counts-sort : goal.returns-then-item_counts-sort
returns-then-item_counts-sort c =
    let counts = c.args.item_counts.now in
    sym (many-here _ counts c.loop-sort.sort (omega arith) c.if-item_counts-sort.true) ∙ c.loop-sort.invariant
    ∙ many-asked (as_form c.args.form) _ counts c.most_items-most.ensures

pub loop-sort-preserved : goal.loop-sort-preserved
loop-sort-preserved c =
    sym (many-later _ c.args.item_counts.now c.loop-sort.sort (omega arith) c.if-item_counts-sort.false) ∙ c.loop-sort.invariant

pub returns : goal.returns
returns c =
    let counts = c.args.item_counts.now in
    sym (many-ends _ counts c.loop-sort.sort (omega arith)) ∙ c.loop-sort.invariant ∙ many-asked (as_form c.args.form) _ counts c.most_items-most.ensures
