-- `convert::rule::move_counts` meets its contract: the counts that are read are written.
use mathlib.Core.Path.{sym, ap, ◌∙◌}
use native.Mathlib.Omega.{arith}
use Rattle.definition.specs.Sheet.{most_items, sheet_limits, counts}
use Rattle.definition.proofs.Faithful.{clash}
use Rattle.definition.proofs.Lengths.{counts-low}
use Rattle.forms.specs.Form.{as_form}
use Rattle.forms.proofs.Numbers.{items-wide}
use Rattle.item_writer.proofs.Chain.{room_as, wrote_as}
use Rattle.convert.proofs.Counting.{read-once, row-few}
use Rattle.convert.proofs.rule.move_counts.Goals as goal

pub returns-in_default : goal.returns-in_default
returns-in_default c = λ n next e. clash _ _ n next (c.in_default.ensures ∙ e)

pub overflow_cast-item_counts : goal.overflow_cast-item_counts
overflow_cast-item_counts c = omega (arith, (counts-low _ _ _ _ _ (sym c.in-Ok.ensures)).0)

pub overflow_cast-item_counts-2 : goal.overflow_cast-item_counts-2
overflow_cast-item_counts-2 c = omega (arith, (counts-low _ _ _ _ _ (sym c.in-Ok.ensures)).1)

pub overflow_cast-item_counts-3 : goal.overflow_cast-item_counts-3
overflow_cast-item_counts-3 c = omega (arith, (counts-low _ _ _ _ _ (sym c.in-Ok.ensures)).2)

pub overflow_cast-item_counts-4 : goal.overflow_cast-item_counts-4
overflow_cast-item_counts-4 c = omega (arith, (counts-low _ _ _ _ _ (sym c.in-Ok.ensures)).3)

pub put_counts-requires : goal.put_counts-requires
put_counts-requires c =
    let given = c.requires.by_index in
    let read = sym c.in-Ok.ensures in
    let few = counts-low _ _ _ _ _ read in
    let wide = items-wide c.args.to in record {
      in_bounds = (
        omega arith,
        row-few (most_items (as_form c.args.to)) _ _ _ _ (omega (arith, few.0, wide)) (omega (arith, few.1, wide)) (omega (arith, few.2, wide)) (omega (arith, few.3, wide)),
        omega (arith, few.4),
      );
      room_for = room_as (sym (ap (counts (as_form c.args.to) sheet_limits).write (read-once _ given.0 _ _ read given.2))) given.3;
    }

pub returns : goal.returns
returns c = λ n next e. wrote_as (sym (ap (counts (as_form c.args.to) sheet_limits).write (read-once _ n _ next (sym c.in-Ok.ensures) e))) c.put_counts.ensures
