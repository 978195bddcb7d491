-- `canonical_date::days::rule_ranges` meets its contract: the rows from the first sort on.
use mathlib.Core.Path.{ap₂, ◌∙◌}
use Prim.Native.Nat.{◌+◌}
use native.Mathlib.Omega.{arith}
use Rattle.definition.specs.Field.{sheet_bits}
use Rattle.forms.specs.Form.{as_form}
use Rattle.forms.proofs.Numbers.{narrow}
use Rattle.field.proofs.Bytes.{known_bytes}
use Rattle.canonical_date.specs.Days.{load_rows}
use Rattle.canonical_date.proofs.Finding.{found}
use Rattle.canonical_date.proofs.days.rule_ranges.Goals as goal

pub overflow_add-at : goal.overflow_add-at
overflow_add-at c =
    omega (arith, c.requires.at_bound.0, c.title_width.ensures.1)

pub overflow_add-at-2 : goal.overflow_add-at-2
overflow_add-at-2 c =
    omega (arith, c.requires.at_bound.0, c.head_width.ensures.1)

pub rows-requires : goal.rows-requires
rows-requires c =
    let low = c.requires.at_bound in (
      omega (arith, low.0, c.title_width.ensures.1),
      omega (arith, low.0, c.head_width.ensures.1),
      low.1,
      low.2,
    )

pub returns : goal.returns
returns c =
    let a = c.args in
    let bytes = known_bytes a.sheet.now (λ j. omega (arith, c.type_inv.sheet j)) in
    let loads = c.rows.ensures
    ∙ ap₂ (λ title head. load_rows (as_form a.form) 4 (sheet_bits a.sheet.now) (a.at + title) 0 (a.at + head) a.ranges.now a.range_counts.now)
    c.title_width.ensures.0 c.head_width.ensures.0 in
    (loads, found _ a.sheet.now bytes a.at c.requires.readable c.requires.at_bound.0 _ _ c.requires.at_bound.1 c.requires.at_bound.2 (narrow a.form) _ _ c.rows.result loads)
