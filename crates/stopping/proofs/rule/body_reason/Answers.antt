-- `stopping::rule::body_reason` meets its contract: row after row.
use mathlib.Core.Path.{ap, ◌∙◌}
use native.Mathlib.Omega.{arith}
use Rattle.stopping.specs.Rule.{earlier}
use Rattle.stopping.proofs.Rows.{row-reached}
use Rattle.stopping.proofs.Meaning.{body-found}
use Rattle.stopping.proofs.rule.body_reason.Goals as goal

pub row_reason-monthdays-requires : goal.row_reason-monthdays-requires
row_reason-monthdays-requires c =
    omega (
      arith,
      c.requires,
      row-reached _ _ _ _ _ c.row_reason-years.ensures,
    )

pub row_reason-weeks-requires : goal.row_reason-weeks-requires
row_reason-weeks-requires c =
    omega (
      arith,
      c.requires,
      row-reached _ _ _ _ _ c.row_reason-years.ensures,
      row-reached _ _ _ _ _ c.row_reason-monthdays.ensures,
    )

pub row_reason-weekdays-requires : goal.row_reason-weekdays-requires
row_reason-weekdays-requires c =
    omega (
      arith,
      c.requires,
      row-reached _ _ _ _ _ c.row_reason-years.ensures,
      row-reached _ _ _ _ _ c.row_reason-monthdays.ensures,
      row-reached _ _ _ _ _ c.row_reason-weeks.ensures,
    )

pub row_reason-times-requires : goal.row_reason-times-requires
row_reason-times-requires c =
    omega (
      arith,
      c.requires,
      row-reached _ _ _ _ _ c.row_reason-years.ensures,
      row-reached _ _ _ _ _ c.row_reason-monthdays.ensures,
      row-reached _ _ _ _ _ c.row_reason-weeks.ensures,
      row-reached _ _ _ _ _ c.row_reason-weekdays.ensures,
    )

pub returns : goal.returns
returns c =
    c.earlier-3.ensures ∙ ap (earlier c.row_reason-times.result.reason) (c.earlier-2.ensures ∙ ap (earlier c.row_reason-years.result.reason)
    (c.earlier.ensures ∙ ap (earlier c.row_reason-monthdays.result.reason) c.earlier-later.ensures))
    ∙ body-found _ _ _ _ _ _ _ _ _ _ _ _ c.row_reason-years.ensures c.row_reason-monthdays.ensures c.row_reason-weeks.ensures c.row_reason-weekdays.ensures
    c.row_reason-times.ensures
