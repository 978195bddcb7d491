-- `rule_text::shown::show_months` meets its contract: months of any year have words, and no others.
use mathlib.Core.Path.{refl, sym, ap, ◌∙◌}
use native.Mathlib.Omega.{arith}
use lib.ListN.{length}
use Rattle.definition.specs.Field.{got}
use Rattle.definition.specs.Stop.{monthday_stops}
use Rattle.definition.specs.Line.{month_text}
use Rattle.field.proofs.Bytes.{known_bytes}
use Rattle.item.specs.Answer.{as_monthday}
use Rattle.text.proofs.Putting.{put_as}
use Rattle.rule_text.proofs.Telling.{got-within, got-shows, got-silent, refused-silent}
use Rattle.rule_text.proofs.Items.{month-ends, month-item, month-silent}
use Rattle.rule_text.proofs.shown.show_months.Goals as goal

pub returns-in_default : goal.returns-in_default
returns-in_default c = refused-silent month_text monthday_stops _ _ _ _ _ _ (sym c.in_default.ensures) c.silent.ensures

pub returns-in_default-monthday : goal.returns-in_default-monthday
returns-in_default-monthday c =
    let none = month-silent c.in-Ok.monthday c.in_default-monthday.not-Months in
    got-silent month_text monthday_stops _ _ _ _ _ _ (sym c.in-Ok.ensures) none.0 none.1 c.silent-in_default-monthday.ensures

pub put_days-requires : goal.put_days-requires
put_days-requires c =
    let args = c.args in
    let read = sym c.in-Ok.ensures ∙ ap (λ x. got (as_monthday x) c.in-Ok.next) c.in-Months.is in
    let fit = month-ends args.sheet.now (known_bytes args.sheet.now (λ j. omega (arith, c.type_inv.sheet j))) args.at _ _ _ read in (
      fit.0,
      fit.1,
      omega (arith, got-within month_text monthday_stops _ _ args.place _ _ read c.requires.1, ap length (month-item c.in-Months.start c.in-Months.end)),
    )

pub returns : goal.returns
returns c =
    got-shows month_text monthday_stops _ _ _ _ _ _ _ (sym c.in-Ok.ensures ∙ ap (λ x. got (as_monthday x) c.in-Ok.next) c.in-Months.is) refl
    (put_as (month-item _ _) c.put_days.ensures)
