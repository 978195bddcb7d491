-- `rule_text::shown::show_weekdays` meets its contract: weekdays that stand as they are have words, and no others.
use mathlib.Core.Path.{refl, sym, ap, ◌∙◌}
use native.Mathlib.Omega.{arith}
use lib.ListN.{length}
use Rattle.definition.specs.Field.{got}
use Rattle.definition.specs.Stop.{weekday_stops}
use Rattle.definition.specs.Line.{weekday_text}
use Rattle.field.proofs.Bytes.{known_bytes}
use Rattle.item.specs.Answer.{as_week_day}
use Rattle.text.proofs.Putting.{put_as}
use Rattle.rule_text.proofs.Telling.{got-within, got-shows, got-silent, refused-silent}
use Rattle.rule_text.proofs.Items.{weekday-ends, weekdays-stand, weekdays-moved, weekday-item, weekday-silent}
use Rattle.rule_text.proofs.shown.show_weekdays.Goals as goal
use Rattle.rule_text.proofs.shown.show_weekdays.Goals.{in_default-weekday-via-in-Fixed+else-every_week, in_default-weekday-via-in_default-weekday}

pub returns-in_default : goal.returns-in_default
returns-in_default c = refused-silent weekday_text weekday_stops _ _ _ _ _ _ (sym c.in_default.ensures) c.silent.ensures

pub put_days-requires : goal.put_days-requires
put_days-requires c =
    let args = c.args in
    let x = c.in-Fixed in
    let read = sym c.in-Ok.ensures ∙ ap (λ x. got (as_week_day x) c.in-Ok.next) x.is in
    let fit = weekday-ends args.sheet.now (known_bytes args.sheet.now (λ j. omega (arith, c.type_inv.sheet j))) args.at _ _ _ _ _ _ read in
    let same = weekday-item x.start x.end x.offset x.from_start x.from_end
    (weekdays-stand x.start x.end x.offset x.from_start x.from_end _ c.every_week.ensures c.if-every_week.true) in
    (fit.0, fit.1, omega (arith, got-within weekday_text weekday_stops _ _ args.place _ _ read c.requires.1, ap length same))

pub returns-in-Fixed : goal.returns-in-Fixed
returns-in-Fixed c =
    let x = c.in-Fixed in
    let stand = weekdays-stand x.start x.end x.offset x.from_start x.from_end _ c.every_week.ensures c.if-every_week.true in
    got-shows weekday_text weekday_stops _ _ _ _ _ _ _ (sym c.in-Ok.ensures ∙ ap (λ x. got (as_week_day x) c.in-Ok.next) x.is)
    (sym stand) (put_as (weekday-item x.start x.end x.offset x.from_start x.from_end stand) c.put_days.ensures)

pub returns-in_default-weekday : goal.returns-in_default-weekday
returns-in_default-weekday c = elim c.in_default-weekday.branch [
  | in_default-weekday-via-in-Fixed+else-every_week w ↦
      let x = w.in-Fixed in
      let moved = weekdays-moved x.start x.end x.offset x.from_start x.from_end _ w.every_week.ensures w.if-every_week.false in
      got-silent weekday_text weekday_stops _ _ _ _ _ _ (sym c.in-Ok.ensures ∙ ap (λ x. got (as_week_day x) c.in-Ok.next) x.is) moved
      (weekday-silent _ moved) c.silent-in_default-weekday.ensures
  | in_default-weekday-via-in_default-weekday w ↦
      got-silent weekday_text weekday_stops _ _ _ _ _ _ (sym c.in-Ok.ensures ∙ ap (λ x. got (as_week_day x) c.in-Ok.next) w.in_default-weekday.is) refl
      (weekday-silent _ refl) c.silent-in_default-weekday.ensures
]
