-- `rule_text::shown::show_week` meets its contract: what was read has words.
use mathlib.Core.Path.{refl, sym, ap}
use native.Mathlib.Omega.{arith}
use lib.ListN.{length}
use Rattle.definition.specs.Line.{week_text}
use Rattle.field.proofs.Bytes.{known_bytes}
use Rattle.text.proofs.Putting.{put_as}
use Rattle.rule_text.proofs.Telling.{got-within, got-shows, refused-silent}
use Rattle.rule_text.proofs.Items.{week-ends, week-item}
use Rattle.rule_text.proofs.shown.show_week.Goals as goal

pub returns-in_default : goal.returns-in_default
returns-in_default c = refused-silent week_text _ _ _ _ _ _ _ (sym c.in_default.ensures) c.silent.ensures

pub put_days-requires : goal.put_days-requires
put_days-requires c =
    let args = c.args in
    let x = c.in-Ok.weeks in
    let read = sym c.in-Ok.ensures in
    let fit = week-ends args.sheet.now (known_bytes args.sheet.now (λ j. omega (arith, c.type_inv.sheet j))) args.at _ _ _ _ read in (
      fit.0,
      fit.1,
      omega (arith, got-within week_text _ _ _ args.place _ _ read c.requires.1, ap length (week-item x.start x.end x.step)),
    )

pub returns : goal.returns
returns c = got-shows week_text _ _ _ _ _ _ _ _ (sym c.in-Ok.ensures) refl (put_as (week-item _ _ _) c.put_days.ensures)
