-- `day_paint::minute::write_painted` meets its contract.
use Rattle.std.proofs.Common.{◌∙◌, ap, sym, arith}
use Rattle.codes.specs.Number.{closed_number}
use Rattle.day_paint.specs.Stroke.{shown}
use Rattle.day_paint.proofs.Tiled.{day-same, part-whole}
use Rattle.day_paint.proofs.minute.write_painted.Goals as goal

pub returns : goal.returns
returns c =
    let painted = c.paint.ensures in
    let day = c.write_minutes.ensures in
    (day-same _ _ (λ m h. sym (painted.shows m h ∙ ap (λ q. shown closed_number q m) (part-whole c.args.strokes.now))) _ _ _ day.0, omega (arith, painted.few, day.1))
