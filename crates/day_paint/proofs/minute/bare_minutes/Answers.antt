-- `day_paint::minute::bare_minutes` meets its contract.
use mathlib.Core.Path.{refl}
use Rattle.day_paint.proofs.Minutes.{zeros}
use Rattle.day_paint.proofs.minute.bare_minutes.Goals as goal

pub returns : goal.returns
returns c = (refl, zeros 1440)
