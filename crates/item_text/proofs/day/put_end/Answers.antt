-- `item_text::day::put_end` meets its contract, sort by sort.
use mathlib.Core.Path.{sym, ap, ◌∙◌}
use native.Mathlib.Omega.{arith}
use lib.ListN.{length}
use Rattle.grid.proofs.Cut.{holds-in}
use Rattle.definition.specs.Rule.{week_bounds, year_bounds}
use Rattle.definition.proofs.Lengths.{length_digits}
use Rattle.text.proofs.Putting.{put_as}
use Rattle.item_text.proofs.Spelled.{years-end, weeks-end}
use Rattle.item_text.proofs.day.put_end.Goals as goal

pub put_four-requires : goal.put_four-requires
put_four-requires c =
    let args = c.args in
    let e = years-end args.sort args.value c.in-Years.is in
    ((holds-in args.value year_bounds (sym e.1 ∙ c.requires.0)).1, omega (arith, c.requires.1, ap length e.0, length_digits 4 args.value))

pub put_two-requires : goal.put_two-requires
put_two-requires c =
    let args = c.args in
    let e = weeks-end args.sort args.value c.in-Weeks.is in
    (omega (arith, holds-in args.value week_bounds (sym e.1 ∙ c.requires.0)), omega (arith, c.requires.1, ap length e.0, length_digits 2 args.value))

pub returns-in-Years : goal.returns-in-Years
returns-in-Years c = put_as (sym (years-end _ _ c.in-Years.is).0) c.put_four.ensures

pub returns-in-Weeks : goal.returns-in-Weeks
returns-in-Weeks c = put_as (sym (weeks-end _ _ c.in-Weeks.is).0) c.put_two.ensures
