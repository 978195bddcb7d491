-- `item_text::day::put_behind` meets its contract: `-`, the last end, and a step other than 1 behind `/`.
use mathlib.Core.Path.{sym}
use native.Mathlib.Omega.{arith}
use borrow.Author.Tests.{eq-eqb, ne_eqb}
use Rattle.text.proofs.Putting.{put_then, put_as}
use Rattle.item_text.proofs.Spelled.{behind-alone, behind-step, behind-least, behind-long}
use Rattle.item_text.proofs.day.put_behind.Goals as goal

pub put_byte-dash-requires : goal.put_byte-dash-requires
put_byte-dash-requires c =
    omega (
      arith,
      c.requires.1,
      behind-least c.args.sort c.args.last c.args.step,
    )

pub put_end-end-requires : goal.put_end-end-requires
put_end-end-requires c =
    let args = c.args in
    let pre = c.requires in
    (pre.0, omega (arith, pre.1, behind-least args.sort args.last args.step, c.put_byte-dash.ensures.ends))

pub returns-then-step-eq1 : goal.returns-then-step-eq1
returns-then-step-eq1 c =
    put_as (sym (behind-alone _ _ _ (eq-eqb c.args.step 1 (omega arith)))) (put_then c.put_byte-dash.ensures c.put_end-end.ensures)

pub put_byte-slash-requires : goal.put_byte-slash-requires
put_byte-slash-requires c =
    let args = c.args in
    let long = behind-long args.sort args.last args.step (ne_eqb c.args.step 1 (omega arith)) in
    omega (arith, c.requires.1, long, c.put_byte-dash.ensures.ends, c.put_end-end.ensures.ends)

pub put_decimal-requires : goal.put_decimal-requires
put_decimal-requires c =
    let args = c.args in
    let long = behind-long args.sort args.last args.step (ne_eqb c.args.step 1 (omega arith)) in
    omega (arith, c.requires.1, long, c.put_byte-dash.ensures.ends, c.put_end-end.ensures.ends, c.put_byte-slash.ensures.ends)

pub returns : goal.returns
returns c =
    put_as (sym (behind-step _ _ _ (ne_eqb c.args.step 1 (omega arith))))
    (put_then c.put_byte-dash.ensures
    (put_then c.put_end-end.ensures (put_then c.put_byte-slash.ensures c.put_decimal.ensures)))
