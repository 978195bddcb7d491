-- `item_text::day::put_days` meets its contract: once, or with what stands behind the first end.
use mathlib.Core.Path.{sym, ap, ◌∙◌}
use native.Mathlib.Omega.{arith}
use lib.ListN.{length, length-append}
use Rattle.text.proofs.Putting.{put_then, put_as}
use Rattle.item_text.specs.Day.{end_text, behind}
use Rattle.item_text.proofs.Spelled.{item-once, item-both, item-least}
use Rattle.item_text.proofs.day.put_days.Goals as goal

pub put_end-end-requires : goal.put_end-end-requires
put_end-end-requires c =
    let args = c.args in
    let pre = c.requires in
    (pre.0, omega (arith, pre.2, item-least args.sort args.last args.step args.first))

pub returns-then-once : goal.returns-then-once
returns-then-once c =
    put_as (sym (item-once _ _ _ _ (sym c.once.ensures ∙ c.if-once.true))) c.put_end-end.ensures

pub put_behind-requires : goal.put_behind-requires
put_behind-requires c =
    let args = c.args in
    let pre = c.requires in
    let both = item-both args.sort args.last args.step args.first (sym c.once.ensures ∙ c.if-once.false) in
    let long = length-append ((end_text args.sort).write args.first) (behind args.sort args.last args.step) in
    (pre.1, omega (arith, pre.2, ap length both, long, c.put_end-end.ensures.ends))

pub returns : goal.returns
returns c =
    put_as (sym (item-both _ _ _ _ (sym c.once.ensures ∙ c.if-once.false)))
    (put_then c.put_end-end.ensures c.put_behind.ensures)
