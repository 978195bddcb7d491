-- `rule_text::row::show_row` meets its contract: the first item, then the others.
use mathlib.Core.Path.{refl, ap}
use Prim.Native.Nat.{◌-◌}
use native.Mathlib.Omega.{arith}
use lib.ListN.{length, length-append}
use Rattle.definition.specs.Field.{sheet_bits}
use Rattle.item.specs.Sort.{number_of}
use Rattle.rule_text.specs.Tale.{item_told}
use Rattle.rule_text.specs.Row.{others_told}
use Rattle.rule_text.proofs.Telling.{shows-as, shows_nothing, shows_then}
use Rattle.rule_text.proofs.Rows.{item-near, items-none, items-some}
use Rattle.rule_text.proofs.row.show_row.Goals as goal

pub returns-then-count-eq0 : goal.returns-then-count-eq0
returns-then-count-eq0 c =
    shows-as (items-none _ _ _ _ c.if-count-eq0.true) (shows_nothing _ _ _)

pub show_one-first-requires : goal.show_one-first-requires
show_one-first-requires c =
    let args = c.args in
    let pre = c.requires in
    let s = sheet_bits args.sheet.now in
    let x = item_told (number_of args.sort) s args.at in
    let long = length-append x.text (others_told (number_of args.sort) (args.count - 1) s x.next).text in (
      omega (arith, pre.0),
      omega (arith, pre.1, ap (λ y. length y.text) (items-some (number_of args.sort) s args.at args.count c.if-count-eq0.false), long),
    )

pub show_others-others-requires : goal.show_others-others-requires
show_others-others-requires c =
    let args = c.args in
    let pre = c.requires in
    let s = sheet_bits args.sheet.now in
    let x = item_told (number_of args.sort) s args.at in
    let first = c.show_one-first.ensures in
    let long = length-append x.text (others_told (number_of args.sort) (args.count - 1) s x.next).text in
    let some = ap (λ y. length y.text) (items-some (number_of args.sort) s args.at args.count c.if-count-eq0.false) in
    let there = ap (λ q. length (others_told (number_of args.sort) (args.count - 1) s q).text) first.read-to in
    (omega (arith, pre.0, item-near (number_of args.sort) s args.at, first.read-to), omega (arith, pre.1, some, long, there, first.put.ends))

pub returns : goal.returns
returns c =
    let first = c.show_one-first.ensures in
    let others = shows-as (ap (others_told _ _ _) first.read-to) c.show_others-others.ensures in
    shows-as (items-some _ _ _ _ c.if-count-eq0.false) (shows_then first others _ refl)
