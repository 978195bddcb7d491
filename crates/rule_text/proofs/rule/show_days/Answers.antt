-- `rule_text::rule::show_days` meets its contract: part behind part.
use mathlib.Core.Path.{refl, ap}
use native.Mathlib.Omega.{arith}
use lib.ListN.{length}
use Rattle.definition.specs.Field.{sheet_bits}
use Rattle.rule_text.specs.Row.{part_told}
use Rattle.rule_text.proofs.Telling.{shows-as, shows_then}
use Rattle.rule_text.proofs.Rows.{part-near}
use Rattle.rule_text.proofs.Rules.{years_part, months_part, days-parts, days-long}
use Rattle.rule_text.proofs.rule.show_days.Goals as goal

pub show_days_of-first-requires : goal.show_days_of-first-requires
show_days_of-first-requires c =
    let args = c.args in
    let pre = c.requires in
    let s = sheet_bits args.sheet.now in
    (omega (arith, pre.at_bound), omega (arith, pre.within, days-long args.counts.years args.counts.monthdays args.counts.weeks args.counts.weekdays s args.at))

pub show_days_of-second-requires : goal.show_days_of-second-requires
show_days_of-second-requires c =
    let args = c.args in
    let pre = c.requires in
    let s = sheet_bits args.sheet.now in
    let first = c.show_days_of-first.ensures in
    let there = ap (λ q. length (part_told 1 args.counts.monthdays s q).text) first.read-to in (
      omega (arith, pre.at_bound, part-near 0 s args.at args.counts.years, first.read-to),
      omega (arith, pre.within, days-long args.counts.years args.counts.monthdays args.counts.weeks args.counts.weekdays s args.at, first.put.ends, there),
    )

pub show_days_of-third-requires : goal.show_days_of-third-requires
show_days_of-third-requires c =
    let args = c.args in
    let pre = c.requires in
    let s = sheet_bits args.sheet.now in
    let first = c.show_days_of-first.ensures in
    let second = shows-as (ap (part_told 1 args.counts.monthdays s) first.read-to) c.show_days_of-second.ensures in
    let there = ap (λ q. length (part_told 2 args.counts.weeks s q).text) second.read-to in
    let Y = years_part args.counts.years args.counts.monthdays args.counts.weeks args.counts.weekdays s args.at in (
      omega (arith, pre.at_bound, part-near 0 s args.at args.counts.years, part-near 1 s Y.next args.counts.monthdays, second.read-to),
      omega (
        arith,
        pre.within,
        days-long args.counts.years args.counts.monthdays args.counts.weeks args.counts.weekdays s args.at,
        first.put.ends,
        second.put.ends,
        there,
      ),
    )

pub show_days_of-fourth-requires : goal.show_days_of-fourth-requires
show_days_of-fourth-requires c =
    let args = c.args in
    let pre = c.requires in
    let s = sheet_bits args.sheet.now in
    let first = c.show_days_of-first.ensures in
    let second = shows-as (ap (part_told 1 args.counts.monthdays s) first.read-to) c.show_days_of-second.ensures in
    let third = shows-as (ap (part_told 2 args.counts.weeks s) second.read-to) c.show_days_of-third.ensures in
    let there = ap (λ q. length (part_told 3 args.counts.weekdays s q).text) third.read-to in
    let Y = years_part args.counts.years args.counts.monthdays args.counts.weeks args.counts.weekdays s args.at in
    let M = months_part args.counts.years args.counts.monthdays args.counts.weeks args.counts.weekdays s args.at in (
      omega (
        arith,
        pre.at_bound,
        part-near 0 s args.at args.counts.years,
        part-near 1 s Y.next args.counts.monthdays,
        part-near 2 s M.next args.counts.weeks,
        third.read-to,
      ),
      omega (
        arith,
        pre.within,
        days-long args.counts.years args.counts.monthdays args.counts.weeks args.counts.weekdays s args.at,
        first.put.ends,
        second.put.ends,
        third.put.ends,
        there,
      ),
    )

pub returns : goal.returns
returns c =
    let args = c.args in
    let s = sheet_bits args.sheet.now in
    let first = c.show_days_of-first.ensures in
    let second = shows-as (ap (part_told 1 args.counts.monthdays s) first.read-to) c.show_days_of-second.ensures in
    let third = shows-as (ap (part_told 2 args.counts.weeks s) second.read-to) c.show_days_of-third.ensures in
    let fourth = shows-as (ap (part_told 3 args.counts.weekdays s) third.read-to) c.show_days_of-fourth.ensures in
    shows-as (days-parts _ _ _ _ _ _)
    (shows_then first (shows_then second (shows_then third fourth _ refl) _ refl) _
    refl)
