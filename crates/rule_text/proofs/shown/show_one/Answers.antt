-- `rule_text::shown::show_one` meets its contract, sort by sort.
-- the same tale takes the same room
use mathlib.Core.Path.{◌≡◌, sym, ap, subst}
use Prim.Native.Nat.{ℕ}
use native.Mathlib.Omega.{arith}
use Rattle.item.specs.Sort.{number_of}
use Rattle.item.proofs.Sorts.{of-years, of-monthdays, of-weeks, of-weekdays, of-spans}
use Rattle.text.specs.Put.{Within}
use Rattle.rule_text.specs.Tale.{Tale}
use Rattle.rule_text.proofs.Telling.{shows-as}
use Rattle.rule_text.proofs.shown.show_one.Goals as goal

within-as : {x y : Tale} (place : ℕ) → x ≡ y → Within place y.text → Within place x.text
within-as place e h = subst (λ (z : Tale). Within place z.text) (sym e) h

pub show_year-requires : goal.show_year-requires
show_year-requires c =
    let e : number_of c.args.sort ≡ 0 = ap number_of c.in-Years.is in
    (omega (arith, c.requires.0), within-as _ (of-years _ _ _ _ _ _ _ _ (omega arith)) c.requires.1)

pub returns-in-Years : goal.returns-in-Years
returns-in-Years c =
    let e : number_of c.args.sort ≡ 0 = ap number_of c.in-Years.is in
    shows-as (of-years _ _ _ _ _ _ _ _ (omega arith)) c.show_year.ensures

pub show_months-requires : goal.show_months-requires
show_months-requires c =
    let e : number_of c.args.sort ≡ 1 = ap number_of c.in-Monthdays.is in
    (omega (arith, c.requires.0), within-as _ (of-monthdays _ _ _ _ _ _ _ _ (omega arith) (omega arith)) c.requires.1)

pub returns-in-Monthdays : goal.returns-in-Monthdays
returns-in-Monthdays c =
    let e : number_of c.args.sort ≡ 1 = ap number_of c.in-Monthdays.is in
    shows-as (of-monthdays _ _ _ _ _ _ _ _ (omega arith) (omega arith)) c.show_months.ensures

pub show_week-requires : goal.show_week-requires
show_week-requires c =
    let e : number_of c.args.sort ≡ 2 = ap number_of c.in-Weeks.is in
    (omega (arith, c.requires.0), within-as _ (of-weeks _ _ _ _ _ _ _ _ (omega arith) (omega arith) (omega arith)) c.requires.1)

pub returns-in-Weeks : goal.returns-in-Weeks
returns-in-Weeks c =
    let e : number_of c.args.sort ≡ 2 = ap number_of c.in-Weeks.is in
    shows-as (of-weeks _ _ _ _ _ _ _ _ (omega arith) (omega arith) (omega arith)) c.show_week.ensures

pub show_weekdays-requires : goal.show_weekdays-requires
show_weekdays-requires c =
    let e : number_of c.args.sort ≡ 3 = ap number_of c.in-Weekdays.is in
    (omega (arith, c.requires.0), within-as _ (of-weekdays _ _ _ _ _ _ _ _ (omega arith) (omega arith) (omega arith) (omega arith)) c.requires.1)

pub returns-in-Weekdays : goal.returns-in-Weekdays
returns-in-Weekdays c =
    let e : number_of c.args.sort ≡ 3 = ap number_of c.in-Weekdays.is in
    shows-as (of-weekdays _ _ _ _ _ _ _ _ (omega arith) (omega arith) (omega arith) (omega arith)) c.show_weekdays.ensures

pub show_span-requires : goal.show_span-requires
show_span-requires c =
    let e : number_of c.args.sort ≡ 4 = ap number_of c.in-Spans.is in
    (omega (arith, c.requires.0), within-as _ (of-spans _ _ _ _ _ _ _ _ (omega arith) (omega arith) (omega arith) (omega arith)) c.requires.1)

pub returns-in-Spans : goal.returns-in-Spans
returns-in-Spans c =
    let e : number_of c.args.sort ≡ 4 = ap number_of c.in-Spans.is in
    shows-as (of-spans _ _ _ _ _ _ _ _ (omega arith) (omega arith) (omega arith) (omega arith)) c.show_span.ensures
