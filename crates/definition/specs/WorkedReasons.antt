-- THE WORKED REASONS, one table of cases under one statement, from a sheet's rules to 02's number: each reason alone, pairs that tell their order
-- whichever stands first, and sheets of which more than one rule stops.
use Rattle.std.specs.Prelude.{◌≡◌, List, [], ◌∷◌, ◌++◌, false, ℕ}
use Rattle.std.proofs.Math.Option.{none}
use Rattle.definition.specs.Rule.{Operator, Normal, Fallback, closed, Time, fixed, Span, YearRange, MonthdayRange, months, months_of, dated, WeekRange, WeekDayRange, fixed_days, holiday, Rule}
use Rattle.definition.specs.Stop.{every_nth, why}

pub record Case : Type 0 where
  pub rules : List Rule
  pub number : ℕ

-- THE STATEMENT
abbrev pub Worked : Case → Type 0
Worked c = why c.rules ≡ c.number

-- ## Parts of rules
-- an operator, years, monthdays, weeks, weekdays and spans
abbrev rule : Operator → List YearRange → List MonthdayRange → List WeekRange → List WeekDayRange → List Span → Rule
rule o ys ms ws ds ss = record { operator = o; state = closed; years = ys; monthdays = ms; weeks = ws; weekdays = ds; spans = ss }

abbrev between : Time → Time → Span
between a b = record { start = a; end = b; open_end = false; repeats = none }

-- 10:00-18:00, and 20:00-26:00
abbrev today : Span
today = between (fixed 600) (fixed 1080)

abbrev tonight : Span
tonight = between (fixed 1200) (fixed 1560)

-- years and weeks with a step
abbrev years : ℕ → YearRange
years step = record { start = 2024; end = 2030; step = step }

abbrev weeks : ℕ → WeekRange
weeks step = record { start = 10; end = 20; step = step }

abbrev weekdays : WeekDayRange
weekdays = fixed_days 0 4 0 every_nth every_nth

-- the day after a Monday, and the first Monday of a month
abbrev day_after : WeekDayRange
day_after = fixed_days 0 0 1 every_nth every_nth

abbrev first_monday : WeekDayRange
first_monday = fixed_days 0 0 0 1 every_nth

-- a public holiday, and the day after one
abbrev feast : WeekDayRange
feast = holiday 0 0

abbrev day_after_feast : WeekDayRange
day_after_feast = holiday 0 1

-- a rule that nothing stops
abbrev plain : Rule
plain = rule Normal (years 1 ∷ []) (months 1 2 ∷ []) (weeks 1 ∷ []) (weekdays ∷ []) (today ∷ [])

-- ## The table
abbrev tells : List Rule → ℕ → Case
tells rs n = record { rules = rs; number = n }

-- a rule of weekdays alone, from 10:00 to 18:00
abbrev on : List WeekDayRange → Rule
on ds = rule Normal [] [] [] ds (today ∷ [])

-- each reason alone
abbrev alone : List Case
alone =
    tells (rule Fallback [] [] [] [] (today ∷ []) ∷ []) 1
    ∷ tells (rule Normal [] [] [] [] (tonight ∷ []) ∷ []) 2
    ∷ tells (rule Normal (years 2 ∷ []) [] [] [] (today ∷ []) ∷ []) 3
    ∷ tells (rule Normal [] (months_of 1 2 2024 ∷ []) [] [] (today ∷ []) ∷ []) 4
    ∷ tells (rule Normal [] (dated 7 ∷ []) [] [] (today ∷ []) ∷ []) 4
    ∷ tells (rule Normal [] [] (weeks 2 ∷ []) [] (today ∷ []) ∷ []) 5
    ∷ tells (on (feast ∷ []) ∷ []) 6
    ∷ tells (on (day_after ∷ []) ∷ []) 7
    ∷ tells (on (first_monday ∷ []) ∷ []) 8
    ∷ []

-- Fallback before all; time, which stands last, before years; years before monthdays, these before weeks, weeks before weekdays, each by an item
-- behind a plain one; a holiday and an offset behind an item whose reason comes later
abbrev ordered : List Case
ordered =
    tells (rule Fallback (years 2 ∷ []) (dated 7 ∷ []) (weeks 2 ∷ []) (feast ∷ day_after ∷ first_monday ∷ []) (tonight ∷ []) ∷ []) 1
    ∷ tells (rule Normal (years 2 ∷ []) [] [] [] (today ∷ tonight ∷ []) ∷ []) 2
    ∷ tells (rule Normal (years 1 ∷ years 2 ∷ []) (dated 7 ∷ []) [] [] (today ∷ []) ∷ []) 3
    ∷ tells (rule Normal [] (months 1 2 ∷ dated 7 ∷ []) (weeks 2 ∷ []) [] (today ∷ []) ∷ []) 4
    ∷ tells (rule Normal [] [] (weeks 1 ∷ weeks 2 ∷ []) (feast ∷ []) (today ∷ []) ∷ []) 5
    ∷ tells (on (first_monday ∷ feast ∷ []) ∷ []) 6
    ∷ tells (on (day_after ∷ feast ∷ []) ∷ []) 6
    ∷ tells (on (first_monday ∷ day_after ∷ []) ∷ []) 7
    ∷ []

-- a holiday with an offset is a holiday, and a first Monday with an offset is moved
abbrev both : List Case
both = tells (on (day_after_feast ∷ []) ∷ []) 6 ∷ tells (on (fixed_days 0 0 1 1 every_nth ∷ []) ∷ []) 7 ∷ []

-- nothing stops; and of several rules that stop the first tells, whatever the others would
abbrev sheets : List Case
sheets =
    tells [] 0
    ∷ tells (plain ∷ plain ∷ []) 0
    ∷ tells (plain ∷ on (first_monday ∷ []) ∷ plain ∷ rule Fallback [] [] [] [] (today ∷ []) ∷ []) 8
    ∷ []

abbrev pub cases : List Case
cases = alone ++ ordered ++ both ++ sheets
