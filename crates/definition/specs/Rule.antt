-- 01, "The packed sheet": a rule's values. "Rule: operator 2 (0 Normal, 1 Additional, 2 Fallback); kind 2 (0 Open, 1 Closed, 2 Unknown);
-- comment 16; five counts of 10 each: years, monthdays, weeks, weekdays, spans"; the widths are Sheet's.
-- And from "Part taken": "spans ordered by start, end, `open_end` (false first), repeats (none first, then by minutes); fixed times
-- before variable ones; variable times by event, then offset".
use Rattle.std.specs.Prelude.{List, [], ◌∷◌, ◌++◌, Bool, true, false, ◌&&◌, ◌||◌, cond, ℕ, suc, ◌+◌, ◌%◌, eqb, ltb}
use Rattle.std.proofs.Math.Option.{Option, none, some}
use Rattle.laws.specs.Tests.{same_option, same_flag}
use Rattle.grid.specs.Cut.{Range}

-- ## Bounds
-- "Each carries its own lowest, highest and unreachable upper value .. weeks end at 54 and years at 10000": of each, lowest and upper.
abbrev pub weekday_bounds : Range
weekday_bounds = (0, 7)

abbrev pub week_bounds : Range
week_bounds = (1, 54)

abbrev pub month_bounds : Range
month_bounds = (1, 13)

abbrev pub year_bounds : Range
year_bounds = (1900, 10000)

-- 24:00, in minutes
abbrev pub midnight24 : ℕ
midnight24 = 1440

-- ## States
pub data Operator : Type 0 where
  Normal Additional Fallback : Operator

abbrev pub operator_number : Operator → ℕ
operator_number Normal = 0
operator_number Additional = 1
operator_number Fallback = 2

abbrev pub operator_of : ℕ → Operator
operator_of n = cond (eqb n 0) Normal (cond (eqb n 1) Additional Fallback)

pub data Kind : Type 0 where
  Open Closed Unknown : Kind

abbrev pub kind_number : Kind → ℕ
kind_number Open = 0
kind_number Closed = 1
kind_number Unknown = 2

abbrev pub kind_of : ℕ → Kind
kind_of n = cond (eqb n 0) Open (cond (eqb n 1) Closed Unknown)

-- "A state is kind and comment"; "comment numbers stand one to one for comment texts, 0 for the empty text"
pub record State : Type 0 where
  pub kind : Kind
  pub comment : ℕ

-- plain Closed
abbrev pub closed : State
closed = record { kind = Closed; comment = 0 }

abbrev pub same_state : State → State → Bool
same_state s t = eqb (kind_number s.kind) (kind_number t.kind) && eqb s.comment t.comment

-- ## Times and spans
-- a fixed time in minutes; or an event (numbered from 0 as the Rust declares them: dawn, sunrise, sunset, dusk) and an offset,
-- which stands here as its 16 bits, two's complement
pub data Time : Type 0 where
  fixed : ℕ → Time
  variable : ℕ → ℕ → Time

pub record Span : Type 0 where
  pub start : Time
  pub end : Time
  pub open_end : Bool
  pub repeats : Option ℕ

-- 16 bits of two's complement, by size: 32768 more than the signed number
abbrev pub by_size : ℕ → ℕ
by_size offset = (offset + 32768) % 65536

abbrev pub time_key : Time → List ℕ
time_key (fixed m) = 0 ∷ m ∷ 0 ∷ []
time_key (variable e o) = 1 ∷ e ∷ by_size o ∷ []

abbrev pub repeats_key : Option ℕ → ℕ
repeats_key none = 0
repeats_key (some n) = suc n

-- what spans are ordered by, first number first
abbrev pub span_key : Span → List ℕ
span_key s = time_key s.start ++ time_key s.end ++ cond s.open_end 1 0 ∷ repeats_key s.repeats ∷ []

-- is the first list not above the second? The first place where they differ decides
unfoldable pub not_above : List ℕ → List ℕ → Bool
not_above [] ys = true
not_above (x ∷ xs) [] = false
not_above (x ∷ xs) (y ∷ ys) = ltb x y || (eqb x y && not_above xs ys)

unfoldable pub insert_span : Span → List Span → List Span
insert_span s [] = s ∷ []
insert_span s (t ∷ ts) = elim (not_above (span_key s) (span_key t)) [ true ↦ s ∷ t ∷ ts | false ↦ t ∷ insert_span s ts ]

unfoldable pub sorted : List Span → List Span
sorted [] = []
sorted (s ∷ ss) = insert_span s (sorted ss)

unfoldable pub same_time : Time → Time → Bool
same_time (fixed a) (fixed b) = eqb a b
same_time (fixed a) (variable f p) = false
same_time (variable e o) (fixed b) = false
same_time (variable e o) (variable f p) = eqb e f && eqb o p

abbrev pub same_span : Span → Span → Bool
same_span s t =
    same_time s.start t.start && (same_time s.end t.end && (same_flag s.open_end t.open_end && same_option eqb s.repeats t.repeats))

-- ## Items of days
pub record YearRange : Type 0 where
  pub start : ℕ
  pub end : ℕ
  pub step : ℕ

-- months of any year; months of one year; a caller's reference for a dated range
pub data MonthdayRange : Type 0 where
  months : ℕ → ℕ → MonthdayRange
  months_of : ℕ → ℕ → ℕ → MonthdayRange
  dated : ℕ → MonthdayRange

pub record WeekRange : Type 0 where
  pub start : ℕ
  pub end : ℕ
  pub step : ℕ

-- weekdays from start to end; an offset in days; and two sets of five bits, which of a month's five such weekdays are meant, counted from
-- its start and from its end. Or a kind of holiday (0 public, 1 school) and an offset
pub data WeekDayRange : Type 0 where
  fixed_days : ℕ → ℕ → ℕ → ℕ → ℕ → WeekDayRange
  holiday : ℕ → ℕ → WeekDayRange

-- ## Rules
pub record Rule : Type 0 where
  pub operator : Operator
  pub state : State
  pub years : List YearRange
  pub monthdays : List MonthdayRange
  pub weeks : List WeekRange
  pub weekdays : List WeekDayRange
  pub spans : List Span

-- a rule with nothing in it: what is said to stand at a place past the last rule
abbrev pub no_rule : Rule
no_rule = record { operator = Normal; state = closed; years = []; monthdays = []; weeks = []; weekdays = []; spans = [] }
