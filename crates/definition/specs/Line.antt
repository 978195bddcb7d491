-- 02, M-100: "days in the order years, months, week numbers, weekdays; two-digit hours, minutes and weeks, the weeks after `week `; `,` between items,
-- one space between parts; then the spans, each as start, `-`, end, and `+` if `open_end`; then kind, then comment; `; ` before a Normal rule, `, ` before an
-- Additional one, ` || ` before a Fallback; `off` for Closed, `unknown` for Unknown, and `open` only where an Open rule has a comment; a comment number n as
-- `"n"`, 0 not written. Nothing stands before the first rule, and no rules give an empty line. Equal ends of a day item with step 1 are written once, a span's
-- never; any other step follows both ends after `/`." M-112: "comment numbers 1 to 16,777,215, these and steps without leading zeros".
-- What fits is what has words, with lawful values; nothing is said of counts.
use mathlib.Core.List.{List, [], ◌∷◌, ◌++◌, flat_map}
use Rattle.std.specs.Prelude.{Bool, true, false, ◌&&◌, not, ℕ, ◌/◌, ◌%◌, ◌^◌, eqb, leb}
use Prim.Native.String.{String}
use Rattle.laws.specs.Lists.{every}
use Rattle.grid.specs.Cut.{Range}
use Rattle.definition.specs.Rule.{weekday_bounds, week_bounds, month_bounds, year_bounds, Operator, Normal, Additional, Fallback, Kind, Open, Closed, Unknown, State, Time, fixed, variable, Span, YearRange, MonthdayRange, months, months_of, dated, WeekRange, WeekDayRange, fixed_days, holiday, Rule}
use Rattle.definition.specs.Stop.{monthday_stops, weekday_stops}
use Rattle.definition.specs.Point.{is_normal}
use Rattle.definition.specs.Day.{minute_of, no_repeats}
use Rattle.definition.specs.Text.{Text, ascii, word, padded, plain, named, ◌then◌, of, unless, only, is_none, several}

-- ## Day items
-- first and last value, and a step
abbrev pub Item : Type 0
Item = ℕ × (ℕ × ℕ)

-- "Equal ends of a day item with step 1 are written once .. any other step follows both ends after `/`."
abbrev pub single : Item → Bool
single e = eqb e.0 e.1.0 && eqb e.1.1 1

unfoldable pub item : Text ℕ → Range → Text Item
item end steps = of (λ e. e.0) end then unless single (word "-" then of (λ e. e.1.0) end
    then unless (λ e. eqb e.1.1 1) (word "/" then of (λ e. e.1.1) (plain steps)))

-- steps of 16 and of 8 bits, from 1
abbrev pub year_steps : Range
year_steps = (1, 2 ^ 16)

abbrev pub week_steps : Range
week_steps = (1, 2 ^ 8)

abbrev pub month_names : List String
month_names = "Jan" ∷ "Feb" ∷ "Mar" ∷ "Apr" ∷ "May" ∷ "Jun" ∷ "Jul" ∷ "Aug" ∷ "Sep" ∷ "Oct" ∷ "Nov" ∷ "Dec" ∷ []

abbrev pub weekday_names : List String
weekday_names = "Mo" ∷ "Tu" ∷ "We" ∷ "Th" ∷ "Fr" ∷ "Sa" ∷ "Su" ∷ []

unfoldable pub year_text : Text YearRange
year_text = of (λ y. (y.start, (y.end, y.step))) (item (padded 4 year_bounds) year_steps)

unfoldable pub week_text : Text WeekRange
week_text = of (λ w. (w.start, (w.end, w.step))) (item (padded 2 week_bounds) week_steps)

-- months and weekdays have no step; what is more than their ends has no words
abbrev pub month_item : MonthdayRange → Item
month_item (months a b) = (a, (b, 1))
month_item (months_of a b y) = (a, (b, 1))
month_item (dated r) = (0, (0, 1))

abbrev pub weekday_item : WeekDayRange → Item
weekday_item (fixed_days a b offset from_start from_end) = (a, (b, 1))
weekday_item (holiday k offset) = (0, (0, 1))

unfoldable pub month_text : Text MonthdayRange
month_text = only (λ m. not (monthday_stops m)) (of month_item (item (named month_names month_bounds) (1, 2)))

unfoldable pub weekday_text : Text WeekDayRange
weekday_text = only (λ d. not (weekday_stops d)) (of weekday_item (item (named weekday_names weekday_bounds) (1, 2)))

-- ## Spans
-- "two-digit hours, minutes", to 48:00
unfoldable pub clock : Text ℕ
clock = only (λ m. leb m 2880) (of (λ m. m / 60) (padded 2 (0, 49)) then word ":" then of (λ m. m % 60) (padded 2 (0, 60)))

abbrev pub is_fixed : Time → Bool
is_fixed (fixed m) = true
is_fixed (variable e o) = false

abbrev pub is_plain : Span → Bool
is_plain s = is_fixed s.start && (is_fixed s.end && no_repeats s.repeats)

-- "each as start, `-`, end, and `+` if `open_end`"
unfoldable pub span_text : Text Span
span_text = only is_plain (of (λ s. minute_of s.start) clock then word "-" then of (λ s. minute_of s.end) clock then unless (λ s. not s.open_end) (word "+"))

-- ## Kind and comment
-- "`off` for Closed, `unknown` for Unknown, and `open` only where an Open rule has a comment"
abbrev pub kind_word : Kind → List ℕ
kind_word Open = ascii "open"
kind_word Closed = ascii "off"
kind_word Unknown = ascii "unknown"

abbrev pub is_open : Kind → Bool
is_open Open = true
is_open Closed = false
is_open Unknown = false

abbrev pub kind_text : Text State
kind_text = record { write = λ S. kind_word S.kind; fits = λ S. true }

-- "comment numbers 1 to 16,777,215"
abbrev pub comments : Range
comments = (1, 2 ^ 24)

-- "a comment number n as `"n"`, 0 not written"; one space before each of the two
unfoldable pub state_text : Text State
state_text = unless (λ S. is_open S.kind && eqb S.comment 0) (word " " then kind_text)
    then unless (λ S. eqb S.comment 0) (word " \"" then of (λ S. S.comment) (plain comments) then word "\"")

-- ## Rules
-- a part that may be missing. The spans never are, so "one space between parts" comes to one behind each part before them
unfoldable pub part : {A : Type 0} → Text (List A) → Text (List A)
part T = unless is_none (T then word " ")

unfoldable pub rule_text : Text Rule
rule_text = of (λ r. r.years) (part (several "," year_text))
    then of (λ r. r.monthdays) (part (several "," month_text))
    then of (λ r. r.weeks) (part (word "week " then several "," week_text))
    then of (λ r. r.weekdays) (part (several "," weekday_text))
    then of (λ r. r.spans) (several "," span_text)
    then of (λ r. r.state) state_text

-- "`; ` before a Normal rule, `, ` before an Additional one, ` || ` before a Fallback"
abbrev pub before : Operator → List ℕ
before Normal = ascii "; "
before Additional = ascii ", "
before Fallback = ascii " || "

-- "Nothing stands before the first rule, and no rules give an empty line."
unfoldable pub line_of : List Rule → List ℕ
line_of [] = []
line_of (r ∷ rs) = rule_text.write r ++ flat_map (λ q. before q.operator ++ rule_text.write q) rs

abbrev pub first_normal : List Rule → Bool
first_normal [] = true
first_normal (r ∷ rs) = is_normal r.operator

-- THE LINE
unfoldable pub line : Text (List Rule)
line = record { write = line_of; fits = λ rs. first_normal rs && every rule_text.fits rs }
