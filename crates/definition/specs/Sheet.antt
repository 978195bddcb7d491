-- 01, "The packed sheet": "Rule count 16 bits, the rules, then zero bits to the byte's end, then nothing." 02, M-106: "Form 2 of the packed
-- sheet starts with the four bits 0010, then a rule count of 24 bits; comments have 24 bits and the five counts 12 each; the rest is as in form 1."
-- One layout serves both forms: form 1 starts with no bits.
-- Reading refuses by 1, 2 and 4 as met from the first bit on, then by 3; each number of the layout is a field of its own.
use Rattle.std.specs.Prelude.{List, [], ◌∷◌, Bool, true, false, cond, ℕ, suc, ◌+◌, ◌*◌, ◌-◌, ◌^◌, eqb, leb, ltb, length, take, drop}
use Rattle.std.proofs.Math.Option.{Option, none, some}
use Rattle.grid.specs.Cut.{holds}
use Rattle.definition.specs.Field.{Read, got, refused, and_then, bad_end, bytes_for, sheet_bits, packed, Layout, plain, lawful, counted, no_bits, ◌then◌, via, tagged, several}
use Rattle.definition.specs.Rule.{weekday_bounds, week_bounds, month_bounds, year_bounds, Operator, operator_number, operator_of, Kind, kind_number, kind_of, Time, fixed, variable, Span, YearRange, MonthdayRange, months, months_of, dated, WeekRange, WeekDayRange, fixed_days, holiday, Rule}

-- ## Form and limits
-- the number that a caller names a form by; the mark that its sheets start with, as so many bits and the number they stand for; and the widths
-- that it sets
pub record Form : Type 0 where
  pub number : ℕ
  pub mark_width : ℕ
  pub mark : ℕ
  pub rule_count : ℕ
  pub comment : ℕ
  pub item_count : ℕ

-- the most rules of a sheet; the most items of each sort and spans of a rule; the most boxes; the most entries of a point's list; the most
-- distinct lists over all points
pub record Limits : Type 0 where
  pub rules : ℕ
  pub items : ℕ
  pub spans : ℕ
  pub boxes : ℕ
  pub entries : ℕ
  pub lists : ℕ

-- "Rule count 16 bits", "comment 16; five counts of 10 each"
abbrev pub form1 : Form
form1 = record { number = 1; mark_width = 0; mark = 0; rule_count = 16; comment = 16; item_count = 10 }

-- "starts with the four bits 0010, then a rule count of 24 bits; comments have 24 bits and the five counts 12 each"
abbrev pub form2 : Form
form2 = record { number = 2; mark_width = 4; mark = 2; rule_count = 24; comment = 24; item_count = 12 }

-- how many bits mark and rule count take; operator, kind and comment of a rule; and with them its five counts
abbrev pub opening_width : Form → ℕ
opening_width form = form.mark_width + form.rule_count

abbrev pub title_width : Form → ℕ
title_width form = 4 + form.comment

abbrev pub head_width : Form → ℕ
head_width form = title_width form + 5 * form.item_count

-- the most rules that its rule count can carry, and the most items of a sort that a count of a rule can
abbrev pub most_rules : Form → ℕ
most_rules form = 2 ^ form.rule_count - 1

abbrev pub most_items : Form → ℕ
most_items form = 2 ^ form.item_count - 1

-- 02, M-107: "Limits go to 256 rules and 4,096 boxes in both forms; items, spans and list length stay." M-108: "The limit is 512 distinct non-empty
-- lists over all points".
abbrev pub sheet_limits : Limits
sheet_limits = record { rules = 256; items = 16; spans = 16; boxes = 4096; entries = 32; lists = 512 }

-- the limits of 01, which all sheets stored before were held to: "64 rules, 16 items of each sort, 16 spans", and of its table 1,024 boxes, 32 entries.
-- 01 has no limit of lists: there are no more of them than boxes
abbrev pub former_limits : Limits
former_limits = record { rules = 64; items = 16; spans = 16; boxes = 1024; entries = 32; lists = 1024 }

-- ## Items
-- "Start above end is lawful everywhere."
abbrev pub year : Layout ℕ
year = lawful 14 (λ v. holds v year_bounds)

abbrev pub month : Layout ℕ
month = lawful 4 (λ v. holds v month_bounds)

abbrev pub week : Layout ℕ
week = lawful 6 (λ v. holds v week_bounds)

abbrev pub weekday : Layout ℕ
weekday = lawful 3 (λ v. holds v weekday_bounds)

abbrev pub step : ℕ → Layout ℕ
step w = lawful w (λ v. leb 1 v)

-- an operator, a kind, a monthday's tag: 0, 1 or 2
abbrev pub choice : Layout ℕ
choice = lawful 2 (λ v. ltb v 3)

-- "12 bits of minutes (0 to 2880)"
abbrev pub minutes : Layout ℕ
minutes = lawful 12 (λ v. leb v 2880)

-- "Year: start 14, end 14 (each 1900 to 9999), step 16 (from 1)."
abbrev pub years_of : ℕ × (ℕ × ℕ) → YearRange
years_of p = record { start = p.0; end = p.1.0; step = p.1.1 }

unfoldable pub year_range : Layout YearRange
year_range = via years_of (λ r. (r.start, (r.end, r.step))) (year then year then step 16)

-- "Monthday: tag 2. Tag 0: start 4, end 4 (1 to 12). Tag 1: the same, then year 14 (1900 to 9999). Tag 2: a caller's
-- reference of 32 for a dated range."
abbrev pub monthday_tag : MonthdayRange → ℕ
monthday_tag (months a b) = 0
monthday_tag (months_of a b y) = 1
monthday_tag (dated r) = 2

-- an item's numbers in their order, 0 in the places that its tag doesn't use
abbrev pub month_parts : MonthdayRange → ℕ × (ℕ × ℕ)
month_parts (months a b) = (a, (b, 0))
month_parts (months_of a b y) = (a, (b, y))
month_parts (dated r) = (r, (0, 0))

abbrev pub months_layout : Layout MonthdayRange
months_layout = via (λ p. months p.0 p.1) (λ m. ((month_parts m).0, (month_parts m).1.0)) (month then month)

abbrev pub months_of_layout : Layout MonthdayRange
months_of_layout = via (λ p. months_of p.0 p.1.0 p.1.1) month_parts (month then month then year)

abbrev pub dated_layout : Layout MonthdayRange
dated_layout = via dated (λ m. (month_parts m).0) (plain 32)

unfoldable pub monthday_of : ℕ → Layout MonthdayRange
monthday_of tag = cond (eqb tag 0) months_layout (cond (eqb tag 1) months_of_layout dated_layout)

unfoldable pub monthday_range : Layout MonthdayRange
monthday_range = tagged choice monthday_of monthday_tag

-- "Week: start 6, end 6 (1 to 53), step 8 (from 1)."
abbrev pub weeks_of : ℕ × (ℕ × ℕ) → WeekRange
weeks_of p = record { start = p.0; end = p.1.0; step = p.1.1 }

unfoldable pub week_range : Layout WeekRange
week_range = via weeks_of (λ r. (r.start, (r.end, r.step))) (week then week then step 8)

-- "Weekday: tag 1. Tag 0: start 3, end 3 (0 Monday to 6 Sunday), offset 16 two's complement, then two sets of five bits, nth from
-- start and from end. Tag 1: holiday kind 1, offset 16."
abbrev pub weekday_tag : WeekDayRange → ℕ
weekday_tag (fixed_days a b o s e) = 0
weekday_tag (holiday k o) = 1

abbrev pub weekday_parts : WeekDayRange → ℕ × (ℕ × (ℕ × (ℕ × ℕ)))
weekday_parts (fixed_days a b o s e) = (a, (b, (o, (s, e))))
weekday_parts (holiday k o) = (k, (o, (0, (0, 0))))

abbrev pub fixed_days_layout : Layout WeekDayRange
fixed_days_layout = via (λ p. fixed_days p.0 p.1.0 p.1.1.0 p.1.1.1.0 p.1.1.1.1) weekday_parts
    (weekday then weekday then plain 16 then plain 5 then plain 5)

abbrev pub holiday_layout : Layout WeekDayRange
holiday_layout = via (λ p. holiday p.0 p.1) (λ d. ((weekday_parts d).0, (weekday_parts d).1.0)) (plain 1 then plain 16)

unfoldable pub weekday_of : ℕ → Layout WeekDayRange
weekday_of tag = cond (eqb tag 0) fixed_days_layout holiday_layout

unfoldable pub week_day_range : Layout WeekDayRange
week_day_range = tagged (plain 1) weekday_of weekday_tag

-- "A time is tag 0 and 12 bits of minutes (0 to 2880), or tag 1, event 2, offset 16 two's complement."
abbrev pub time_tag : Time → ℕ
time_tag (fixed m) = 0
time_tag (variable e o) = 1

abbrev pub time_parts : Time → ℕ × ℕ
time_parts (fixed m) = (m, 0)
time_parts (variable e o) = (e, o)

abbrev pub fixed_layout : Layout Time
fixed_layout = via fixed (λ t. (time_parts t).0) minutes

abbrev pub variable_layout : Layout Time
variable_layout = via (λ p. variable p.0 p.1) time_parts (plain 2 then plain 16)

unfoldable pub time_of : ℕ → Layout Time
time_of tag = cond (eqb tag 0) fixed_layout variable_layout

unfoldable pub time : Layout Time
time = tagged (plain 1) time_of time_tag

-- "Span: start, end, `open_end` 1, repeats flag 1 and, if it is set, 12 bits of minutes."
abbrev pub flag_of : ℕ → Bool
flag_of v = eqb v 1

abbrev pub flag_bit : Bool → ℕ
flag_bit b = cond b 1 0

abbrev pub repeats_tag : Option ℕ → ℕ
repeats_tag none = 0
repeats_tag (some n) = 1

abbrev pub repeats_parts : Option ℕ → ℕ
repeats_parts none = 0
repeats_parts (some n) = n

unfoldable pub repeats_of : ℕ → Layout (Option ℕ)
repeats_of tag = cond (eqb tag 0) (no_bits none) (via some repeats_parts (plain 12))

unfoldable pub repeats_layout : Layout (Option ℕ)
repeats_layout = tagged (plain 1) repeats_of repeats_tag

abbrev pub span_of : Time × (Time × (ℕ × Option ℕ)) → Span
span_of p = record { start = p.0; end = p.1.0; open_end = flag_of p.1.1.0; repeats = p.1.1.1 }

unfoldable pub span : Layout Span
span = via span_of (λ s. (s.start, (s.end, (flag_bit s.open_end, s.repeats)))) (time then time then plain 1 then repeats_layout)

-- ## Rules
-- the five counts: years, monthdays, weeks, weekdays, spans
abbrev pub Counts : Type 0
Counts = ℕ × (ℕ × (ℕ × (ℕ × ℕ)))

-- operator, kind and comment; and the counts
abbrev pub Title : Type 0
Title = Operator × (Kind × ℕ)

abbrev pub Head : Type 0
Head = Title × Counts

abbrev pub head_of : Rule → Head
head_of r = (
  (r.operator, (r.state.kind, r.state.comment)),
  (length r.years, (length r.monthdays, (length r.weeks, (length r.weekdays, length r.spans)))),
)

-- the items in the order of the counts
abbrev pub Body : Type 0
Body = List YearRange × (List MonthdayRange × (List WeekRange × (List WeekDayRange × List Span)))

abbrev pub body_of : Rule → Body
body_of r = (r.years, (r.monthdays, (r.weeks, (r.weekdays, r.spans))))

abbrev pub rule_with : Head → Body → Rule
rule_with h b = record {
  operator = h.0.0;
  state = record { kind = h.0.1.0; comment = h.0.1.1 };
  years = b.0;
  monthdays = b.1.0;
  weeks = b.1.1.0;
  weekdays = b.1.1.1.0;
  spans = b.1.1.1.1;
}

-- "then these items in that order", as many of each sort as the counts say; no form changes them
unfoldable pub body : Counts → Layout Body
body n = several n.0 year_range then several n.1.0 monthday_range then several n.1.1.0 week_range
    then several n.1.1.1.0 week_day_range then several n.1.1.1.1 span

module _ (form : Form) (limits : Limits) where
  -- "Rule: operator 2 (0 Normal, 1 Additional, 2 Fallback); kind 2 (0 Open, 1 Closed, 2 Unknown); comment 16", 24 in form 2
  unfoldable pub title : Layout Title
  title = via operator_of operator_number choice then via kind_of kind_number choice then plain form.comment

  -- "five counts of 10 each: years, monthdays, weeks, weekdays, spans", of 12 in form 2
  unfoldable pub counts : Layout Counts
  counts = let items = counted form.item_count limits.items in items then items then items then items then counted form.item_count limits.spans

  unfoldable pub head : Layout Head
  head = title then counts

  unfoldable pub rule : Layout Rule
  rule = tagged head (λ h. via (rule_with h) body_of (body h.1)) head_of

  -- the mark, and behind it the rule count
  unfoldable pub opening : Layout ℕ
  opening = via (λ x. x.1) (λ n. (form.mark, n)) (lawful form.mark_width (λ v. eqb v form.mark) then counted form.rule_count limits.rules)

  -- "Rule count 16 bits, the rules"
  unfoldable pub rules : Layout (List Rule)
  rules = tagged opening (λ n. several n rule) length

-- ## A whole sheet
-- the place of the first bit that is set, p being the place of the first bit
unfoldable pub first_set : List ℕ → ℕ → Option ℕ
first_set [] p = none
first_set (b ∷ bs) p = elim (eqb b 0) [ true ↦ first_set bs (suc p) | false ↦ some p ]

-- "then zero bits to the byte's end, then nothing": code 3 at "the first such bit, else the first bit after the padding"
unfoldable pub ended : {A : Type 0} → List ℕ → A → ℕ → Read A
ended s x q =
    let end = 8 * bytes_for q in
    elim (first_set (take (end - q) (drop q s)) q) [ some p ↦ refused bad_end p | none ↦ elim (ltb end (length s)) [ true ↦ refused bad_end end | false ↦ got x q ] ]

-- every byte string: its rules and the bit after them, or a refusal; "An accepted sheet is one that none of 1 to 4 refuses"
unfoldable pub decode : Form → Limits → List ℕ → Read (List Rule)
decode form limits sheet = let s = sheet_bits sheet in and_then (ended s) ((rules form limits).read s 0)

unfoldable pub encode : Form → Limits → List Rule → List ℕ
encode form limits rs = packed ((rules form limits).write rs)
