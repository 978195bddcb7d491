-- THE WORKED LISTS, one table of cases under one statement: what 02's M-108 says of drained rules after which few or many lists stand at points. To
-- be computed, the cases have limits of few lists; the limit itself is told on both sides of 512.
use Rattle.std.specs.Prelude.{◌≡◌, List, [], ◌∷◌, false, ℕ}
use Rattle.std.proofs.Math.Option.{none, some}
use Rattle.definition.specs.Field.{days_twice, many_boxes, long_list, many_lists}
use Rattle.definition.specs.Rule.{Operator, Normal, Additional, Kind, Open, Closed, fixed, Span, WeekDayRange, fixed_days, Rule}
use Rattle.definition.specs.Sheet.{Limits, sheet_limits}
use Rattle.definition.specs.Stop.{every_nth}
use Rattle.definition.specs.Lists.{refused_at}
use Rattle.definition.specs.Fold.{Drained, fine, over, drain}

-- ## Rules under small limits
pub record Case : Type 0 where
  pub limits : Limits
  pub rules : List Rule
  pub judgement : Drained

-- THE STATEMENT
abbrev pub Worked : Case → Type 0
Worked c = drain c.limits c.rules ≡ c.judgement

abbrev case : Limits → List Rule → Drained → Case
case limits rules judgement = record { limits = limits; rules = rules; judgement = judgement }

-- so many boxes, entries of a list and lists
abbrev limited : ℕ → ℕ → ℕ → Limits
limited boxes entries lists = record { rules = 256; items = 16; spans = 16; boxes = boxes; entries = entries; lists = lists }

-- so many lists at most, and nothing else that could be passed here
abbrev lists : ℕ → Limits
lists = limited 4096 32

-- ## Parts of rules
abbrev noon : Span
noon = record { start = fixed 600; end = fixed 840; open_end = false; repeats = none }

abbrev rule : Operator → Kind → List WeekDayRange → List Span → Rule
rule o k days spans = record { operator = o; state = record { kind = k; comment = 0 }; years = []; monthdays = []; weeks = []; weekdays = days; spans = spans }

-- weekdays from one to another, 0 being Monday
abbrev days : ℕ → ℕ → List WeekDayRange
days a b = fixed_days a b 0 every_nth every_nth ∷ []

-- Open 10:00-14:00: a rule that replaces lists, and one that is appended, over such days
abbrev replaced : ℕ → ℕ → Rule
replaced a b = rule Normal Open (days a b) (noon ∷ [])

abbrev added : ℕ → ℕ → Rule
added a b = rule Additional Open (days a b) (noon ∷ [])

-- Monday, then Tuesday, then Wednesday
abbrev three_days : List Rule
three_days = added 0 0 ∷ added 1 1 ∷ added 2 2 ∷ []

abbrev pub cases : List Case
cases =
    -- three lists, and four days with none: "non-empty" lists count
    case (lists 3) three_days fine ∷ case (lists 2) three_days (over many_lists 2) ∷ case (lists 1) three_days (over many_lists 1)
    -- two rules that say the same: lists are equal by "the same rule indexes"
    ∷ case (lists 1) (added 0 0 ∷ added 1 1 ∷ []) (over many_lists 1) ∷ case (lists 1) (added 0 1 ∷ []) fine
    -- Mo-Tu, then Tu-We: three lists, of the first, of both and of the second; a rule without spans is an entry
    ∷ case (lists 3) (added 0 1 ∷ added 1 2 ∷ []) fine ∷ case (lists 2) (added 0 1 ∷ added 1 2 ∷ []) (over many_lists 1)
    ∷ case (lists 1) (added 0 1 ∷ rule Additional Open (days 0 0) [] ∷ []) (over many_lists 1)
    -- rules that replace each other: five lists come and go, and no more than two stand after a rule
    ∷ case (lists 2) (replaced 0 3 ∷ replaced 0 1 ∷ replaced 0 3 ∷ replaced 2 3 ∷ replaced 0 6 ∷ []) fine
    ∷ case (lists 1) (replaced 0 3 ∷ replaced 0 3 ∷ replaced 0 6 ∷ []) fine
    -- Normal Closed replaces nothing
    ∷ case (lists 1) (replaced 0 3 ∷ rule Normal Closed (days 0 1) (noon ∷ []) ∷ []) (over many_lists 1)
    -- "6 first at the same rule", "the first met"
    ∷ case (limited 4096 1 1) (added 0 1 ∷ added 0 0 ∷ []) (over long_list 1)
    ∷ case (limited 4096 2 1) (added 0 1 ∷ added 0 0 ∷ added 0 0 ∷ []) (over many_lists 1)
    ∷ case (limited 4096 1 1) (added 0 1 ∷ added 0 1 ∷ added 2 2 ∷ []) (over long_list 1)
    -- 11 and 5 come before both
    ∷ case (lists 1) (added 0 0 ∷ added 1 1 ∷ rule Additional Open (fixed_days 0 1 0 every_nth every_nth ∷ fixed_days 1 2 0 every_nth every_nth ∷ []) [] ∷ []) (over days_twice 2)
    ∷ case (limited 2 32 1) (added 0 0 ∷ added 1 1 ∷ []) (over many_boxes 3) ∷ []

-- ## The limit
pub record Limit : Type 0 where
  pub stands : (k : ℕ) → refused_at sheet_limits k false 512 ≡ none
  pub passed : (k : ℕ) → refused_at sheet_limits k false 513 ≡ some (many_lists, k)
