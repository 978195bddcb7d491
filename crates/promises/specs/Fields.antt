-- 01, "The packed sheet", and 02, M-106: the kinds of fields that a sheet has, how wide they are, which values are lawful in them, and the code of a
-- value that isn't: 4 in a count, 2 in any other field. So what a refusal by 1, 2 or 4 tells of the bits at its place.
use Rattle.std.specs.Prelude.{◌≡◌, List, ◌⊎◌, Bool, true, false, cond, ℕ, ◌+◌, ◌≤◌, ◌<◌, eqb, leb, ltb, length}
use Rattle.grid.specs.Cut.{holds}
use Rattle.definition.specs.Field.{field_at, past_end, unlawful, over_limit}
use Rattle.definition.specs.Rule.{weekday_bounds, week_bounds, month_bounds, year_bounds}
use Rattle.definition.specs.Sheet.{Form, Limits}

-- counts; fields with a test, of which the mark that a sheet starts with has one lawful value, an operator, a kind and a monthday's tag being choices of
-- three; and fields of any value
pub data FieldKind : Type 0 where
  count_of_rules count_of_items count_of_spans : FieldKind
  a_mark choice_of_three a_year a_month a_week a_weekday a_year_step a_week_step some_minutes : FieldKind
  a_comment a_reference an_offset an_nth_set an_event a_flag some_repeats : FieldKind

abbrev pub width : Form → FieldKind → ℕ
width form count_of_rules = form.rule_count
width form count_of_items = form.item_count
width form count_of_spans = form.item_count
width form a_mark = form.mark_width
width form choice_of_three = 2
width form a_year = 14
width form a_month = 4
width form a_week = 6
width form a_weekday = 3
width form a_year_step = 16
width form a_week_step = 8
width form some_minutes = 12
width form a_comment = form.comment
width form a_reference = 32
width form an_offset = 16
width form an_nth_set = 5
width form an_event = 2
width form a_flag = 1
width form some_repeats = 12

abbrev pub passes : Form → Limits → FieldKind → ℕ → Bool
passes form limits count_of_rules v = leb v limits.rules
passes form limits count_of_items v = leb v limits.items
passes form limits count_of_spans v = leb v limits.spans
passes form limits a_mark v = eqb v form.mark
passes form limits choice_of_three v = ltb v 3
passes form limits a_year v = holds v year_bounds
passes form limits a_month v = holds v month_bounds
passes form limits a_week v = holds v week_bounds
passes form limits a_weekday v = holds v weekday_bounds
passes form limits a_year_step v = leb 1 v
passes form limits a_week_step v = leb 1 v
passes form limits some_minutes v = leb v 2880
passes form limits a_comment v = true
passes form limits a_reference v = true
passes form limits an_offset v = true
passes form limits an_nth_set v = true
passes form limits an_event v = true
passes form limits a_flag v = true
passes form limits some_repeats v = true

abbrev pub is_count : FieldKind → Bool
is_count count_of_rules = true
is_count count_of_items = true
is_count count_of_spans = true
is_count a_mark = false
is_count choice_of_three = false
is_count a_year = false
is_count a_month = false
is_count a_week = false
is_count a_weekday = false
is_count a_year_step = false
is_count a_week_step = false
is_count some_minutes = false
is_count a_comment = false
is_count a_reference = false
is_count an_offset = false
is_count an_nth_set = false
is_count an_event = false
is_count a_flag = false
is_count some_repeats = false

abbrev pub code_of : FieldKind → ℕ
code_of k = cond (is_count k) over_limit unlawful

-- a field of the kind begins at bit p of s and is refused with this code: it runs past the end, or its value isn't lawful
abbrev pub Refused : Form → Limits → List ℕ → FieldKind → ℕ → ℕ → Type 0
Refused form limits s k c p =
    ((c ≡ past_end) × (length s < p + width form k))
    ⊎ ((c ≡ code_of k) × (p + width form k ≤ length s) × (passes form limits k (field_at s p (width form k)) ≡ false))
