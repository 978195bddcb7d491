-- What the parts of a rule are when they lie in slices: rows of ends, start, end, start, end .., by sorts (0 years, 1 months, 2 weeks,
-- 3 weekdays), how many pairs each row has, spans by their numbers; and the bits of items and rows.
use mathlib.Core.List.{List, map, flat_map}
use Rattle.std.specs.Prelude.{ℕ, ◌-◌, ◌/◌, length, take, drop, get_or}
use Rattle.laws.specs.Lists.{from}
use Rattle.definition.specs.Rule.{months, operator_of, Span}
use Rattle.definition.specs.Range.{Ends}
use Rattle.definition.specs.Sheet.{year_range, monthday_range, week_range, week_day_range, Title, Counts}
use Rattle.codes.specs.Number.{state_coded, span_at}
use Rattle.item_writer.specs.Written.{years_from, weeks_from, days_from}
use Rattle.tables.specs.Items.{by_sort, ends_at, row}

-- the pairs that a row of ends makes
unfoldable pub pairs_of : List ℕ → List Ends
pairs_of row = ends_at row 0 (length row / 2)

unfoldable pub item_bits : ℕ → Ends → List ℕ
item_bits sort e =
    by_sort sort (year_range.write (years_from e.0 e.1)) (monthday_range.write (months e.0 e.1)) (week_range.write (weeks_from e.0 e.1))
    (week_day_range.write (days_from e.0 e.1))

unfoldable pub row_bits : ℕ → List Ends → List ℕ
row_bits sort es = flat_map (item_bits sort) es

-- the rows of the sorts from a given one on, one behind the other
unfoldable pub rows_bits : List ℕ → List ℕ → ℕ → List ℕ
rows_bits ends counts sort = flat_map (λ s. row_bits s (row ends counts s)) (from sort (4 - sort))

-- ## Spans, and a head
unfoldable pub spans_at : List ℕ → ℕ → ℕ → List Span
spans_at spans first many = map span_at (take many (drop first spans))

abbrev pub title_of : ℕ → ℕ → Title
title_of operator state = (operator_of operator, ((state_coded state).kind, (state_coded state).comment))

abbrev pub counts_of : List ℕ → ℕ → Counts
counts_of counts spans = (get_or counts 0 0, (get_or counts 1 0, (get_or counts 2 0, (get_or counts 3 0, spans))))
