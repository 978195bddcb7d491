-- The text of an item of days by its sort, which a number may name.
use Rattle.std.specs.Prelude.{List, [], ◌++◌, cond, ℕ, eqb}
use Rattle.grid.specs.Cut.{Range}
use Rattle.definition.specs.Rule.{weekday_bounds, week_bounds, month_bounds, year_bounds}
use Rattle.definition.specs.Text.{Text, ascii, padded, named, decimal}
use Rattle.definition.specs.Line.{Item, item, year_steps, week_steps, month_names, weekday_names}
use Rattle.item_text.specs.declared.day.DaySort.{DaySort}
use Rattle.item_text.specs.declared.day.DaySort.TheVariants.{Years, Months, Weeks, Weekdays}

abbrev pub month_name : Text ℕ
month_name = named month_names month_bounds

abbrev pub weekday_name : Text ℕ
weekday_name = named weekday_names weekday_bounds

-- the sort that a number names
abbrev pub sort_named : ℕ → DaySort
sort_named n = cond (eqb n 0) Years (cond (eqb n 1) Months (cond (eqb n 2) Weeks Weekdays))

abbrev pub end_text : DaySort → Text ℕ
end_text Years = padded 4 year_bounds
end_text Months = month_name
end_text Weeks = padded 2 week_bounds
end_text Weekdays = weekday_name

-- months and weekdays have no step but 1
abbrev pub steps_of : DaySort → Range
steps_of Years = year_steps
steps_of Months = (1, 2)
steps_of Weeks = week_steps
steps_of Weekdays = (1, 2)

unfoldable pub item_text : DaySort → Text Item
item_text sort = item (end_text sort) (steps_of sort)

-- what stands behind an item's first end where it isn't alone
unfoldable pub behind : DaySort → ℕ → ℕ → List ℕ
behind sort last step = ascii "-" ++ ((end_text sort).write last ++ cond (eqb step 1) [] (ascii "/" ++ decimal step))
