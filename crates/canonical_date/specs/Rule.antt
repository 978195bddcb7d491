-- A rule's days: whether an item stops it, and its ranges as rows of the table.
use Rattle.std.specs.Prelude.{List, [], ◌∷◌, Bool, ◌||◌, not, ℕ, ◌+◌, ◌*◌, eqb, length, set}
use Rattle.std.proofs.lemmas.List.Edits.{sets}
use Rattle.laws.specs.Lists.{any_of}
use Rattle.grid.specs.Cut.{Range}
use Rattle.definition.specs.Rule.{Rule}
use Rattle.definition.specs.Range.{ranges}
use Rattle.definition.specs.Stop.{monthday_stops, weekday_stops}
use Rattle.definition.specs.Point.{Dimension, weekday_dimension, week_dimension, month_dimension, year_dimension}
use Rattle.canonical_date.specs.Row.{flat}

-- 01, "Stoppers", as far as they are days
unfoldable pub days_stop : Rule → Bool
days_stop r =
    any_of (λ y. not (eqb y.step 1)) r.years
    || (any_of monthday_stops r.monthdays || (any_of (λ w. not (eqb w.step 1)) r.weeks || any_of weekday_stops r.weekdays))

abbrev pub ranges_in : Rule → Dimension → List Range
ranges_in r d = ranges d.bounds (d.items r)

-- dimension 0 years, 1 months, 2 weeks, 3 weekdays
abbrev pub days_rows : Rule → List (List Range)
days_rows r = ranges_in r year_dimension ∷ ranges_in r month_dimension ∷ ranges_in r week_dimension ∷ ranges_in r weekday_dimension ∷ []

-- rows from dimension i on, each at its place; and how many ranges each has
unfoldable pub lay_rows : ℕ → List (List Range) → List ℕ → List ℕ
lay_rows i [] table = table
lay_rows i (R ∷ Rs) table = lay_rows (i + 1) Rs (sets table (i * 64) (flat R))

unfoldable pub count_rows : ℕ → List (List Range) → List ℕ → List ℕ
count_rows i [] counts = counts
count_rows i (R ∷ Rs) counts = count_rows (i + 1) Rs (set counts i (length R))
