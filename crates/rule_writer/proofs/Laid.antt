-- The bits of a rule: its title, its counts, its rows and its spans, one behind the other. And a rule laid over runs is the rule over
-- their items.
use mathlib.Core.Path.{◌≡◌, refl, sym, ap, ap₂, ◌∙◌}
use mathlib.Core.List.{List, [], ◌∷◌, ◌++◌, map, flat_map, append_assoc}
use Prim.Native.Nat.{ℕ, ◌≤◌}
use native.Mathlib.Omega.{arith}
use lib.ListN.{length, length-map}
use Rattle.laws.specs.Lists.{from}
use Rattle.laws.proofs.Lists.{All-each}
use Rattle.laws.proofs.Spread.{flat_map-map}
use Rattle.grid.specs.Cut.{Range}
use Rattle.definition.specs.Field.{Layout, ◌then◌, via, tagged, several}
use Rattle.definition.specs.Rule.{YearRange, MonthdayRange, months, WeekRange, WeekDayRange, Span, Rule}
use Rattle.definition.specs.Range.{Ends}
use Rattle.definition.specs.Sheet.{year_range, monthday_range, week_range, week_day_range, span, Form, sheet_limits, title, counts, Counts, head, body, rule}
use Rattle.definition.specs.Point.{Dimension}
use Rattle.definition.specs.Group.{items_of, laid_over}
use Rattle.codes.specs.Number.{span_at}
use Rattle.item_writer.specs.Written.{years_from, weeks_from, days_from}
use Rattle.rule_writer.specs.Rows.{item_bits, row_bits, rows_bits, title_of, counts_of}
use Rattle.tables.specs.Items.{row_place, row, over_items, rows_below}
use Rattle.rule_writer.specs.Written.{items_in, rule_bits}
use Rattle.rule_writer.proofs.Rows.{row-length}

-- items of one sort, one behind the other
as_row : {A : Type 0} (L : Layout A) (make : Ends → A) (sort : ℕ) → ((e : Ends) → L.write (make e) ≡ item_bits sort e) → (es : List Ends)
    → flat_map L.write (map make es) ≡ row_bits sort es
unfolding row_bits
as_row L make sort h es = flat_map-map L.write (item_bits sort) make es (All-each _ h es)

module _ (form : Form) (ends row_counts : List ℕ) where
  -- what stands behind four rows
  four-rows : (rest : List ℕ) → rows_bits ends row_counts 0 ++ rest
      ≡ row_bits 0 (row ends row_counts 0) ++
      (row_bits 1 (row ends row_counts 1) ++ (row_bits 2 (row ends row_counts 2) ++ (row_bits 3 (row ends row_counts 3) ++ rest)))
  unfolding rows_bits flat_map from
  four-rows rest =
      append_assoc y (m ++ (w ++ (d ++ []))) rest
      ∙ ap (y ++◌) (append_assoc m (w ++ (d ++ [])) rest ∙ ap (m ++◌) (append_assoc w (d ++ []) rest ∙ ap (w ++◌) (append_assoc d [] rest)))
    where
      y : List ℕ
      y = row_bits 0 (row ends row_counts 0)

      m : List ℕ
      m = row_bits 1 (row ends row_counts 1)

      w : List ℕ
      w = row_bits 2 (row ends row_counts 2)

      d : List ℕ
      d = row_bits 3 (row ends row_counts 3)

  -- THE BITS OF A RULE
  rule-bits : (operator state : ℕ) (spans : List Span) → row_place row_counts 4 ≤ length ends
      → rule_bits form operator state ends row_counts spans
      ≡ (title form sheet_limits).write (title_of operator state) ++
      ((counts form sheet_limits).write (counts_of row_counts (length spans)) ++ (rows_bits ends row_counts 0 ++ flat_map span.write spans))
  unfolding rule head body tagged via ◌then◌ several over_items rows_below item_bits
  rule-bits operator state spans h =
      append_assoc first ((counts form sheet_limits).write lengths)
      (flat_map year_range.write (map as_years y) ++
      (flat_map monthday_range.write (map as_months m) ++
      (flat_map week_range.write (map as_weeks w) ++ (flat_map week_day_range.write (map as_days d) ++ flat_map span.write spans))))
      ∙ ap₂ (λ n b. first ++ ((counts form sheet_limits).write n ++ b)) same
      (ap₂ ◌++◌ (as_row year_range as_years 0 (λ e. refl) y)
      (ap₂ ◌++◌ (as_row monthday_range as_months 1 (λ e. refl) m) (ap₂ ◌++◌ (as_row week_range as_weeks 2 (λ e. refl) w)
      (ap (◌++ flat_map span.write spans) (as_row week_day_range as_days 3 (λ e. refl) d)))) ∙ sym (four-rows (flat_map span.write spans)))
    where
      first : List ℕ
      first = (title form sheet_limits).write (title_of operator state)

      y : List Ends
      y = row ends row_counts 0

      m : List Ends
      m = row ends row_counts 1

      w : List Ends
      w = row ends row_counts 2

      d : List Ends
      d = row ends row_counts 3

      as_years : Ends → YearRange
      as_years e = years_from e.0 e.1

      as_months : Ends → MonthdayRange
      as_months e = months e.0 e.1

      as_weeks : Ends → WeekRange
      as_weeks e = weeks_from e.0 e.1

      as_days : Ends → WeekDayRange
      as_days e = days_from e.0 e.1

      lengths : Counts
      lengths = (length (map as_years y), (length (map as_months m), (length (map as_weeks w), (length (map as_days d), length spans))))

      same : lengths ≡ counts_of row_counts (length spans)
      same = λ i. (
        (length-map y as_years ∙ row-length ends row_counts 0 (omega arith) h) i,
        (
          (length-map m as_months ∙ row-length ends row_counts 1 (omega arith) h) i,
          (
            (length-map w as_weeks ∙ row-length ends row_counts 2 (omega arith) h) i,
            ((length-map d as_days ∙ row-length ends row_counts 3 (omega arith) h) i, length spans),
          ),
        ),
      )

-- with the spans that lie in a slice
pub rule-parts : (form : Form) (operator state : ℕ) (ends row_counts spans : List ℕ) → row_place row_counts 4 ≤ length ends
    → rule_bits form operator state ends row_counts (map span_at spans)
    ≡ (title form sheet_limits).write (title_of operator state) ++
    ((counts form sheet_limits).write (counts_of row_counts (length spans)) ++ (rows_bits ends row_counts 0 ++ flat_map span.write (map span_at spans)))
rule-parts form operator state ends row_counts spans h =
    rule-bits form ends row_counts operator state (map span_at spans) h
    ∙ ap
    (λ n.
    (title form sheet_limits).write (title_of operator state) ++
    ((counts form sheet_limits).write (counts_of row_counts n) ++ (rows_bits ends row_counts 0 ++ flat_map span.write (map span_at spans))))
    (length-map spans span_at)

-- A RULE LAID OVER RUNS IS THE RULE OVER THEIR ITEMS
pub over-laid : (ds : List Dimension) (Rs : List (List Range)) (r : Rule) → laid_over ds Rs r ≡ over_items ds (items_in ds Rs) r
unfolding laid_over over_items items_in
over-laid [] Rs r = refl
over-laid (d ∷ ds) [] r = refl
over-laid (d ∷ ds) (R ∷ Rs) r = over-laid ds Rs (d.over (items_of d.bounds R) r)
