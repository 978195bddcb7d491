-- How a rule's four rows of days are loaded into the table of ranges, one behind the other, up to the first item that stops the rule.
use Rattle.std.specs.Prelude.{List, ℕ, zero, suc, ◌+◌, ◌*◌, length, set, Some, None}
use Rattle.std.specs.Prelude as std
use Rattle.std.proofs.Math.Option.{Option, none, some}
use Rattle.std.proofs.lemmas.List.Edits.{sets}
use Rattle.definition.specs.Field.{Read, got, refused, counted}
use Rattle.definition.specs.Sheet.{Form, sheet_limits, title_width, head_width}
use Rattle.canonical_date.specs.declared.days.Spans.{Spans}
use Rattle.canonical_date.specs.Row.{flat, items_end, row_ranges}

-- the table, how many ranges each dimension has; and how many spans the rule has and where they begin, unless an item stops
pub record Loaded : Type 0 where
  pub ranges : List ℕ
  pub counts : List ℕ
  pub spans : Option (ℕ × ℕ)

abbrev pub loaded : List ℕ → List ℕ → Option (ℕ × ℕ) → Loaded
loaded ranges counts spans = record { ranges = ranges; counts = counts; spans = spans }

abbrev pub days_of : std.Option Spans → Option (ℕ × ℕ)
days_of (Some spans) = some (spans.count, spans.at)
days_of None = none

module _ (form : Form) where
  -- how many items of a sort: the count at h; fifth are the spans
  abbrev pub count_at : List ℕ → ℕ → Read ℕ
  count_at s h = (counted form.item_count sheet_limits.items).read s h

  -- k rows from a sort on; the counts stand at h, the items at p
  unfoldable pub load_rows : ℕ → List ℕ → ℕ → ℕ → ℕ → List ℕ → List ℕ → Loaded
  load_rows zero s h sort p ranges counts = elim (count_at s h) [ got n q ↦ loaded ranges counts (some (n, p)) | refused c q ↦ loaded ranges counts none ]
  load_rows (suc k) s h sort p ranges counts = elim (count_at s h) [
    | got n q ↦ elim (items_end sort n s p) [
      | some e ↦ load_rows k s q (sort + 1) e (sets ranges (sort * 64) (flat (row_ranges sort n s p))) (set counts sort (length (row_ranges sort n s p)))
      | none ↦ loaded (sets ranges (sort * 64) (flat (row_ranges sort n s p))) counts none
    ]
    | refused c q ↦ loaded ranges counts none
  ]

  -- the days of the rule at p: behind its title the counts, then the items
  abbrev pub days_loaded : List ℕ → ℕ → List ℕ → List ℕ → Loaded
  days_loaded s p ranges counts = load_rows 4 s (p + title_width form) 0 (p + head_width form) ranges counts
