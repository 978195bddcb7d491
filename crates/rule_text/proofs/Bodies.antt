-- The days and spans of a rule, by the counts that were read: their tales are those of the rule's own items.
use mathlib.Core.Path.{◌≡◌, ap₂, ◌∙◌}
use mathlib.Core.List.{List}
use mathlib.Core.Bool.{◌||◌, not}
use Prim.Native.Nat.{ℕ, ◌+◌, ◌*◌, ◌≤◌}
use Rattle.laws.specs.Lists.{any_of}
use Rattle.definition.specs.Field.{got}
use Rattle.definition.specs.Sheet.{Form, sheet_limits, title_width, Counts, counts}
use Rattle.definition.specs.Stop.{monthday_stops, weekday_stops}
use Rattle.definition.specs.Text.{several}
use Rattle.definition.specs.Line.{is_plain, span_text}
use Rattle.definition.proofs.Lengths.{counts-low}
use Rattle.sheet.specs.Begin.{rule_read_at, Readable}
use Rattle.sheet.proofs.Titles.{parts, counts_same}
use Rattle.rule_text.specs.Tale.{tale}
use Rattle.rule_text.specs.Row.{items_told}
use Rattle.rule_text.specs.Rule.{days_told, days_text}
use Rattle.rule_text.proofs.Meaning.{days-read, spans-read}

module _ (form : Form) (s : List ℕ) (p : ℕ) (readable : Readable form s p) (n : Counts) (i q : ℕ) (z : i ≡ p + title_width form)
    (e : (counts form sheet_limits).read s i ≡ got n q) where
  pub counts-few : (n.0 ≤ 16) × (n.1.0 ≤ 16) × (n.1.1.0 ≤ 16) × (n.1.1.1.0 ≤ 16) × (n.1.1.1.1 ≤ 16) × (q ≡ i + 5 * form.item_count)
  counts-few = counts-low form s i n q e

  pub days-told : days_told n.0 n.1.0 n.1.1.0 n.1.1.1.0 s q
      ≡ tale (days_text (rule_read_at form s p)) (any_of monthday_stops (rule_read_at form s p).monthdays || any_of weekday_stops (rule_read_at form s p).weekdays)
      (parts form s p readable).spans-at
  days-told =
      let same = counts_same form s p readable n i q z e in
      ap₂ (λ m j. days_told m.0 m.1.0 m.1.1.0 m.1.1.1.0 s j) same.0 same.1
      ∙ days-read form s p (rule_read_at form s p) readable.end (parts form s p readable)

  pub spans-told : (j : ℕ) → j ≡ (parts form s p readable).spans-at
      → items_told 4 n.1.1.1.1 s j
      ≡ tale ((several "," span_text).write (rule_read_at form s p).spans) (any_of (λ x. not (is_plain x)) (rule_read_at form s p).spans) readable.end
  spans-told j f = ap₂ (λ m i. items_told 4 m s i) (counts_same form s p readable n i q z e).2 f
      ∙ spans-read form s p (rule_read_at form s p) readable.end (parts form s p readable)
