-- What the readers of a rule's head say.
use Rattle.std.specs.Prelude.{ℕ, ◌≤◌}
use Rattle.definition.specs.Rule.{operator_of, kind_of}
use Rattle.definition.specs.Sheet.{Title, Counts}
use Rattle.sheet.specs.declared.rule.Title as title
use Rattle.sheet.specs.declared.rule.Counts as counts

abbrev pub as_title : title.Title → Title
as_title t = (operator_of t.operator, (kind_of t.kind, t.comment))

abbrev pub as_counts : counts.Counts → Counts
as_counts n = (n.years, (n.monthdays, (n.weeks, (n.weekdays, n.spans))))

-- no sort has more items than that
abbrev pub AllAtMost : ℕ → counts.Counts → Type 0
AllAtMost limit n = (n.years ≤ limit) × (n.monthdays ≤ limit) × (n.weeks ≤ limit) × (n.weekdays ≤ limit) × (n.spans ≤ limit)
