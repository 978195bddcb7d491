-- 02, M-100: "They need a writer from an accepted sheet to text". "Refusals: 10, exactly when the sheet holds a dated month range, a monthday reference, a holiday, a
-- weekday offset or unset nth bit, a variable time, repeats, a rule with 0 spans, or a first rule that isn't Normal; place is the first such rule's index; after 3,
-- before 7."
use Rattle.std.specs.Prelude.{List, Bool, true, false, ◌||◌, not, ℕ}
use Rattle.std.proofs.Math.Option.{Option, none, some}
use Rattle.laws.specs.Lists.{any_of, first_index}
use Rattle.definition.specs.Field.{got, refused, no_words}
use Rattle.definition.specs.Rule.{Rule}
use Rattle.definition.specs.Sheet.{Form, Limits, decode}
use Rattle.definition.specs.Stop.{monthday_stops, weekday_stops}
use Rattle.definition.specs.Fold.{Written, unwritten, written_into}
use Rattle.definition.specs.Text.{is_none}
use Rattle.definition.specs.Line.{is_plain, first_normal, line}

-- a dated month range or a monthday reference; a holiday, a weekday offset or an unset nth bit; a variable time or repeats; 0 spans
unfoldable pub wordless : Rule → Bool
wordless r = any_of monthday_stops r.monthdays || (any_of weekday_stops r.weekdays || (any_of (λ s. not (is_plain s)) r.spans || is_none r.spans))

unfoldable pub first_wordless : List Rule → Option ℕ
first_wordless rs = elim (first_normal rs) [ false ↦ some 0 | true ↦ first_index wordless rs ]

-- the line of rules, into a buffer of `room` bytes
unfoldable pub show_rules : ℕ → List Rule → Written
show_rules room rs = elim (first_wordless rs) [ some k ↦ unwritten no_words k | none ↦ written_into room (line.write rs) ]

-- THE LINE OF A SHEET
unfoldable pub show_line : Form → Limits → ℕ → List ℕ → Written
show_line form limits room sheet = elim (decode form limits sheet) [ refused c p ↦ unwritten c p | got rs q ↦ show_rules room rs ]
