-- The rule that is written: an entry's rule laid over rows of items, dimension by dimension, in the definition's words.
use Rattle.std.specs.Prelude.{List, [], ◌∷◌, ℕ}
use Rattle.grid.specs.Cut.{Range}
use Rattle.definition.specs.Rule.{operator_of, Rule, Span}
use Rattle.definition.specs.Range.{Ends}
use Rattle.definition.specs.Sheet.{Form, sheet_limits, rule}
use Rattle.definition.specs.Point.{Dimension, dimensions}
use Rattle.definition.specs.Group.{items_of, as_rule}
use Rattle.codes.specs.Number.{state_coded}
use Rattle.tables.specs.Items.{over_items, rows_below}

-- the items of runs, dimension by dimension
unfoldable pub items_in : List Dimension → List (List Range) → List (List Ends)
items_in [] Rs = []
items_in (d ∷ ds) [] = []
items_in (d ∷ ds) (R ∷ Rs) = items_of d.bounds R ∷ items_in ds Rs

-- the rule, and its bits in a form
abbrev pub rule_of : ℕ → ℕ → List ℕ → List ℕ → List Span → Rule
rule_of operator state ends counts spans = over_items dimensions (rows_below ends counts 4) (as_rule (operator_of operator) (state_coded state, spans))

abbrev pub rule_bits : Form → ℕ → ℕ → List ℕ → List ℕ → List Span → List ℕ
rule_bits form operator state ends counts spans = (rule form sheet_limits).write (rule_of operator state ends counts spans)
