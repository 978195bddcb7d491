-- What the fold writes: a sheet of the rules of pages, then the rules left as their bits stand in the sheet that was read.
use Rattle.std.specs.Prelude.{List, ◌++◌, ℕ}
use Rattle.definition.specs.Rule.{Rule}
use Rattle.definition.specs.Sheet.{Form, sheet_limits, opening}
use Rattle.definition.specs.Stop.{drained}
use Rattle.definition.specs.Group.{folded}
use Rattle.definition.specs.Fold as fold
use Rattle.definition.specs.Fold.{carried}
use Rattle.day_writer.specs.Rules.{rules_bits}

module _ (form : Form) where
  -- "Rule count 16 bits, the rules": how many behind the form's mark, some rules, and the bits of others
  unfoldable pub result_bits : ℕ → List Rule → List ℕ → List ℕ
  result_bits count rs others = (opening form sheet_limits).write count ++ (rules_bits form rs ++ others)

  -- the answer of the definition's fold to rules, the drained ones folded, and a buffer of so many bytes
  abbrev pub emission : ℕ → List Rule → fold.Folded
  emission room rs = carried form sheet_limits room rs (folded (drained rs))
