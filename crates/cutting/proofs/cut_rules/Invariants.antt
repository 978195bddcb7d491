-- `cutting::cut_rules`: whatever rules the tables hold, the rows hold the cuts of the rules passed.
use Rattle.std.proofs.Common.{List, take}
use Rattle.definition.specs.Rule.{Rule}
use Rattle.definition.specs.Point.{dimensions}
use Rattle.tables.specs.Rules.{RuleDays}
use Rattle.tables.specs.Cuts.{CutBy}
use Rattle.cutting.proofs.cut_rules.Given as goal

abbrev pub invariant-loop-rule : goal.invariant-loop-rule
invariant-loop-rule l = (rs : List Rule) → RuleDays l.range_counts l.ranges l.rules rs → CutBy l.row_starts l.sizes l.cuts (take l.rule rs) dimensions
