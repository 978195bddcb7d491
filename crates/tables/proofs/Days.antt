-- A RULE'S DAYS AS THEY ARE LENT: its row of counts and its row of ranges, out of the tables of all rules. Rests on the laws of rows.
use mathlib.Core.Path.{sym, subst}
use mathlib.Core.List.{List}
use Prim.Native.Nat.{ℕ, ◌+◌, ◌-◌, ◌*◌, ◌≤◌, ◌<◌}
use native.Mathlib.Omega.{arith}
use lib.ListN.{length, take, drop}
use Rattle.laws.specs.Lists.{All}
use Rattle.laws.proofs.Lists.{All-map}
use Rattle.definition.specs.Rule.{Rule}
use Rattle.definition.specs.Sheet.{form2, sheet_limits}
use Rattle.definition.proofs.Lawful.{Lawful, rule-lawful}
use Rattle.tables.specs.Ranges.{table_row}
use Rattle.tables.specs.Rules.{rule_at, AllFit, DaysHeld, RuleDays}
use Rattle.tables.proofs.Ranges.{part_length, row-lent}

-- rules that a sheet can carry are lawful
pub fits-lawful : (rs : List Rule) → AllFit rs → All Lawful rs
fits-lawful rs h = All-map (λ r f. rule-lawful form2 sheet_limits r f) rs h

module _ (counts ranges : List ℕ) (n : ℕ) (rs : List Rule) (days : RuleDays counts ranges n rs) where
  module _ (k : ℕ) (here : k < n) where
    abbrev pub lent-counts : List ℕ
    lent-counts = take (k * 4 + 4 - k * 4) (drop (k * 4) counts)

    abbrev pub lent-ranges : List ℕ
    lent-ranges = take (k * 256 + 256 - k * 256) (drop (k * 256) ranges)

    pub days-lent : DaysHeld lent-counts lent-ranges (rule_at rs k)
    days-lent =
        subst (λ c. DaysHeld c lent-ranges (rule_at rs k)) (sym (row-lent counts k 4))
        (subst (λ r. DaysHeld (table_row counts k 4) r (rule_at rs k)) (sym (row-lent ranges k 256)) (days.each k here))

    pub four-lent : 4 ≤ length lent-counts
    four-lent = omega (arith, part_length counts (k * 4) (k * 4 + 4) (omega arith) (omega (arith, days.all-counts)))

    pub ranges-lent : 256 ≤ length lent-ranges
    ranges-lent = omega (arith, part_length ranges (k * 256) (k * 256 + 256) (omega arith) (omega (arith, days.all-ranges)))
