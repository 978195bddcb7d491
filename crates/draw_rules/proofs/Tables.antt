-- THE RULES IN THE TABLES: what drawing one of them requires, and its rows as they are lent. Rests on the laws of tables.
use mathlib.Core.Bool.{Bool}
use mathlib.Core.List.{List}
use Prim.Native.Nat.{ℕ, ◌+◌, ◌-◌, ◌*◌, ◌<◌}
use native.Mathlib.Omega.{arith}
use lib.ListN.{take, drop}
use Rattle.definition.specs.Rule.{Rule}
use Rattle.definition.specs.Point.{dimensions}
use Rattle.list_store.specs.Draw.{Drew}
use Rattle.draw_rule.specs.Update.{Lawful, covered_box}
use Rattle.paving_points.proofs.Boxes.{lawful-bounded, cuts-rise}
use Rattle.paving_points.proofs.Stepping.{lawful, rule-there}
use Rattle.tables.specs.Ranges.{table_row}
use Rattle.tables.specs.Cuts.{Cut, ToList}
use Rattle.tables.proofs.Ranges.{row-lent, row-long}

-- a rule's rows as they are lent
module _ (sizes counts rows table ranges : List ℕ) (k : ℕ) where
  abbrev lent-counts : List ℕ
  lent-counts = take (k * 4 + 4 - k * 4) (drop (k * 4) counts)

  abbrev lent-ranges : List ℕ
  lent-ranges = take (k * 256 + 256 - k * 256) (drop (k * 256) ranges)

  pub lent-lawful : Lawful sizes (table_row counts k 4) rows table (table_row ranges k 256) → Lawful sizes lent-counts rows table lent-ranges
  lent-lawful h = rw (row-lent counts k 4, row-lent ranges k 256) h

  pub lent-drew : (cells lists cells' lists' memo' : List ℕ) (replacing : Bool) (used used' : ℕ) (over : Bool)
      → Drew cells lists cells' lists' memo' (covered_box sizes lent-counts rows table lent-ranges) k replacing used used' over
      → Drew cells lists cells' lists' memo' (covered_box sizes (table_row counts k 4) rows table (table_row ranges k 256)) k replacing used used' over
  lent-drew cells lists cells' lists' memo' replacing used used' over h = rw (row-lent counts k 4, row-lent ranges k 256) at h

module _ (replacing counts ranges rows sizes table : List ℕ) (n : ℕ) (rs : List Rule) (to-list : ToList replacing counts ranges rows sizes table n rs) where
  abbrev cut : Cut rows sizes table rs
  cut = to-list.0.2

  pub tables-lawful : (k : ℕ) → k < n → Lawful sizes (table_row counts k 4) rows table (table_row ranges k 256)
  tables-lawful k h =
      let there = rule-there replacing counts ranges rows sizes table n rs to-list k h in
      let days = to-list.0.0.each k h in
      let long-counts = row-long counts k 4 there.1 in
      let long-ranges = row-long ranges k 256 there.2 in
      let bounded = lawful-bounded rs (lawful replacing counts ranges rows sizes table n rs to-list) in
      record {
        all-counts = omega (arith, cut.four, long-counts);
        all-rows = omega (arith, cut.four, cut.all-rows);
        all-ranges = omega (arith, cut.four, long-ranges);
        row = λ i l. cut.inside i (omega (arith, cut.four));
        count = λ i l. days.few i (omega (arith, cut.four));
        rising = λ i l. cuts-rise rows sizes table rs dimensions cut.cut_by bounded i (omega (arith, cut.four));
      }
