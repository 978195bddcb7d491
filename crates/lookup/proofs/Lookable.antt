-- What is read of a sheet keeps the limit of rules; and what is prepared of it can be looked up, where the tables are lent up to the drained rules.
use mathlib.Core.Path.{◌≡◌, ap}
use mathlib.Core.List.{List}
use Prim.Native.Nat.{ℕ, ◌*◌, ◌-◌, ◌≤◌, ◌<◌}
use native.Mathlib.Omega.{arith}
use lib.ListN.{length, take, get_or}
use lib.Seq.{length-take-le}
use Rattle.definition.specs.Rule.{Rule}
use Rattle.definition.specs.Sheet.{Form, sheet_limits}
use Rattle.definition.specs.Stop.{drained}
use Rattle.tables.specs.declared.lent.Cuts.{Cuts}
use Rattle.tables.specs.declared.lent.DrainedRules.{DrainedRules}
use Rattle.field.proofs.Bytes.{known_bytes}
use Rattle.sheet.proofs.Begins.{rules-few}
use Rattle.prepare.specs.Prepared.{RulesRead, Prepared}
use Rattle.prepare.proofs.ToDraw.{drained-within, prepared-to-draw}
use Rattle.point_state.specs.Few.{DaysCut}
use Rattle.point_state.specs.Point.{PointRules}
use Rattle.lookup.specs.Looks.{Lookable}

pub read-few : (form : Form) (sheet begins : List ℕ) (count : ℕ) → ((j : ℕ) → get_or sheet j 0 < 256)
    → RulesRead form sheet begins count → count ≤ sheet_limits.rules
read-few form sheet begins count known read = omega (arith, rules-few form sheet _ _ (known_bytes sheet known) read.1.1.0.read, read.1.1.1)

pub prepared-lookable : (rules : DrainedRules) (cuts : Cuts) (states counts spans : List ℕ) (rs : List Rule) (n : ℕ)
    → Prepared states counts spans rules.replacing.now rules.range_counts.now rules.ranges.now cuts.row_starts.now cuts.sizes.now cuts.cuts.now (drained rs) n
    → rules.states.now ≡ take n states → rules.span_counts.now ≡ take n counts → rules.spans.now ≡ take (n * 16) spans → (count : ℕ) → count ≡ length rs → n ≤ length states
    → Lookable rules cuts (count - n) rs
prepared-lookable rules cuts states counts spans rs n given es ec ep count many inside = record {
  to-draw = rw (es, ec, ep) (prepared-to-draw _ _ _ _ _ _ _ _ _ _ _ given inside);
  counted = omega (arith, ap length es, length-take-le n states inside, drained-within _ _ _ _ _ _ _ _ _ _ _ given count many, many);
}

-- ## By the point alone
module _ (rules : DrainedRules) (cuts : Cuts) (left : ℕ) (rs : List Rule) (given : Lookable rules cuts left rs) where
  pub lookable-days : DaysCut rules.range_counts.now rules.ranges.now cuts.row_starts.now cuts.sizes.now cuts.cuts.now (length rules.states.now) (drained rs)
  lookable-days =
      let drawable = given.to-draw.drawable in
      let passed = given.to-draw.passed in
      record { days = drawable.0; cut = drawable.2; apart = passed.apart; few-boxes = passed.few-boxes }

  pub lookable-rules :
      PointRules rules.states.now rules.span_counts.now rules.spans.now rules.replacing.now rules.range_counts.now rules.ranges.now (drained rs)
  lookable-rules =
      let drawable = given.to-draw.drawable in
      record { times = given.to-draw.times; days = drawable.0; noted = drawable.1; apart = given.to-draw.passed.apart }
