-- What is prepared can be drawn: there are no more drained rules than were read, and the tables, lent up to the drained rules, hold these alone. And
-- what the answer of `prepare` says.
use mathlib.Core.Path.{◌≡◌, sym, subst}
use mathlib.Core.List.{List}
use Prim.Native.Nat.{ℕ, ◌*◌, ◌≤◌}
use native.Mathlib.Omega.{arith}
use lib.ListN.{length, take}
use lib.Seq.{length-take-le}
use Rattle.definition.specs.Rule.{Rule}
use Rattle.definition.specs.Sheet.{sheet_limits}
use Rattle.definition.specs.Stop.{drained, why}
use Rattle.definition.specs.Point.{dimensions}
use Rattle.definition.specs.Box.{box_count}
use Rattle.definition.specs.Fold.{over, drain}
use Rattle.definition.proofs.Drained.{drained-fewer}
use Rattle.paving_cuts.proofs.ByRules.{boxes-counted}
use Rattle.tables.specs.Cuts.{Drawable}
use Rattle.tables.specs.ToDraw.{ToDraw}
use Rattle.prepare.specs.Prepared.{Prepared, Judges}
use Rattle.std.specs.Prelude.{Result, Ok, Err}
use Rattle.answers.specs.Refusal.{code_of}
use Rattle.answers.specs.declared.refusal.Refusal.{Refusal}
use Rattle.draining.specs.declared.Drained.{Drained}

pub boxes-few : (states counts spans replacing range_counts ranges rows sizes cuts : List ℕ) (rs : List Rule)
    → ToDraw states counts spans replacing range_counts ranges rows sizes cuts rs → box_count dimensions rs ≤ sheet_limits.boxes
boxes-few states counts spans replacing range_counts ranges rows sizes cuts rs given =
    omega (arith, boxes-counted rows sizes cuts rs dimensions given.drawable.2.cut_by, given.passed.few-boxes)

module _ (states counts spans replacing range_counts ranges rows sizes cuts : List ℕ) (rs : List Rule) (n : ℕ)
    (given : Prepared states counts spans replacing range_counts ranges rows sizes cuts (drained rs) n) where
  pub drained-within : (count : ℕ) → count ≡ length rs → n ≤ count
  drained-within count many = omega (arith, given.rules-many, drained-fewer rs, many)

  pub prepared-to-draw : n ≤ length states
      → ToDraw (take n states) (take n counts) (take (n * 16) spans) replacing range_counts ranges rows sizes cuts (drained rs)
  prepared-to-draw inside = record {
    times = given.times;
    drawable = subst (λ k. Drawable replacing range_counts ranges rows sizes cuts k (drained rs)) (sym (length-take-le n states inside)) given.drawable;
    passed = given.passed;
  }

-- ## What the answer says
module _ (states counts spans replacing range_counts ranges rows sizes cuts : List ℕ) (rs : List Rule) (r : Result Drained Refusal)
    (answer : Judges states counts spans replacing range_counts ranges rows sizes cuts rs r) where
  pub judged-fine : (d : Drained) → r ≡ Ok d
      → Prepared states counts spans replacing range_counts ranges rows sizes cuts (drained rs) d.rules × (d.why ≡ why rs)
  unfolding Judges
  judged-fine d e = subst (Judges states counts spans replacing range_counts ranges rows sizes cuts rs) e answer

  pub judged-refused : (f : Refusal) → r ≡ Err f → drain sheet_limits (drained rs) ≡ over (code_of f.reason) f.place
  unfolding Judges
  judged-refused f e = subst (Judges states counts spans replacing range_counts ranges rows sizes cuts rs) e answer
