-- What is written: a sheet whose drained rules an engine has answered about.
use mathlib.Core.List.{List}
use Prim.Native.Nat.{ℕ}
use Rattle.definition.specs.Rule.{Rule}
use Rattle.definition.specs.Sheet.{Form}
use Rattle.definition.specs.Stop.{drained}
use Rattle.fold_write.specs.declared.Left.{Left}
use Rattle.std.specs.Prelude.{Result}
use Rattle.answers.specs.declared.refusal.Refusal.{Refusal}
use Rattle.paved.specs.Paved.{Paves}
use Rattle.tables.specs.declared.lent.Cuts.{Cuts}
use Rattle.tables.specs.declared.lent.DrainedRules.{DrainedRules}
use Rattle.prepare.proofs.ToDraw.{boxes-few}
use Rattle.normalize.specs.Folds.{Foldable, ToWrite}

pub to_write : (form : Form) (sheet : List ℕ) (left : Left) (rules : DrainedRules) (cuts : Cuts) (lists pages : List ℕ) (paved : Result ℕ Refusal) (rs : List Rule)
    → Foldable form sheet left rules cuts rs → Paves rules.states.now rules.span_counts.now rules.spans.now lists pages (drained rs) paved
    → ToWrite form sheet left rules lists pages paved rs
to_write form sheet left rules cuts lists pages paved rs given answer = record {
  end = given.end;
  read = given.read;
  commented = given.commented;
  leaving = given.leaving;
  apart = given.to-draw.passed.apart;
  few-boxes = boxes-few _ _ _ _ _ _ _ _ _ (drained rs) given.to-draw;
  paves = answer;
}
