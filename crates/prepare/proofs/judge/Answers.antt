-- `prepare::judge` meets its contract: it refuses as the definition does, and else the rows hold the cuts.
use mathlib.Core.Path.{refl, sym, ◌∙◌}
use borrow.Author.Tests.{ltb-true, ltb-false}
use Rattle.prepare.specs.Prepared.{JudgesDays}
use Rattle.prepare.proofs.Judging.{twice-refused, boxes-refused, rules-passed}
use Rattle.prepare.proofs.judge.Goals as goal

pub first_overlap-twice-requires : goal.first_overlap-twice-requires
first_overlap-twice-requires c = c.requires.rule_days

pub returns-then-twice-drained : goal.returns-then-twice-drained
unfolding JudgesDays
returns-then-twice-drained c = λ ds days. twice-refused ds _ _ (c.first_overlap-twice.ensures ds days) c.if-twice-drained.true

pub cut_all-boxes-requires : goal.cut_all-boxes-requires
cut_all-boxes-requires c = record { rule_days = c.requires.rule_days; row_starts_len = c.requires.row_starts_len }

pub returns-then-boxes_over : goal.returns-then-boxes_over
unfolding JudgesDays
returns-then-boxes_over c =
    λ ds days.
    boxes-refused ds _ _ (c.first_overlap-twice.ensures ds days) c.if-twice-drained.false _ (c.cut_all-boxes.ensures ds days).0
    (ltb-true _ _ (sym c.boxes_over.ensures ∙ c.if-boxes_over.true))

pub returns : goal.returns
unfolding JudgesDays
returns c =
    λ ds days.
    let there = c.cut_all-boxes.ensures ds days in (
      refl,
      refl,
      there.1,
      rules-passed ds _ _ (c.first_overlap-twice.ensures ds days) c.if-twice-drained.false _ there.0 _ _ _ there.1
          (ltb-false _ _ (sym c.boxes_over.ensures ∙ c.if-boxes_over.false)),
    )
