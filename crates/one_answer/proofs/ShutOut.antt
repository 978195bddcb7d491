-- THE PROGRAMS THAT ARE SHUT OUT: none of them keeps the fold's promise, by P1 and P2 of the worked days.
use mathlib.Core.Path.{◌≡◌, sym, ap, ◌∙◌}
use mathlib.Core.List.{List}
use Prim.Native.Nat.{ℕ}
use native.Mathlib.Omega.{arith}
use lib.ListN.{length, get_or}
use Rattle.definition.specs.Field.{bits, number, bytes}
use Rattle.definition.specs.Sheet.{form1, sheet_limits}
use Rattle.definition.specs.Fold.{buffer, numbers, fold}
use Rattle.definition.specs.Forms.{fold_in}
use Rattle.definition.specs.Worked.{Case, Worked, room, p1, p2}
use Rattle.definition.proofs.Worked.{worked}
use Rattle.answers.specs.Numbers.{fold_numbers}
use Rattle.promises.proofs.CallersForm.{entries-by-number}
use Rattle.one_answer.specs.Promise.{FoldPromise}
use Rattle.one_answer.specs.ShutOut.{Program, KeepsPromise, RefusesAll, OneFixedAnswer, CopiesSheet, DrainsNothing, FirstRuleOnly}

module _ (program : Program) (out : List ℕ) (roomy : length out ≡ room) (kept : KeepsPromise program out) where
  fold-meant : (sheet : List ℕ) → fold_in sheet_limits 1 (length out) sheet ≡ fold form1 sheet_limits room sheet
  fold-meant sheet = ap (λ n. fold_in sheet_limits 1 n sheet) roomy ∙ ((entries-by-number sheet_limits sheet).folds room).one

  -- a program that keeps the promise answers and writes at a worked day what the table says
  table-answered : (c : Case) → Worked c → FoldPromise 1 c.sheet out (program c.sheet) → fold_numbers (program c.sheet).0 ≡ c.answer
  table-answered c w p = p.0 ∙ ap numbers (fold-meant c.sheet) ∙ w.0

  table-written : (c : Case) → Worked c → FoldPromise 1 c.sheet out (program c.sheet) → (program c.sheet).1 ≡ buffer c.written out
  table-written c w p = p.1 ∙ ap (λ f. buffer f.result out) (fold-meant c.sheet) ∙ ap (λ l. buffer l out) w.1

  pub p2-answered : fold_numbers (program p2.sheet).0 ≡ p2.answer
  p2-answered = table-answered p2 worked.1.0 kept.1.0

  p2-drained : (program p2.sheet).0.drained ≡ 2
  p2-drained = ap (λ l. get_or l 1 0) p2-answered

  -- P2 is accepted
  pub no-refusal-of-all : RefusesAll program → ⊥
  no-refusal-of-all h = h p2.sheet (ap (λ l. get_or l 0 0) p2-answered)

  -- P1 has no rules to drain, P2 has two
  pub no-fixed-answer : OneFixedAnswer program → ⊥
  no-fixed-answer h =
      let none : (program p1.sheet).0.drained ≡ 0 = ap (λ l. get_or l 1 0) (table-answered p1 worked.0 kept.0) in
      let same : ◌≡◌ {A = ℕ} 0 2 = sym none ∙ ap (λ r. r.drained) (h p1.sheet p2.sheet) ∙ p2-drained in
      absurd (omega arith)

  -- the byte at 9 is 16 in P2's sheet, and 32 in what it folds to
  pub no_copy : CopiesSheet program out → ⊥
  unfolding bits number bytes
  no_copy h =
      let same : ◌≡◌ {A = ℕ} 16 32 = ap (λ l. get_or l 9 0) (sym (h p2.sheet) ∙ table-written p2 worked.1.0 kept.1.0) in
      absurd (omega arith)

  pub no-draining-of-nothing : DrainsNothing program → ⊥
  no-draining-of-nothing h = let same : ◌≡◌ {A = ℕ} 0 2 = sym (h p2.sheet) ∙ p2-drained in absurd (omega arith)

  pub no-first-rule-only : FirstRuleOnly program → ⊥
  no-first-rule-only h = omega (arith, h p2.sheet, p2-drained)
