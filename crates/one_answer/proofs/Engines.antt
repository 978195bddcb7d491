-- BOTH ENGINES ANSWER ALIKE on every input: what a caller learns of either, of its answer and of the slices at its exit, is one equation with the
-- definition, and no second answer fits that.
use mathlib.Core.Path.{◌≡◌, sym, ap, ◌∙◌, subst}
use mathlib.Core.Bool.{Bool}
use mathlib.Core.List.{List}
use mathlib.Core.Option.{Option, none, some}
use Prim.Native.Nat.{ℕ}
use contract.Lifetimes.{Lfts}
use denote.Triple.Clauses.{AtExit}
use borrow.Fn.Kinds.{Dens, ended_of}
use Rattle.definition.specs.Rule.{Rule}
use Rattle.definition.specs.Sheet.{Form}
use Rattle.answers.specs.declared.Folded.{Folded}
use Rattle.tables.specs.Rules.{AllCommented}
use Rattle.std.specs.Prelude.{Result, Ok, Err}
use Rattle.answers.specs.declared.refusal.Refusal.{Refusal}
use Rattle.tables.specs.declared.lent.Cuts.{Cuts}
use Rattle.tables.specs.declared.lent.DrainedRules.{DrainedRules}
use Rattle.tables.specs.ToDraw.{Lent}
use Rattle.paved.specs.Paved.{Paves}
use Rattle.columns.proofs.pave.Kinds as columns-kinds
use Rattle.columns.proofs.pave.Reads as columns-contract
use Rattle.plain.proofs.pave.Kinds as plain-kinds
use Rattle.plain.proofs.pave.Reads as plain-contract
use Rattle.hours.proofs.fold.Kinds as fold-kinds
use Rattle.hours.proofs.fold.Reads as fold-contract
use Rattle.hours.proofs.fold_plain.Kinds as fold-plain-kinds
use Rattle.hours.proofs.fold_plain.Reads as fold-plain-contract
use Rattle.hours.proofs.export.hours_fold.Kinds as hours-fold-kinds
use Rattle.hours.proofs.export.hours_fold.Reads as hours-fold-contract
use Rattle.hours.proofs.export.hours_fold_plain.Kinds as hours-fold-plain-kinds
use Rattle.hours.proofs.export.hours_fold_plain.Reads as hours-fold-plain-contract
use Rattle.one_answer.specs.Promise.{FoldPromise, ExportedFoldPromise}
use Rattle.one_answer.specs.Engines.{Engine, PavePromise, Alike}
use Rattle.one_answer.proofs.OneAnswer.{one-fold, one-exported-fold}

-- ## Over tables
-- the code and the rule of a refusal, if there is one
abbrev Told : Type 0
Told = Option (ℕ × ℕ)

refused-once : {c d p q : ℕ} → ◌≡◌ {A = Told} (some (c, p)) (some (d, q)) → (c ≡ d) × (p ≡ q)
refused-once e = (ap code e, ap place e)
  where
    code : Told → ℕ
    code none = 0
    code (some m) = m.0

    place : Told → ℕ
    place none = 0
    place (some m) = m.1

never_both : {c p : ℕ} → ◌≡◌ {A = Told} (some (c, p)) none → ⊥
never_both e = subst told e tt
  where
    told : Told → Type 0
    told none = ⊥
    told (some m) = Unit {0}

module _ (rules : DrainedRules) (cuts : Cuts) where
  -- WHATEVER TWO ENGINES ANSWER about some rules in tables, with any number of intervals between the cuts
  pub paved-alike : (rs : List Rule) → Lent rules cuts rs → (form : Form) → AllCommented form rs → (x y : Engine) → PavePromise rules cuts x → PavePromise rules cuts y
      → Alike rules.states.now rules.span_counts.now rules.spans.now x y
  unfolding Paves
  paved-alike rs given form commented (Err r, l) (Err s, m) h k = refused-once (sym (h rs given) ∙ k rs given)
  paved-alike rs given form commented (Err r, l) (Ok m, k') h k = never_both (sym (h rs given) ∙ (k rs given).0)
  paved-alike rs given form commented (Ok n, l) (Err s, m) h k = never_both (sym (k rs given) ∙ (h rs given).0)
  paved-alike rs given form commented (Ok n, l) (Ok m, k') h k = ((h rs given).1 form commented).rules ∙ sym ((k rs given).1 form commented).rules

-- both are such engines
pub columns-promised : (κs : Lfts 6) (a : Dens κs columns-kinds.ps) (r : Result ℕ Refusal) (e : AtExit (ended_of 6 columns-kinds.ps columns-kinds.r) κs)
    → columns-contract.Learnt κs a r e → PavePromise a.0 a.1.0 (r, (e.1.1.1.0.now, e.1.1.1.1.1.0.now))
columns-promised κs a r e h = h

pub plain-promised : (κs : Lfts 5) (a : Dens κs plain-kinds.ps) (r : Result ℕ Refusal) (e : AtExit (ended_of 5 plain-kinds.ps plain-kinds.r) κs)
    → plain-contract.Learnt κs a r e → PavePromise a.0 a.1.0 (r, (e.1.1.0.now, e.1.1.1.1.0.now))
plain-promised κs a r e h = h

-- ## Over sheets
-- THE SAME FOLD: of one form's number, one sheet and one buffer, `hours::fold` and `hours::fold_plain` answer the same seven numbers and leave the same bytes
pub fold-alike : (κs κs' : Lfts 2) (a : Dens κs fold-kinds.ps) (a' : Dens κs' fold-plain-kinds.ps) (r r' : Folded)
    (e : AtExit (ended_of 2 fold-kinds.ps fold-kinds.r) κs) (e' : AtExit (ended_of 2 fold-plain-kinds.ps fold-plain-kinds.r) κs')
    → fold-contract.Learnt κs a r e → fold-plain-contract.Learnt κs' a' r' e'
    → a.0 ≡ a'.0 → a.1.0.now ≡ a'.1.0.now → a.1.1.0.now ≡ a'.1.1.0.now
    → ◌≡◌ {A = Folded × List ℕ} (r, e.1.1.0.now) (r', e'.1.1.0.now)
fold-alike κs κs' a a' r r' e e' h h' form sheet out =
    one-fold a.0 a.1.0.now a.1.1.0.now (r, e.1.1.0.now) (r', e'.1.1.0.now) h (fold-of form sheet out h')
  where
    fold-of : {m n : ℕ} {s t o p : List ℕ} {x : Folded × List ℕ} → m ≡ n → s ≡ t → o ≡ p → FoldPromise n t p x → FoldPromise m s o x
    fold-of f g k q = rw (f, g, k) q

-- the exports: the same told, the same numbers and the same bytes
pub exported-alike : (κs κs' : Lfts 3) (a : Dens κs hours-fold-kinds.ps) (a' : Dens κs' hours-fold-plain-kinds.ps) (r r' : Bool)
    (e : AtExit (ended_of 3 hours-fold-kinds.ps hours-fold-kinds.r) κs) (e' : AtExit (ended_of 3 hours-fold-plain-kinds.ps hours-fold-plain-kinds.r) κs')
    → hours-fold-contract.Learnt κs a r e → hours-fold-plain-contract.Learnt κs' a' r' e'
    → a.0 ≡ a'.0 → a.1.0.now ≡ a'.1.0.now → a.1.1.0.now ≡ a'.1.1.0.now → a.1.1.1.0.now ≡ a'.1.1.1.0.now
    → ◌≡◌ {A = Bool × (List ℕ × List ℕ)} (r, (e.1.1.1.0.now, e.1.1.0.now)) (r', (e'.1.1.1.0.now, e'.1.1.0.now))
exported-alike κs κs' a a' r r' e e' h h' form sheet out lent =
    one-exported-fold a.0 a.1.0.now a.1.1.0.now a.1.1.1.0.now (r, (e.1.1.1.0.now, e.1.1.0.now)) (r', (e'.1.1.1.0.now, e'.1.1.0.now)) h
    (export-of form sheet out lent h')
  where
    export-of : {m n : ℕ} {s t o p l k : List ℕ} {x : Bool × (List ℕ × List ℕ)} → m ≡ n → s ≡ t → o ≡ p → l ≡ k → ExportedFoldPromise n t p k x → ExportedFoldPromise m s o l x
    export-of f g i j q = rw (f, g, i, j) q
