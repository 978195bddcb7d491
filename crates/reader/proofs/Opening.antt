-- How a sheet opens: where its mark is refused, so is the opening; else the rule count behind the mark decides.
use mathlib.Core.Path.{◌≡◌, refl, sym, ap, ◌∙◌, subst}
use mathlib.Core.Logic.{inl, inr}
use mathlib.Core.List.{List}
use Prim.Native.Nat.{ℕ, ◌≤◌}
use native.Mathlib.Omega.{arith}
use lib.Dec.{eqb}
use borrow.Author.Tests.{eq-eqb, ne_eqb}
use Rattle.std.specs.Prelude.{Option, Some, None, Result, IsSome}
use Rattle.definition.specs.Field.{sheet_bits, Read, got, refused, and_then, unlawful, Layout, plain, lawful, counted, ◌then◌, via}
use Rattle.definition.specs.Sheet.{Form, sheet_limits, opening}
use Rattle.answers.specs.declared.refusal.Refusal.{Refusal}
use Rattle.field.specs.Answer.{as_read}
use Rattle.field.proofs.Taking.{test-passed, test-failed, tested-refused}
use Rattle.reader.specs.Says.{Says}

module _ (form : Form) (s : List ℕ) where
  abbrev mark_field : Layout ℕ
  mark_field = lawful form.mark_width (λ v. eqb v form.mark)

  pub opening-stops : (c p : ℕ) → mark_field.read s 0 ≡ refused c p → refused c p ≡ (opening form sheet_limits).read s 0
  unfolding opening via ◌then◌
  opening-stops c p e = rw e

  pub opening-goes : (v q : ℕ) → got v q ≡ mark_field.read s 0 → (counted form.rule_count sheet_limits.rules).read s q ≡ (opening form sheet_limits).read s 0
  unfolding opening via ◌then◌
  opening-goes v q e = rw (sym e) (go ((counted form.rule_count sheet_limits.rules).read s q))
    where
      go : (w : Read ℕ) → w ≡ and_then (λ (x : ℕ × ℕ) j. got x.1 j) (and_then (λ n j. got (v, n) j) w)
      go (got n j) = refl
      go (refused c p) = refl

-- ## By the field of any value that was read of the mark's width
module _ (form : Form) (s : List ℕ) (w : ℕ) (wide : w ≡ form.mark_width) where
  module _ {v q : ℕ} (e : got v q ≡ (plain w).read s 0) where
    taken : got v q ≡ (plain form.mark_width).read s 0
    taken = e ∙ ap (λ n. (plain n).read s 0) wide

    pub marked : (m : ℕ) → v ≡ m → m ≡ form.mark → (counted form.rule_count sheet_limits.rules).read s q ≡ (opening form sheet_limits).read s 0
    marked m i j = opening-goes form s v q (test-passed unlawful (λ u. eqb u form.mark) _ _ _ taken (eq-eqb v form.mark (i ∙ j)))

    pub unmarked : (m : ℕ) → (v ≡ m → ⊥) → m ≡ form.mark → refused unlawful 0 ≡ (opening form sheet_limits).read s 0
    unmarked m i j =
        opening-stops form s unlawful 0 (sym (test-failed unlawful (λ u. eqb u form.mark) _ _ _ taken (ne_eqb v form.mark (λ h. i (h ∙ sym j)))))

  pub stays-refused : {c q : ℕ} → refused c q ≡ (plain w).read s 0 → refused c q ≡ (opening form sheet_limits).read s 0
  stays-refused {c} {q} e =
      opening-stops form s c q
      (tested-refused unlawful (λ u. eqb u form.mark) _ _ _ _ _ (sym (e ∙ ap (λ n. (plain n).read s 0) wide)))

-- ## What is said of the first field, of w bits
module _ (s : List ℕ) (w : ℕ) where
  pub never_large : (r : Option (Result (ℕ × ℕ) Refusal)) → Says r s 0 w → w ≤ 4 → IsSome r
  never_large (Some x) e small = refl
  never_large None (inl l) small = absurd (omega arith)
  never_large None (inr l) small = absurd (omega arith)

  pub said : (r : Option (Result (ℕ × ℕ) Refusal)) (x y : Result (ℕ × ℕ) Refusal) → Says r s 0 w → r ≡ Some x → x ≡ y
      → as_read y ≡ (plain w).read (sheet_bits s) 0
  said r x y e k h = subst (λ u. Says u s 0 w) (k ∙ ap Some h) e
