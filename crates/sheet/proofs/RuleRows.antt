-- Rules one behind the other: how far one goes, where each is noted to begin, and where the last one ends.
use mathlib.Core.Path.{◌≡◌, refl, ap, ◌∙◌}
use mathlib.Core.List.{List}
use Prim.Native.Nat.{ℕ, zero, suc, ◌+◌, ◌*◌, ◌≤◌, ◌<◌}
use native.Mathlib.Omega.{arith}
use lib.ListN.{length, set}
use Rattle.definition.specs.Field.{got, refused}
use Rattle.definition.specs.Sheet.{Form, sheet_limits, rule}
use Rattle.definition.proofs.Bits.{Bits}
use Rattle.definition.proofs.Faithful.{read-within}
use Rattle.definition.proofs.SheetRead.{rule-faithful}
use Rattle.definition.proofs.Lengths.{rule-short}
use Rattle.forms.specs.Form.{Narrow}
use Rattle.sheet.specs.End.{skip_all}
use Rattle.sheet.proofs.Ends.{ends-got, skip-keeps, skip-short}
use Rattle.sheet.proofs.RuleBits.{rule-length}
use Rattle.sheet.specs.Rules.{rule_ends, noted}

module _ (form : Form) where
  -- ## How far a rule goes
  pub rule-end-short : Narrow form → (s : List ℕ) (p q : ℕ) → rule_ends form s p ≡ got tt q → q ≤ p + 3016
  rule-end-short narrow s p q e = let w = ends-got ((rule form sheet_limits).read s p) q e in omega (arith, narrow.head-narrow, rule-short form s p w.0 q w.1)

  pub rules-short : Narrow form → (s : List ℕ) (n p q : ℕ) → skip_all (rule_ends form) n s p ≡ got tt q → q ≤ p + n * 3016
  rules-short narrow s n p q e = skip-short (rule_ends form) 3016 s (rule-end-short narrow s) n p q e

  pub rule-end-long : Narrow form → (s : List ℕ) → Bits s → (p q : ℕ) → p ≤ length s → rule_ends form s p ≡ got tt q → (p + 70 ≤ q) × (q ≤ length s)
  rule-end-long narrow s h p q l e =
      let w = ends-got ((rule form sheet_limits).read s p) q e in
      let stand = ((rule-faithful form sheet_limits).written s h p w.0 q w.1).2 in
      (omega (arith, stand.ends, rule-length form w.0, narrow.head-wide), read-within (rule-faithful form sheet_limits) s h p w.0 q l w.1)

  -- rules that begin within the bits end within them
  pub rules-within : (s : List ℕ) → Bits s → (n p q : ℕ) → p ≤ length s → skip_all (rule_ends form) n s p ≡ got tt q → q ≤ length s
  rules-within s h n p q l e =
      skip-keeps (rule_ends form) s (λ k j. j ≤ length s)
      (λ k j i m g. let w = ends-got ((rule form sheet_limits).read s j) i g in read-within (rule-faithful form sheet_limits) s h j w.0 i m w.1) n p q l e

  -- ## Where rules are noted to begin
  module _ (s : List ℕ) (p i : ℕ) (begins : List ℕ) where
    pub noted-goes : (n m q : ℕ) → n ≡ suc m → rule_ends form s p ≡ got tt q → noted form s n i p begins ≡ noted form s m (i + 1) q (set begins i p)
    unfolding noted
    noted-goes n m q e h = ap (λ k. noted form s k i p begins) e ∙ rw (h, noted) refl

    pub noted-stops : (n c q : ℕ) → 0 < n → rule_ends form s p ≡ refused c q → noted form s n i p begins ≡ set begins i p
    unfolding noted
    noted-stops zero c q l h = absurd (omega arith)
    noted-stops (suc n) c q l h = rw (h, noted)

    pub noted-ends : (n : ℕ) → n ≡ 0 → noted form s n i p begins ≡ begins
    unfolding noted
    noted-ends n e = ap (λ m. noted form s m i p begins) e
