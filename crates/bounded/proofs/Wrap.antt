-- Splitting keeps an item's meaning, for any bounds: a value that the item has lies in exactly one of its ranges, any other value in none.
use mathlib.Core.Path.{◌≡◌, refl, sym, ap, ◌∙◌}
use mathlib.Core.List.{List, [], ◌∷◌}
use mathlib.Core.Bool.{Bool, true, false, ◌&&◌, ◌||◌, cond}
use Prim.Native.Nat.{ℕ, ◌+◌}
use native.Mathlib.Nat.{zero-add}
use native.Mathlib.Omega.{arith}
use lib.Dec.{leb, ltb, leb-suc-suc}
use borrow.Author.Tests.{leb-true, leb-false, lt-ltb}
use Rattle.laws.specs.Lists.{any_of, count}
use Rattle.laws.proofs.Flags.{split-and}
use Rattle.grid.specs.Cut.{Range, holds}
use Rattle.definition.specs.Range.{Ends, split}
use Rattle.bounded.specs.Strict.{strict}
use Rattle.bounded.specs.Wrap.{lies}
use Rattle.bounded.proofs.Strict.{split_one, split-two}

-- some element passes where one or more do
any-count : {A : Type 0} (t : A → Bool) (D : List A) → any_of t D ≡ ltb 0 (count t D)
unfolding any_of count
any-count t [] = refl
any-count t (x ∷ D) = go (t x) (any-count t D)
  where
    go : (f : Bool) → any_of t D ≡ ltb 0 (count t D) → f || any_of t D ≡ ltb 0 (cond f 1 0 + count t D)
    go true ih = sym (lt-ltb 0 (1 + count t D) (omega arith))
    go false ih = ih ∙ ap (ltb 0) (sym (zero-add (count t D)))

module _ (b : Range) (e : Ends) (x : ℕ) (h : holds x b ≡ true) where
  low : leb b.0 x ≡ true
  low = (split-and (leb b.0 x) (ltb x b.1) h).0

  high : ltb x b.1 ≡ true
  high = (split-and (leb b.0 x) (ltb x b.1) h).1

  -- the ranges that have a value: one where the item has it, none elsewhere
  pub split-count : count (holds x) (split b e) ≡ cond (lies e x) 1 0
  unfolding lies count
  split-count = go (leb e.0 e.1) refl
    where
      one : (f : Bool) → cond f 1 0 + 0 ≡ cond f 1 0
      one true = refl
      one false = refl

      two : (f g : Bool) → (f ≡ true → g ≡ true → ⊥) → cond f 1 0 + (cond (g && true) 1 0 + 0) ≡ cond (f || g) 1 0
      two true true apart = absurd (apart refl refl)
      two true false apart = refl
      two false true apart = refl
      two false false apart = refl

      go : (t : Bool) → leb e.0 e.1 ≡ t → count (holds x) (split b e) ≡ cond (lies e x) 1 0
      go true k =
          let s = split_one b e (strict e) refl (omega (arith, leb-true e.0 e.1 k)) in
          rw (← s, k, lies, leb-suc-suc x e.1) (one (leb e.0 x && leb x e.1))
      go false k =
          let s = split-two b e (strict e) refl (omega (arith, leb-false e.0 e.1 k)) in
          rw (← s, k, lies, leb-suc-suc x e.1, low, high)
          (two (leb x e.1) (leb e.0 x) (λ l m. omega (arith, leb-false e.0 e.1 k, leb-true x e.1 l, leb-true e.0 x m)))

  -- a value lies in a range just where the item has it
  pub split-lies : any_of (holds x) (split b e) ≡ lies e x
  split-lies = any-count (holds x) (split b e) ∙ ap (ltb 0) split-count ∙ same (lies e x)
    where
      same : (f : Bool) → ltb 0 (cond f 1 0) ≡ f
      same true = refl
      same false = refl
