-- A sweep ends: as many steps as there are matching points are enough, and more change nothing. So a sweep is its first group, followed by the
-- sweep of what is left. Rests on the popped groups' laws.
use mathlib.Core.Path.{◌≡◌, refl, ap}
use mathlib.Core.List.{List, [], ◌∷◌}
use mathlib.Core.Option.{Option, none, some}
use mathlib.Core.Bool.{Bool, true, false}
use Prim.Native.Nat.{ℕ, zero, suc, ◌≤◌, ◌<◌}
use native.Mathlib.Omega.{arith}
use Rattle.laws.specs.Lists.{OnSome, OnNone}
use Rattle.laws.specs.Tests.{Exact}
use Rattle.grid.specs.Group.{Set, Map, Group, size, inside, pop, clear, take_out, sweep_for, sweep}
use Rattle.grid.proofs.Value.{tally, tally-size, pop-less, pop-none}

module _ {A W : Type 0} {eq : W → W → Bool} (exact : Exact eq) {same : A → A → Bool} (Exact-same : Exact same) (empty : W) (Ds : Set A)
    (ok : W → Bool) (unmatched : ok empty ≡ false) where
  fewer : (f : Map A W) → OnSome (λ g. tally ok Ds (clear same empty g.1 f) < tally ok Ds f) (pop eq ok Ds f)
  fewer f = pop-less exact Exact-same empty ok ok (λ v e. e) unmatched Ds f

  -- any two numbers of steps that are enough give the same
  pub sweep-steps : (n m : ℕ) (f : Map A W) → tally ok Ds f ≤ n → tally ok Ds f ≤ m → sweep_for eq same empty n ok Ds f ≡ sweep_for eq same empty m ok Ds f
  unfolding sweep_for take_out
  sweep-steps zero zero f l k = refl
  sweep-steps zero (suc m) f l k = go (pop eq ok Ds f) (fewer f)
    where
      go : (o : Option (Group A W)) → OnSome (λ g. tally ok Ds (clear same empty g.1 f) < tally ok Ds f) o
          → ([], f) ≡ take_out eq same empty f (λ f'. sweep_for eq same empty m ok Ds f') o
      go none h = refl
      go (some g) h = absurd (omega arith)
  sweep-steps (suc n) zero f l k = go (pop eq ok Ds f) (fewer f)
    where
      go : (o : Option (Group A W)) → OnSome (λ g. tally ok Ds (clear same empty g.1 f) < tally ok Ds f) o
          → take_out eq same empty f (λ f'. sweep_for eq same empty n ok Ds f') o ≡ ([], f)
      go none h = refl
      go (some g) h = absurd (omega arith)
  sweep-steps (suc n) (suc m) f l k = go (pop eq ok Ds f) (fewer f) (λ f'. sweep-steps n m f')
    where
      go : (o : Option (Group A W)) → OnSome (λ g. tally ok Ds (clear same empty g.1 f) < tally ok Ds f) o
          → ((f' : Map A W) → tally ok Ds f' ≤ n → tally ok Ds f' ≤ m → sweep_for eq same empty n ok Ds f' ≡ sweep_for eq same empty m ok Ds f')
          → take_out eq same empty f (λ f'. sweep_for eq same empty n ok Ds f') o ≡ take_out eq same empty f (λ f'. sweep_for eq same empty m ok Ds f') o
      go none h ih = refl
      go (some g) h ih = ap (λ r. (g ∷ r.0, r.1)) (ih (clear same empty g.1 f) (omega arith) (omega arith))

  -- more steps than there are points change nothing
  pub sweep-enough : (n : ℕ) → size Ds ≤ n → (f : Map A W) → sweep eq same empty ok Ds f ≡ sweep_for eq same empty n ok Ds f
  unfolding sweep
  sweep-enough n l f = sweep-steps (size Ds) n f (tally-size ok Ds f) (omega (arith, tally-size ok Ds f))

  pub sweep-unroll : (f : Map A W) → sweep eq same empty ok Ds f ≡ take_out eq same empty f (λ f'. sweep eq same empty ok Ds f') (pop eq ok Ds f)
  unfolding sweep sweep_for
  sweep-unroll f = sweep-enough (suc (size Ds)) (omega arith) f

  done : (n : ℕ) (f : Map A W) → tally ok Ds f ≤ n → (p : List A) → inside same Ds p ≡ true → ok ((sweep_for eq same empty n ok Ds f).1 p) ≡ false
  unfolding sweep_for take_out
  done zero f l = go (pop eq ok Ds f) (pop-none eq Exact-same ok Ds f) (fewer f)
    where
      go : (o : Option (Group A W)) → OnNone ((p : List A) → inside same Ds p ≡ true → ok (f p) ≡ false) o
          → OnSome (λ g. tally ok Ds (clear same empty g.1 f) < tally ok Ds f) o → (p : List A) → inside same Ds p ≡ true → ok (f p) ≡ false
      go none h k = h
      go (some g) h k = absurd (omega arith)
  done (suc n) f l = go (pop eq ok Ds f) (pop-none eq Exact-same ok Ds f) (fewer f) (λ f'. done n f')
    where
      go : (o : Option (Group A W)) → OnNone ((p : List A) → inside same Ds p ≡ true → ok (f p) ≡ false) o
          → OnSome (λ g. tally ok Ds (clear same empty g.1 f) < tally ok Ds f) o
          → ((f' : Map A W) → tally ok Ds f' ≤ n → (p : List A) → inside same Ds p ≡ true → ok ((sweep_for eq same empty n ok Ds f').1 p) ≡ false)
          → (p : List A) → inside same Ds p ≡ true → ok ((take_out eq same empty f (λ f'. sweep_for eq same empty n ok Ds f') o).1 p) ≡ false
      go none h k ih = h
      go (some g) h k ih = ih (clear same empty g.1 f) (omega arith)

  -- no matching point is left
  pub sweep-done : (f : Map A W) (p : List A) → inside same Ds p ≡ true → ok ((sweep eq same empty ok Ds f).1 p) ≡ false
  unfolding sweep
  sweep-done f = done (size Ds) f (tally-size ok Ds f)
