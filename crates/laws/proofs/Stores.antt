-- Laws of a store into a list (`set`) and of rows laid over one (`sets`): what each place holds then, and that two rows, one behind the other,
-- may be laid in either order. Rests on the kit's laws of lists.
use mathlib.Core.Path.{◌≡◌, refl, sym, ap, ◌∙◌}
use mathlib.Core.List.{List, [], ◌∷◌, ◌++◌}
use mathlib.Core.Bool.{Bool, true, false}
use Prim.Native.Nat.{ℕ, suc, ◌+◌, ◌<◌}
use native.Mathlib.Omega.{arith}
use lib.Dec.{eqb}
use lib.ListN.{length, get_or, set}
use lib.Seq.{sets, set_comm, get_or-set_same, get_or-set_other}
use borrow.Author.Tests.{eqb-true, eqb-false}

-- what holds of the stored number at its place, and at every other place of what stood there, holds at each place
pub set-each : {A : Type 0} (P : ℕ → A → Type 0) (s : List A) (i : ℕ) (v d : A) → i < length s → P i v → ((k : ℕ) → (k ≡ i → ⊥) → P k (get_or s k d))
    → (k : ℕ) → P k (get_or (set s i v) k d)
set-each P s i v d l here other k = go (eqb k i) refl
  where
    go : (b : Bool) → eqb k i ≡ b → P k (get_or (set s i v) k d)
    go true e = rw (eqb-true k i e, get_or-set_same s i v d l) here
    go false e = rw (get_or-set_other s i k v d (eqb-false k i e)) (other k (eqb-false k i e))

module _ {A : Type 0} where
  pub sets-append : (s : List A) (a : ℕ) (t u : List A) → sets s a (t ++ u) ≡ sets (sets s a t) (a + length t) u
  sets-append s a [] u = let e : a ≡ a + 0 = omega arith in ap (λ n. sets s n u) e
  sets-append s a (x ∷ t) u =
      let e : suc a + length t ≡ a + suc (length t) = omega arith in sets-append (set s a x) (suc a) t u ∙ ap (λ n. sets (sets (set s a x) (suc a) t) n u) e

  -- a write before the row's place goes by it
  pub sets-set : (s : List A) (i : ℕ) (x : A) (a : ℕ) (t : List A) → i < a → sets (set s i x) a t ≡ set (sets s a t) i x
  sets-set s i x a [] h = refl
  sets-set s i x a (y ∷ t) h = ap (λ u. sets u (suc a) t) (set_comm s i a x y (λ e. omega arith)) ∙ sets-set (set s a y) i x (suc a) t (omega arith)

  -- the row behind laid first
  pub sets_behind : (s : List A) (a : ℕ) (t u : List A) → sets (sets s (a + length t) u) a t ≡ sets s a (t ++ u)
  sets_behind s a [] u = let e : a + 0 ≡ a = omega arith in ap (λ n. sets s n u) e
  sets_behind s a (x ∷ t) u =
      let e : a + suc (length t) ≡ suc a + length t = omega arith in
      ap (λ v. sets v (suc a) t) (sym (sets-set s a x (a + suc (length t)) u (omega arith)) ∙ ap (λ n. sets (set s a x) n u) e) ∙ sets_behind (set s a x) (suc a) t u
