-- THE ORDER OF REASONS: of many items that have a number each, or none, the first number in the order is found by asking one item after the
-- other. Rests on nothing but numbers.
use mathlib.Core.Path.{◌≡◌, refl, sym, ap, ◌∙◌}
use mathlib.Core.Bool.{Bool, true, false, ◌||◌, cond, or-false}
use mathlib.Core.List.{List, [], ◌∷◌}
use Prim.Native.Nat.{ℕ, ◌≤◌, ◌<◌}
use native.Mathlib.Omega.{arith}
use lib.Dec.{eqb, ltb}
use borrow.Author.Tests.{ne_eqb, eqb-false, ltb-true, ltb-false}
use Rattle.laws.specs.Lists.{any_of}
use Rattle.laws.proofs.Flags.{or_assoc}
use Rattle.stopping.specs.Rule.{earlier}

-- none, or a number that comes later in the order
abbrev pub Later : ℕ → ℕ → Type 0
Later k z = (z ≡ 0 → ⊥) → k < z

pub later-none : (k : ℕ) → Later k 0
later-none k f = absurd (f refl)

pub later-cond : (b : Bool) (k j z : ℕ) → k < j → Later k z → Later k (cond b j z)
later-cond true k j z h l f = h
later-cond false k j z h l f = l f

-- ## Of two
-- it is one of both
earlier-one : (P : ℕ → Type 0) (a b : ℕ) → P a → P b → P (earlier a b)
earlier-one P a b x y = go (eqb a 0) (eqb b 0) (ltb b a)
  where
    go : (e f g : Bool) → P (cond e b (cond f a (cond g b a)))
    go true f g = y
    go false true g = x
    go false false true = y
    go false false false = x

module _ (a b : ℕ) where
  earlier-left : (a ≡ 0 → ⊥) → ((b ≡ 0 → ⊥) → a ≤ b) → earlier a b ≡ a
  earlier-left h l = go (eqb b 0) refl (ltb b a) refl
    where
      go : (e : Bool) → eqb b 0 ≡ e → (g : Bool) → ltb b a ≡ g → earlier a b ≡ a
      go true e g k = rw (ne_eqb a 0 h, e) refl
      go false e false k = rw (ne_eqb a 0 h, e, k) refl
      go false e true k = absurd (omega (arith, l (eqb-false b 0 e), ltb-true b a k))

  earlier-right : (b ≡ 0 → ⊥) → ((a ≡ 0 → ⊥) → b ≤ a) → earlier a b ≡ b
  earlier-right h l = go (eqb a 0) refl (ltb b a) refl
    where
      go : (e : Bool) → eqb a 0 ≡ e → (g : Bool) → ltb b a ≡ g → earlier a b ≡ b
      go true e g k = rw e refl
      go false e true k = rw (e, ne_eqb b 0 h, k) refl
      go false e false k =
          let same : a ≡ b = omega (arith, l (eqb-false a 0 e), ltb-false b a k) in
          rw (e, ne_eqb b 0 h, k) same

-- where one of two has the number k, k it is; else what is found behind it
earlier-both : (b d : Bool) (k a z : ℕ) → 0 < k → Later k a → Later k z → earlier (cond b k a) (cond d k z) ≡ cond (b || d) k (earlier a z)
earlier-both true true k a z p l m = earlier-left k k (λ e. omega arith) (λ f. omega arith)
earlier-both true false k a z p l m = earlier-left k z (λ e. omega arith) (λ f. omega (arith, m f))
earlier-both false true k a z p l m = earlier-right a k (λ e. omega arith) (λ f. omega (arith, l f))
earlier-both false false k a z p l m = refl

pub earlier-cond : (b : Bool) (k z : ℕ) → 0 < k → Later k z → earlier (cond b k 0) z ≡ cond b k z
earlier-cond b k z p l = earlier-both b false k 0 z p (later-none k) l ∙ ap (λ c. cond c k z) (or-false b)

-- ## Of many
-- one after the other, a being what was found before them
unfoldable pub earliest : {A : Type 0} → (A → ℕ) → ℕ → List A → ℕ
earliest f a [] = a
earliest f a (x ∷ xs) = earliest f (earlier a (f x)) xs

module _ {A : Type 0} (P : A → Bool) (k : ℕ) (p : 0 < k) (g : A → ℕ) (l : (x : A) → Later k (g x)) where
  found_first : (xs : List A) (b : Bool) (a : ℕ) → Later k a → earliest (λ x. cond (P x) k (g x)) (cond b k a) xs ≡ cond (b || any_of P xs) k (earliest g a xs)
  unfolding earliest any_of
  found_first [] b a m = ap (λ c. cond c k a) (sym (or-false b))
  found_first (x ∷ xs) b a m =
      ap (λ n. earliest (λ x. cond (P x) k (g x)) n xs) (earlier-both b (P x) k a (g x) p m (l x))
      ∙ found_first xs (b || P x) (earlier a (g x)) (earlier-one (Later k) a (g x) m (l x))
      ∙ ap (λ c. cond c k (earliest g (earlier a (g x)) xs)) (or_assoc b (P x) (any_of P xs))

  pub earliest-first : (xs : List A) → earliest (λ x. cond (P x) k (g x)) 0 xs ≡ cond (any_of P xs) k (earliest g 0 xs)
  earliest-first xs = found_first xs false 0 (later-none k)

earliest-none : {A : Type 0} (xs : List A) → earliest (λ x. 0) 0 xs ≡ 0
unfolding earliest
earliest-none [] = refl
earliest-none (x ∷ xs) = earliest-none xs

-- one number alone
pub earliest-only : {A : Type 0} (P : A → Bool) (k : ℕ) → 0 < k → (xs : List A) → earliest (λ x. cond (P x) k 0) 0 xs ≡ cond (any_of P xs) k 0
earliest-only P k p xs = earliest-first P k p (λ x. 0) (λ x. later-none k) xs ∙ ap (cond (any_of P xs) k) (earliest-none xs)
