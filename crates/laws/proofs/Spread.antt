-- Laws of `flat_map`: over appended lists, and where a test or an answer is the same for all that an element is replaced by. Rests on the lists'
-- laws.
use mathlib.Core.Path.{◌≡◌, refl, sym, ap, ap₂, ◌∙◌}
use mathlib.Core.List.{List, [], ◌∷◌, ◌++◌, map, flat_map, append-nil, append_assoc}
use mathlib.Core.Option
use mathlib.Core.Option.{Option, none, some}
use mathlib.Core.Bool.{Bool, true, false}
use Prim.Native.Nat.{ℕ, ◌*◌, ◌≤◌}
use native.Mathlib.Omega.{arith}
use lib.ListN.{length, length-append}
use Rattle.laws.specs.Lists.{first_of, every, any_of, keep, All, Filled}
use Rattle.laws.proofs.Lists.{All-append, every_append, any_of-append, keep_append, keep_all, keep-none}

every-block : {B : Type 0} (u : B → Bool) (v : Bool) (bs : List B) → Filled bs → All (λ b. v ≡ u b) bs → every u bs ≡ v
unfolding every
every-block u true [] f h = refl
every-block u true (b ∷ []) f h = rw (← h.0)
every-block u true (b ∷ c ∷ bs) f h = rw (← h.0) (every-block u true (c ∷ bs) tt h.1)
every-block u false [] f h = absurd f
every-block u false (b ∷ bs) f h = rw (← h.0)

any-block : {B : Type 0} (u : B → Bool) (v : Bool) (bs : List B) → Filled bs → All (λ b. v ≡ u b) bs → any_of u bs ≡ v
unfolding any_of
any-block u true [] f h = absurd f
any-block u true (b ∷ bs) f h = rw (← h.0)
any-block u false [] f h = refl
any-block u false (b ∷ []) f h = rw (← h.0)
any-block u false (b ∷ c ∷ bs) f h = rw (← h.0) (any-block u false (c ∷ bs) tt h.1)

module _ {A B : Type 0} (block : A → List B) where
  pub every-spread : (t : A → Bool) (u : B → Bool) (D : List A) → ((a : A) → Filled (block a))
      → All (λ a. All (λ b. t a ≡ u b) (block a)) D → every u (flat_map block D) ≡ every t D
  unfolding every flat_map
  every-spread t u [] f h = refl
  every-spread t u (a ∷ D) f h = rw (every_append, every-spread t u D f h.1, every-block u (t a) (block a) (f a) h.0)

  pub any-spread : (t : A → Bool) (u : B → Bool) (D : List A) → ((a : A) → Filled (block a))
      → All (λ a. All (λ b. t a ≡ u b) (block a)) D → any_of u (flat_map block D) ≡ any_of t D
  unfolding any_of flat_map
  any-spread t u [] f h = refl
  any-spread t u (a ∷ D) f h = rw (any_of-append, any-spread t u D f h.1, any-block u (t a) (block a) (f a) h.0)

  pub keep-spread : (t : A → Bool) (u : B → Bool) (D : List A)
      → All (λ a. All (λ b. t a ≡ u b) (block a)) D → keep u (flat_map block D) ≡ flat_map block (keep t D)
  unfolding keep flat_map
  keep-spread t u [] h = refl
  keep-spread t u (a ∷ D) h = keep_append u (block a) (flat_map block D) ∙ go (t a) refl (keep-spread t u D h.1)
    where
      go : (v : Bool) → t a ≡ v → keep u (flat_map block D) ≡ flat_map block (keep t D)
          → keep u (block a) ++ keep u (flat_map block D) ≡ flat_map block (keep t (a ∷ D))
      go true e ih = rw (ih, e, keep, keep_all u (block a) (rw e at h.0))
      go false e ih = rw (ih, e, keep, keep-none u (block a) (rw e at h.0))

  first_of-skip : {C : Type 0} (k : B → Option C) (bs ys : List B) → All (λ b. none ≡ k b) bs → first_of k (bs ++ ys) ≡ first_of k ys
  unfolding first_of
  first_of-skip k [] ys h = refl
  first_of-skip k (b ∷ bs) ys h = rw (← h.0, first_of) (first_of-skip k bs ys h.1)

  first_of-hit : {C : Type 0} (k : B → Option C) (c : C) (bs ys : List B) → Filled bs → All (λ b. some c ≡ k b) bs → first_of k (bs ++ ys) ≡ some c
  unfolding first_of
  first_of-hit k c [] ys f h = absurd f
  first_of-hit k c (b ∷ bs) ys f h = rw (← h.0, first_of)

  pub first_of-spread : {C E : Type 0} (F : C → E) (t : A → Option C) (k : B → Option E) (D : List A) → ((a : A) → Filled (block a))
      → All (λ a. All (λ b. Option.map F (t a) ≡ k b) (block a)) D → first_of k (flat_map block D) ≡ Option.map F (first_of t D)
  unfolding first_of flat_map
  first_of-spread F t k [] f h = refl
  first_of-spread F t k (a ∷ D) f h = go (t a) refl (first_of-spread F t k D f h.1)
    where
      go : (o : Option _) → t a ≡ o → first_of k (flat_map block D) ≡ Option.map F (first_of t D)
          → first_of k (block a ++ flat_map block D) ≡ Option.map F (first_of t (a ∷ D))
      go none e ih = rw (e, first_of) (first_of-skip k (block a) (flat_map block D) (rw e at h.0) ∙ ih)
      go (some c) e ih = rw (e, first_of) (first_of-hit k (F c) (block a) (flat_map block D) (f a) (rw e at h.0))

-- of two lists behind each other, and of one element more
pub flat_map-append : {A B : Type 0} (f : A → List B) (xs ys : List A) → flat_map f (xs ++ ys) ≡ flat_map f xs ++ flat_map f ys
unfolding flat_map
flat_map-append f [] ys = refl
flat_map-append f (x ∷ xs) ys = ap (f x ++◌) (flat_map-append f xs ys) ∙ sym (append_assoc (f x) (flat_map f xs) (flat_map f ys))

pub flat_map-last : {A B : Type 0} (f : A → List B) (xs : List A) (x : A) → flat_map f (xs ++ (x ∷ [])) ≡ flat_map f xs ++ f x
unfolding flat_map
flat_map-last f xs x = flat_map-append f xs (x ∷ []) ∙ ap (flat_map f xs ++◌) (append-nil (f x))

-- what a list of images is replaced by
pub flat_map-map : {A B C : Type 0} (h : B → List C) (k : A → List C) (F : A → B) (xs : List A) → All (λ x. h (F x) ≡ k x) xs
    → flat_map h (map F xs) ≡ flat_map k xs
unfolding flat_map
flat_map-map h k F [] a = refl
flat_map-map h k F (x ∷ xs) a = ap₂ ◌++◌ a.0 (flat_map-map h k F xs a.1)

pub flat_map-all : {A B : Type 0} (P : B → Type 0) (f : A → List B) (xs : List A) → All (λ x. All P (f x)) xs → All P (flat_map f xs)
unfolding flat_map
flat_map-all P f [] h = tt
flat_map-all P f (x ∷ xs) h = All-append P (f x) (flat_map f xs) h.0 (flat_map-all P f xs h.1)

pub flat_map-length : {A B : Type 0} (f : A → List B) (n : ℕ) (xs : List A) → All (λ x. length (f x) ≤ n) xs → length (flat_map f xs) ≤ length xs * n
unfolding flat_map
flat_map-length f n [] h = omega arith
flat_map-length f n (x ∷ xs) h = omega (arith, length-append (f x) (flat_map f xs), h.0, flat_map-length f n xs h.1)
