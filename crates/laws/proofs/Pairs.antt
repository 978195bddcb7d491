-- Pairs of elements: in a list that is put together of others a pair stands within one of them or across two; and pairs by the places of their
-- elements. Rests on the laws of lists.
use mathlib.Core.Path.{◌≡◌, refl, ap, ap₂, ◌∙◌}
use mathlib.Core.List.{List, [], ◌∷◌, ◌++◌, flat_map}
use mathlib.Core.Bool.{Bool, true, false, ◌||◌, false≢true}
use Prim.Native.Nat.{ℕ, zero, suc, ◌<◌}
use native.Mathlib.Omega.{arith}
use lib.ListN.{length, get_or}
use Rattle.laws.specs.Lists.{any_of, any_pair, All}
use Rattle.laws.proofs.Flags.{or_left, or_right}
use Rattle.laws.proofs.Lists.{All-map, any_same, any_of-append, any_of-either}

module _ {A : Type 0} (t : A → A → Bool) where
  -- an element of the one list passes with one of the other
  abbrev pub across : List A → List A → Bool
  across xs ys = any_of (λ x. any_of (t x) ys) xs

  across-none : (xs : List A) → across xs [] ≡ false
  unfolding any_of
  across-none [] = refl
  across-none (x ∷ xs) = across-none xs

  across-append : (xs ys zs : List A) → across xs (ys ++ zs) ≡ across xs ys || across xs zs
  across-append xs ys zs = ap (λ h. any_of h xs) (λ i x. any_of-append (t x) ys zs i) ∙ any_of-either (λ x. any_of (t x) ys) (λ x. any_of (t x) zs) xs

  across-spread : {B : Type 0} (f : B → List A) (xs : List A) (es : List B) → across xs (flat_map f es) ≡ any_of (λ e. across xs (f e)) es
  unfolding flat_map any_of
  across-spread f xs [] = across-none xs
  across-spread f xs (e ∷ es) = across-append xs (f e) (flat_map f es) ∙ ap (across xs (f e) ||◌) (across-spread f xs es)

  pair-append : (xs ys : List A) → any_pair t (xs ++ ys) ≡ any_pair t xs || (across xs ys || any_pair t ys)
  unfolding any_pair any_of
  pair-append [] ys = refl
  pair-append (x ∷ xs) ys = ap₂ ◌||◌ (any_of-append (t x) xs ys) (pair-append xs ys) ∙ go (any_of (t x) xs) (any_of (t x) ys) (any_pair t xs)
    where
      go : (a b c : Bool) → a || b || (c || (across xs ys || any_pair t ys)) ≡ a || c || (b || across xs ys || any_pair t ys)
      go true b c = refl
      go false true true = refl
      go false true false = refl
      go false false c = refl

  -- A LIST OF BLOCKS within which no pair passes: two blocks do
  pub pair-spread : {B : Type 0} (f : B → List A) (es : List B) → All (λ e. any_pair t (f e) ≡ false) es
      → any_pair t (flat_map f es) ≡ any_pair (λ e g. across (f e) (f g)) es
  unfolding flat_map any_pair
  pair-spread f [] h = refl
  pair-spread f (e ∷ es) h =
      pair-append (f e) (flat_map f es) ∙ ap (◌|| (across (f e) (flat_map f es) || any_pair t (flat_map f es))) h.0
      ∙ ap₂ ◌||◌ (across-spread f (f e) es) (pair-spread f es h.1)

-- two tests that answer alike, of elements with some fact
pub pair_same : {A : Type 0} (P : A → Type 0) (t u : A → A → Bool) → ((x y : A) → P x → P y → t x y ≡ u x y) → (xs : List A) → All P xs
    → any_pair t xs ≡ any_pair u xs
unfolding any_pair
pair_same P t u h [] k = refl
pair_same P t u h (x ∷ xs) k = ap₂ ◌||◌ (any_same (t x) (u x) xs (All-map (λ y. h x y k.0) xs k.1)) (pair_same P t u h xs k.1)

-- ## By their places
module _ {A : Type 0} (t : A → Bool) (d : A) where
  at-any : (xs : List A) (k : ℕ) → k < length xs → t (get_or xs k d) ≡ true → any_of t xs ≡ true
  unfolding any_of
  at-any [] k l h = absurd (omega arith)
  at-any (x ∷ xs) zero l h = or_left (t x) (any_of t xs) h
  at-any (x ∷ xs) (suc k) l h = or_right (t x) (any_of t xs) (at-any xs k (omega arith) h)

  any_at : (xs : List A) → any_of t xs ≡ true → (k : ℕ) × (k < length xs) × (t (get_or xs k d) ≡ true)
  unfolding any_of
  any_at [] h = absurd (false≢true h)
  any_at (x ∷ xs) h = go (t x) refl (any_at xs)
    where
      go : (b : Bool) → t x ≡ b → (any_of t xs ≡ true → (k : ℕ) × (k < length xs) × (t (get_or xs k d) ≡ true))
          → (k : ℕ) × (k < suc (length xs)) × (t (get_or (x ∷ xs) k d) ≡ true)
      go true e ih = (0, omega arith, e)
      go false e ih = let k = ih (rw e at h) in (suc k.0, omega (arith, k.1), k.2)

module _ {A : Type 0} (t : A → A → Bool) (d : A) where
  -- the elements of places j and k pass, the first before the second
  abbrev pub PairAt : List A → ℕ → ℕ → Type 0
  PairAt xs j k = (j < k) × (k < length xs) × (t (get_or xs j d) (get_or xs k d) ≡ true)

  pub at_pair : (xs : List A) (j k : ℕ) → PairAt xs j k → any_pair t xs ≡ true
  unfolding any_pair
  at_pair [] j k h = absurd (omega (arith, h.1))
  at_pair (x ∷ xs) j zero h = absurd (omega (arith, h.0))
  at_pair (x ∷ xs) zero (suc k) h = or_left (any_of (t x) xs) (any_pair t xs) (at-any (t x) d xs k (omega (arith, h.1)) h.2)
  at_pair (x ∷ xs) (suc j) (suc k) h = or_right (any_of (t x) xs) (any_pair t xs) (at_pair xs j k (omega (arith, h.0), omega (arith, h.1), h.2))

  pub pair-at : (xs : List A) → any_pair t xs ≡ true → (j : ℕ) × (k : ℕ) × PairAt xs j k
  unfolding any_pair
  pair-at [] h = absurd (false≢true h)
  pair-at (x ∷ xs) h = go (any_of (t x) xs) refl (pair-at xs)
    where
      go : (b : Bool) → any_of (t x) xs ≡ b → (any_pair t xs ≡ true → (j : ℕ) × (k : ℕ) × PairAt xs j k) → (j : ℕ) × (k : ℕ) × PairAt (x ∷ xs) j k
      go true e ih = let k = any_at (t x) d xs e in (0, suc k.0, (omega arith, omega (arith, k.1), k.2))
      go false e ih = let k = ih (rw e at h) in (suc k.0, suc k.1, (omega (arith, k.2.0), omega (arith, k.2.1), k.2.2))
