-- The first element of a list that passes a test, and lists of which none does. Rests on the lists' laws.
use mathlib.Core.Path.{◌≡◌, refl, sym, ap, ap₂}
use mathlib.Core.List.{List, [], ◌∷◌}
use mathlib.Core.Option.{Option, none, some, map, some-ne-none}
use mathlib.Core.Bool.{Bool, true, false}
use Prim.Native.Nat.{ℕ, zero, suc, ◌<◌}
use native.Mathlib.Omega.{arith}
use lib.ListN.{length, get_or}
use Rattle.laws.specs.Lists.{any_of, first_index, All, FailsAt, FirstAt}
use Rattle.laws.proofs.Lists.{Mem-All, any_none}

module _ {A : Type 0} (t : A → Bool) where
  abbrev pub NonePasses : List A → Type 0
  NonePasses xs = All (λ x. t x ≡ false) xs

  pub none_passes : (xs : List A) → any_of t xs ≡ false → NonePasses xs
  none_passes xs h = Mem-All _ xs (λ x m. any_none t x xs h m)

  -- ## The first index
  pub first-at : (xs : List A) (k : ℕ) → FirstAt t xs k → first_index t xs ≡ some k
  unfolding first_index
  first-at [] k h = absurd (some-ne-none h.0.0 (sym h.0.1))
  first-at (x ∷ xs) zero h = let e : x ≡ h.0.0 = cc h.0.1 in rw (rw (← e) at h.0.2, first_index)
  first-at (x ∷ xs) (suc k) h = rw (h.1 0 (omega arith) x refl, first_index) (ap (map suc) (first-at xs k (h.0, λ j l. h.1 (suc j) (omega arith))))

  pub first-none : (xs : List A) → NonePasses xs → first_index t xs ≡ none
  unfolding first_index
  first-none [] h = refl
  first-none (x ∷ xs) h = rw (h.0, first_index) (ap (map suc) (first-none xs h.1))

  -- the same, told by reading
  pub index-first : (d : A) (xs : List A) (k : ℕ) → k < length xs → t (get_or xs k d) ≡ true → ((j : ℕ) → j < k → t (get_or xs j d) ≡ false)
      → first_index t xs ≡ some k
  unfolding first_index
  index-first d [] k l e h = absurd (omega arith)
  index-first d (x ∷ xs) zero l e h = rw (e, first_index)
  index-first d (x ∷ xs) (suc k) l e h =
      rw (h 0 (omega arith), first_index) (ap (map suc) (index-first d xs k (omega arith) e (λ j m. h (suc j) (omega arith))))

  pub index-none : (d : A) (xs : List A) → ((j : ℕ) → j < length xs → t (get_or xs j d) ≡ false) → first_index t xs ≡ none
  unfolding first_index
  index-none d [] h = refl
  index-none d (x ∷ xs) h = rw (h 0 (omega arith), first_index) (ap (map suc) (index-none d xs (λ j m. h (suc j) (omega arith))))

  -- a test that every element answers alike
  pub first-same : (u : A → Bool) (xs : List A) → All (λ x. t x ≡ u x) xs → first_index t xs ≡ first_index u xs
  unfolding first_index
  first-same u [] h = refl
  first-same u (x ∷ xs) h = ap₂ (λ b o. elim b [ true ↦ some 0 | false ↦ map suc o ]) h.0 (first-same u xs h.1)

  -- an index is the first, and no index is of none
  abbrev pub Found : List A → Option ℕ → Type 0
  Found xs none = NonePasses xs
  Found xs (some k) = FirstAt t xs k

  pub first_found : (xs : List A) → Found xs (first_index t xs)
  unfolding first_index
  first_found [] = tt
  first_found (x ∷ xs) = go (t x) refl (first_index t xs) (first_found xs)
    where
      later : t x ≡ false → (k : ℕ) → ((j : ℕ) → j < k → FailsAt t xs j) → (j : ℕ) → j < suc k → FailsAt t (x ∷ xs) j
      later e k h zero l = λ y g. let q : x ≡ y = cc g in rw (← q) e
      later e k h (suc j) l = h j (omega arith)

      go : (b : Bool) → t x ≡ b → (o : Option ℕ) → Found xs o → Found (x ∷ xs) (elim b [ true ↦ some 0 | false ↦ map suc o ])
      go true e o h = ((x, refl, e), λ j l. absurd (omega arith))
      go false e none h = (e, h)
      go false e (some k) h = (h.0, later e k h.1)
