-- Lists whose elements are all apart, and the elements of a list, each once: there are no more of the one than of anything to choose from, and
-- how many there are of the other rests on the elements alone. Rests on the laws of lists, of tests and of numbers.
use mathlib.Core.Path.{◌≡◌, refl, sym, ap, ◌∙◌, subst}
use mathlib.Core.List.{List, [], ◌∷◌, map}
use mathlib.Core.Logic.{◌⊎◌, inl, inr}
use mathlib.Core.Bool.{Bool, true, false, not, cond}
use Prim.Native.Nat.{ℕ, zero, suc, ◌+◌, ◌≤◌, ◌<◌}
use native.Mathlib.Omega.{arith}
use lib.ListN.{length, length-map}
use Rattle.laws.specs.Lists.{from, any_of, keep, distinct, All, Distinct, Mem}
use Rattle.laws.specs.Tests.{Exact}
use Rattle.laws.proofs.Flags.{not-true}
use Rattle.laws.proofs.Tests.{exact-swap}
use Rattle.laws.proofs.Lists.{All-map, All-map₂, All-keep, All-image, every-all, every-keep, keep-less, Mem-keep, Mem-All, Mem-map, any-Mem, any-all}
use Rattle.laws.proofs.Numbers.{length_from, All-from, Mem-from}

-- what holds of each element that passes holds of each that is kept
pub kept-all : {A : Type 0} (P : A → Type 0) (t : A → Bool) (xs : List A) → All (λ x. t x ≡ true → P x) xs → All P (keep t xs)
kept-all P t xs h = All-map₂ (λ x p e. p e) (keep t xs) (All-keep (λ x. t x ≡ true → P x) t xs h) (every-all (λ x. t x ≡ true) t (λ x e. e) (keep t xs) (every-keep t xs))

-- one of the numbers' images
image-Mem : {A : Type 0} (f : ℕ → A) (x : A) (n k : ℕ) → k < n → x ≡ f k → Mem x (map f (from 0 n))
image-Mem f x n k l e = subst (λ y. Mem y (map f (from 0 n))) (sym e) (Mem-map f k (from 0 n) (Mem-from k 0 n (omega arith) (omega arith)))

module _ {A : Type 0} {same : A → A → Bool} (exact : Exact same) where
  others-fewer : (x : A) (xs : List A) → Mem x xs → length (keep (λ y. not (same y x)) xs) < length xs
  unfolding keep Mem
  others-fewer x [] m = absurd m
  others-fewer x (y ∷ xs) (inl q) = rw (ap (λ z. same z x) (sym q) ∙ exact.self x, keep) (omega (arith, keep-less (λ y. not (same y x)) xs))
  others-fewer x (y ∷ xs) (inr m) = pick (same y x) refl (others-fewer x xs m)
    where
      pick : (b : Bool) → same y x ≡ b → length (keep (λ y. not (same y x)) xs) < length xs → length (keep (λ y. not (same y x)) (y ∷ xs)) < suc (length xs)
      pick true e ih = rw (e, keep) (omega arith)
      pick false e ih = rw (e, keep) (omega arith)

  -- AS MANY AS THERE ARE TO CHOOSE FROM, at most
  pub distinct-count : (xs ys : List A) → Distinct same xs → All (λ x. Mem x ys) xs → length xs ≤ length ys
  distinct-count [] ys d m = omega arith
  distinct-count (x ∷ xs) ys d m =
      omega (
        arith,
        others-fewer x ys m.0,
        distinct-count xs (keep (λ y. not (same y x)) ys) d.1 (All-map₂ (λ z e k. Mem-keep (λ y. not (same y x)) z ys k (rw e)) xs d.0 m.1),
      )

  -- ## Each element once
  pub distinct-all : (P : A → Type 0) (xs : List A) → All P xs → All P (distinct same xs)
  unfolding distinct
  distinct-all P [] h = tt
  distinct-all P (x ∷ xs) h = go (any_of (same x) xs) (distinct-all P xs h.1)
    where
      go : (b : Bool) → All P (distinct same xs) → All P (cond b (distinct same xs) (x ∷ distinct same xs))
      go true ih = ih
      go false ih = (h.0, ih)

  pub distinct_apart : (xs : List A) → Distinct same (distinct same xs)
  unfolding distinct
  distinct_apart [] = tt
  distinct_apart (x ∷ xs) = go (any_of (same x) xs) refl (distinct_apart xs)
    where
      go : (b : Bool) → any_of (same x) xs ≡ b → Distinct same (distinct same xs) → Distinct same (cond b (distinct same xs) (x ∷ distinct same xs))
      go true e ih = ih
      go false e ih = (distinct-all (λ y. same y x ≡ false) xs (All-map (λ y q. exact-swap exact y x ∙ q) xs (any-all (same x) xs e)), ih)

  pub distinct-has : (x : A) (xs : List A) → Mem x xs → Mem x (distinct same xs)
  unfolding distinct Mem
  distinct-has x [] m = m
  distinct-has x (y ∷ xs) m = go (any_of (same y) xs) refl m (distinct-has x xs)
    where
      go : (b : Bool) → any_of (same y) xs ≡ b → (x ≡ y) ⊎ Mem x xs → (Mem x xs → Mem x (distinct same xs)) → Mem x (cond b (distinct same xs) (y ∷ distinct same xs))
      go true e (inl q) ih = ih (rw q (any-Mem exact y xs e))
      go true e (inr m) ih = ih m
      go false e (inl q) ih = inl q
      go false e (inr m) ih = inr (ih m)

  images-apart : (f : ℕ → A) (s n : ℕ) → ((a b : ℕ) → a < s + n → b < s + n → f a ≡ f b → a ≡ b) → Distinct same (map f (from s n))
  unfolding from
  images-apart f s zero h = tt
  images-apart f s (suc n) h = (
    All-image _ f (from (suc s) n)
        (All-from _ (suc s) n (λ b l u. not-true (same (f b) (f s)) (λ e. let q : b ≡ s = h b s (omega arith) (omega arith) (exact.equal (f b) (f s) e) in omega arith))),
    images-apart f (suc s) n (λ a b l u. h a b (omega arith) (omega arith)),
  )

  -- no more than there are to choose from
  pub distinct-few : (xs ys : List A) → All (λ x. Mem x ys) xs → length (distinct same xs) ≤ length ys
  distinct-few xs ys h = distinct-count (distinct same xs) ys (distinct_apart xs) (distinct-all (λ x. Mem x ys) xs h)

  -- ## Of the elements that pass, each once
  module _ (t : A → Bool) where
    abbrev kinds : List A → ℕ
    kinds xs = length (distinct same (keep t xs))

    fewer : (xs ys : List A) → ((x : A) → Mem x xs → t x ≡ true → Mem x ys) → kinds xs ≤ kinds ys
    fewer xs ys h =
        distinct-few (keep t xs) (distinct same (keep t ys))
        (kept-all (λ x. Mem x (distinct same (keep t ys))) t xs (Mem-All _ xs (λ x m e. distinct-has x (keep t ys) (Mem-keep t x ys (h x m e) e))))

    -- HOW MANY THERE ARE rests on the elements alone, wherever and however often they stand
    pub distinct-same : (xs ys : List A) → ((x : A) → Mem x xs → t x ≡ true → Mem x ys) → ((x : A) → Mem x ys → t x ≡ true → Mem x xs) → kinds xs ≡ kinds ys
    distinct-same xs ys h k = omega (arith, fewer xs ys h, fewer ys xs k)

    -- NO MORE THAN PLACES, where what passes has a place
    pub distinct-most : (f g : ℕ → A) (n k : ℕ) → ((b : ℕ) → b < n → t (f b) ≡ true → (p : ℕ) × (p < k) × (f b ≡ g p)) → kinds (map f (from 0 n)) ≤ k
    distinct-most f g n k placed =
        omega (arith, distinct-few (keep t (map f (from 0 n))) (map g (from 0 k)) all, length-map (from 0 k) g, length_from 0 k)
      where
        all : All (λ x. Mem x (map g (from 0 k))) (keep t (map f (from 0 n)))
        all =
            kept-all (λ x. Mem x (map g (from 0 k))) t (map f (from 0 n)) (All-image _ f (from 0 n)
            (All-from _ 0 n (λ b _ l e. let q = placed b (omega arith) e in image-Mem g (f b) k q.0 q.1 q.2)))

    -- AS MANY AS PLACES, where moreover each place is held, passes, and differs from the others
    pub distinct-places : (f g : ℕ → A) (n k : ℕ) → ((b : ℕ) → b < n → t (f b) ≡ true → (p : ℕ) × (p < k) × (f b ≡ g p)) → ((p : ℕ) → p < k → t (g p) ≡ true)
        → ((p : ℕ) → p < k → (b : ℕ) × (b < n) × (f b ≡ g p)) → ((a b : ℕ) → a < k → b < k → g a ≡ g b → a ≡ b) → k ≡ kinds (map f (from 0 n))
    distinct-places f g n k placed passes held apart =
        omega (
          arith,
          distinct-most f g n k placed,
          distinct-count (map g (from 0 k)) (distinct same (keep t (map f (from 0 n)))) (images-apart g 0 k (λ a b l m. apart a b (omega arith) (omega arith))) all_held,
          length-map (from 0 k) g,
          length_from 0 k,
        )
      where
        all_held : All (λ x. Mem x (distinct same (keep t (map f (from 0 n))))) (map g (from 0 k))
        all_held =
            All-image _ g (from 0 k) (All-from _ 0 k (λ p _ l.
            let q = held p (omega arith) in
            distinct-has (g p) (keep t (map f (from 0 n)))
            (Mem-keep t (g p) (map f (from 0 n)) (image-Mem f (g p) n q.0 q.1 (sym q.2)) (passes p (omega arith)))))
