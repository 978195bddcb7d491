-- Laws of `from`, the numbers from a first one on, and of numbers that rise. Rests on the lists' laws.
use mathlib.Core.Path.{◌≡◌, refl, sym, ap, ap₂, ◌∙◌}
use mathlib.Core.List.{List, [], ◌∷◌, ◌++◌, map}
use mathlib.Core.Bool.{Bool, true, false, true≢false}
use mathlib.Core.Option.{Option, none, some}
use mathlib.Core.Logic.{◌⊎◌, inl, inr}
use Prim.Native.Nat.{ℕ, zero, suc, ◌+◌, ◌≤◌, ◌<◌}
use native.Mathlib.Omega.{arith}
use lib.ListN.{length, get_or}
use lib.Dec.{eqb, ltb}
use borrow.Author.Count.{below_more}
use borrow.Author.Tests.{ne_eqb, eqb-true, eqb-false, ltb-true, ltb-false}
use Rattle.laws.specs.Lists.{from, first_of, every, any_of, All, Rises, Mem}
use Rattle.laws.proofs.Flags.{not-true}
use Rattle.laws.proofs.Tests.{exact-eqb}
use Rattle.laws.proofs.Lists.{All-Mem, every-at, any-Mem, any_some, some-any}

pub length_from : (s n : ℕ) → length (from s n) ≡ n
unfolding from
length_from s zero = refl
length_from s (suc n) = ap suc (length_from (suc s) n)

pub from-append : (s n m k : ℕ) → s + n ≡ k → from s n ++ from k m ≡ from s (n + m)
unfolding from
from-append s zero m k q = let a : k ≡ s = omega arith in let b : m ≡ 0 + m = omega arith in ap₂ from a b
from-append s (suc n) m k q = let e : suc (n + m) ≡ suc n + m = omega arith in ap (s ∷◌) (from-append (suc s) n m k (omega arith)) ∙ ap (from s) e

pub from-below : (b s n : ℕ) → b < s → any_of (eqb b) (from s n) ≡ false
unfolding any_of from
from-below b s zero h = refl
from-below b s (suc n) h = rw (ne_eqb b s (omega arith), from-below b (suc s) n (omega arith))

pub from-above : (b s n : ℕ) → s + n ≤ b → any_of (eqb b) (from s n) ≡ false
unfolding any_of from
from-above b s zero h = refl
from-above b s (suc n) h = rw (ne_eqb b s (omega arith), from-above b (suc s) n (omega arith))

pub from-inside : (b s n : ℕ) → s ≤ b → b < s + n → any_of (eqb b) (from s n) ≡ true
unfolding any_of from
from-inside b s zero h k = absurd (omega arith)
from-inside b s (suc n) h k = go (eqb b s) refl (from-inside b (suc s) n)
  where
    go : (v : Bool) → eqb b s ≡ v → (suc s ≤ b → b < suc s + n → any_of (eqb b) (from (suc s) n) ≡ true) → any_of (eqb b) (from s (suc n)) ≡ true
    go true e ih = rw e
    go false e ih = rw e (ih (omega (arith, eqb-false b s e)) (omega arith))

pub All-from : (P : ℕ → Type 0) (s n : ℕ) → ((b : ℕ) → s ≤ b → b < s + n → P b) → All P (from s n)
unfolding from
All-from P s zero h = tt
All-from P s (suc n) h = (h s (omega arith) (omega arith), All-from P (suc s) n (λ b l k. h b (omega arith) (omega arith)))

pub Mem-from : (b s n : ℕ) → s ≤ b → b < s + n → Mem b (from s n)
Mem-from b s n h k = any-Mem exact-eqb b (from s n) (from-inside b s n h k)

-- what every number below n passes, each one passes
pub every-below : (t : ℕ → Bool) (n : ℕ) → every t (from 0 n) ≡ true → (k : ℕ) → k < n → t k ≡ true
every-below t n e k l = every-at (λ i. t i ≡ true) t eqb k (λ y s h. ap t (eqb-true k y s) ∙ h) (from 0 n) e (from-inside k 0 n (omega arith) (omega arith))

-- one of the numbers' images
pub get_d-from : {A : Type 0} (f : ℕ → A) (d : A) (s n k : ℕ) → k < n → get_or (map f (from s n)) k d ≡ f (s + k)
unfolding from
get_d-from f d s zero k l = absurd (omega arith)
get_d-from f d s (suc n) zero l = let z : s ≡ s + 0 = omega arith in ap f z
get_d-from f d s (suc n) (suc k) l = let z : suc s + k ≡ s + suc k = omega arith in get_d-from f d (suc s) n k (omega arith) ∙ ap f z

-- some number passes: there is one, or none does
pub any-from : (t : ℕ → Bool) (s n : ℕ) → any_of t (from s n) ≡ true → (x : ℕ) × (s ≤ x) × (x < s + n) × (t x ≡ true)
any-from t s n h =
    let k = any_some t (from s n) h in
    let l = All-Mem (λ x. (s ≤ x) × (x < s + n)) (from s n) (All-from _ s n (λ x a b. (a, b))) k.0 k.1 in
    (k.0, l.0, l.1, k.2)

pub from-any : (t : ℕ → Bool) (s n x : ℕ) → s ≤ x → x < s + n → t x ≡ true → any_of t (from s n) ≡ true
from-any t s n x l k h = some-any t x (from s n) (Mem-from x s n l k) h

pub from-none : (t : ℕ → Bool) (s n : ℕ) → ((x : ℕ) → s ≤ x → x < s + n → t x ≡ false) → any_of t (from s n) ≡ false
from-none t s n h = not-true (any_of t (from s n)) (λ e. let k = any-from t s n e in true≢false (sym k.3 ∙ h k.0 k.1 k.2))

-- rising numbers: below a higher bound, with the bound itself behind them, and how many there are at most
pub rises-more : (s n : ℕ) (ks : List ℕ) → Rises s n ks → Rises s (suc n) ks
rises-more s n [] h = tt
rises-more s n (k ∷ ks) h = (h.0, omega (arith, h.1), rises-more (suc k) n ks h.2)

pub rises-last : (s n : ℕ) (ks : List ℕ) → s ≤ n → Rises s n ks → Rises s (suc n) (ks ++ (n ∷ []))
rises-last s n [] l h = (l, omega arith, tt)
rises-last s n (k ∷ ks) l h = (h.0, omega (arith, h.1), rises-last (suc k) n ks (omega (arith, h.1)) h.2)

pub rises-few : (s n : ℕ) (ks : List ℕ) → s ≤ n → Rises s n ks → s + length ks ≤ n
rises-few s n [] l h = omega arith
rises-few s n (k ∷ ks) l h = omega (arith, h.0, rises-few (suc k) n ks (omega (arith, h.1)) h.2)

-- at most as large, or larger
pub at_most : (x y : ℕ) → (x ≤ y) ⊎ (y < x)
at_most x y = go (ltb y x) refl
  where
    go : (t : Bool) → ltb y x ≡ t → (x ≤ y) ⊎ (y < x)
    go true e = inr (ltb-true y x e)
    go false e = inl (ltb-false y x e)

-- below, there or above
pub order : (x y : ℕ) → (x < y) ⊎ ((x ≡ y) ⊎ (y < x))
order x y = go (ltb x y) refl (eqb x y) refl
  where
    go : (s : Bool) → ltb x y ≡ s → (t : Bool) → eqb x y ≡ t → (x < y) ⊎ ((x ≡ y) ⊎ (y < x))
    go true e t f = inl (ltb-true x y e)
    go false e true f = inr (inl (eqb-true x y f))
    go false e false f = inr (inr (omega (arith, ltb-false x y e, eqb-false x y f)))

-- a fact of each of the numbers from a first one on
pub from-All : (P : ℕ → Type 0) (s n : ℕ) → All P (from s n) → (x : ℕ) → s ≤ x → x < s + n → P x
unfolding from
from-All P s zero h x l k = absurd (omega arith)
from-All P s (suc n) h x l k = go (order x s) (from-All P (suc s) n h.1 x)
  where
    go : (x < s) ⊎ ((x ≡ s) ⊎ (s < x)) → (suc s ≤ x → x < suc s + n → P x) → P x
    go (inl a) ih = absurd (omega arith)
    go (inr (inl e)) ih = rw e h.0
    go (inr (inr a)) ih = ih a (omega arith)

pub map-from : {B : Type 0} (f g : ℕ → B) (s n : ℕ) → ((k : ℕ) → s ≤ k → k < s + n → f k ≡ g k) → map f (from s n) ≡ map g (from s n)
unfolding from
map-from f g s zero h = refl
map-from f g s (suc n) h = ap₂ ◌∷◌ (h s (omega arith) (omega arith)) (map-from f g (suc s) n (λ k l m. h k (omega arith) (omega arith)))

-- the first number that has an answer
pub first-at : {B : Type 0} (t : ℕ → Option B) (b : B) (k s n : ℕ) → s ≤ k → k < s + n → ((j : ℕ) → s ≤ j → j < k → t j ≡ none) → t k ≡ some b → first_of t (from s n) ≡ some b
unfolding first_of from
first-at t b k s zero l m h e = absurd (omega arith)
first-at t b k s (suc n) l m h e = go (eqb s k) refl (first-at t b k (suc s) n)
  where
    go : (q : Bool) → eqb s k ≡ q → (suc s ≤ k → k < suc s + n → ((j : ℕ) → suc s ≤ j → j < k → t j ≡ none) → t k ≡ some b → first_of t (from (suc s) n) ≡ some b)
        → first_of t (from s (suc n)) ≡ some b
    go true q ih = rw (ap t (eqb-true s k q) ∙ e, first_of) refl
    go false q ih =
        let ne = eqb-false s k q in
        rw (h s (omega arith) (omega (arith, ne)), first_of) (ih (omega (arith, ne)) (omega arith) (λ j a c. h j (omega arith) c) e)

pub first-none : {B : Type 0} (t : ℕ → Option B) (s n : ℕ) → ((j : ℕ) → s ≤ j → j < s + n → t j ≡ none) → first_of t (from s n) ≡ none
unfolding first_of from
first-none t s zero h = refl
first-none t s (suc n) h = rw (h s (omega arith) (omega arith), first_of) (first-none t (suc s) n (λ j a b. h j (omega arith) (omega arith)))

-- one of the numbers below n is the first that passes, or none of them does
abbrev pub FirstBelow : (ℕ → Bool) → ℕ → Type 0
FirstBelow t n = (k : ℕ) × (k < n) × (t k ≡ true) × ((j : ℕ) → j < k → t j ≡ false)

pub first-cases : (t : ℕ → Bool) (n : ℕ) → FirstBelow t n ⊎ ((j : ℕ) → j < n → t j ≡ false)
first-cases t zero = inr (λ j l. absurd (omega arith))
first-cases t (suc n) = go (first-cases t n) (t n) refl
  where
    go : FirstBelow t n ⊎ ((j : ℕ) → j < n → t j ≡ false) → (b : Bool) → t n ≡ b → FirstBelow t (suc n) ⊎ ((j : ℕ) → j < suc n → t j ≡ false)
    go (inl k) b e = inl (k.0, omega (arith, k.1), k.2, k.3)
    go (inr h) true e = inl (n, omega arith, e, h)
    go (inr h) false e = inr (λ j l. below_more (λ i. t i ≡ false) n h e j (omega arith))
