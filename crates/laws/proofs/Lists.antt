-- Laws of the words on lists. Rests on the flags' laws.
use mathlib.Core.Path.{◌≡◌, refl, sym, ap, ap₂, ◌∙◌, subst}
use mathlib.Core.List.{List, [], ◌∷◌, ◌++◌, map}
use mathlib.Core.Logic.{inl, inr}
use mathlib.Core.Option.{Option, none, some}
use mathlib.Core.Bool.{Bool, true, false, ◌&&◌, ◌||◌, true≢false, false≢true}
use Prim.Native.Nat.{ℕ, zero, suc, ◌+◌, ◌*◌, ◌≤◌, ◌<◌}
use native.Mathlib.Omega.{arith}
use lib.ListN.{length, get_or, take}
use Rattle.laws.specs.Lists.{first_of, every, any_of, keep, sum, All, Mem, OnSome, OnNone}
use Rattle.laws.specs.Tests.{Exact}
use Rattle.laws.proofs.Flags.{and_assoc, or_assoc, split-and, both-and, split-or}

-- ## A fact of every element
pub All-map : {A : Type 0} {P Q : A → Type 0} → ((x : A) → P x → Q x) → (D : List A) → All P D → All Q D
All-map t [] h = tt
All-map t (x ∷ D) h = (t x h.0, All-map t D h.1)

pub All-map₂ : {A : Type 0} {P Q R : A → Type 0} → ((x : A) → P x → Q x → R x) → (D : List A) → All P D → All Q D → All R D
All-map₂ t [] h k = tt
All-map₂ t (x ∷ D) h k = (t x h.0 k.0, All-map₂ t D h.1 k.1)

pub All-each : {A : Type 0} (P : A → Type 0) → ((x : A) → P x) → (D : List A) → All P D
All-each P h [] = tt
All-each P h (x ∷ D) = (h x, All-each P h D)

-- it holds of the element at a place; and of whatever is read, where it holds of the default too
pub All-at : {A : Type 0} (P : A → Type 0) (xs : List A) (d : A) → All P xs → (k : ℕ) → k < length xs → P (get_or xs k d)
All-at P [] d h k l = absurd (omega arith)
All-at P (x ∷ xs) d h zero l = h.0
All-at P (x ∷ xs) d h (suc k) l = All-at P xs d h.1 k (omega arith)

pub All-read : {A : Type 0} (P : A → Type 0) (d : A) → P d → (xs : List A) → All P xs → (k : ℕ) → P (get_or xs k d)
All-read P d h [] k i = h
All-read P d h (x ∷ xs) k zero = k.0
All-read P d h (x ∷ xs) k (suc i) = All-read P d h xs k.1 i

pub All-append : {A : Type 0} (P : A → Type 0) (xs ys : List A) → All P xs → All P ys → All P (xs ++ ys)
All-append P [] ys h k = k
All-append P (x ∷ xs) ys h k = (h.0, All-append P xs ys h.1 k)

pub All-take : {A : Type 0} (P : A → Type 0) (n : ℕ) (xs : List A) → All P xs → All P (take n xs)
All-take P zero xs h = tt
All-take P (suc n) [] h = tt
All-take P (suc n) (x ∷ xs) h = (h.0, All-take P n xs h.1)

pub All-keep : {A : Type 0} (P : A → Type 0) (t : A → Bool) (D : List A) → All P D → All P (keep t D)
unfolding keep
All-keep P t [] h = tt
All-keep P t (x ∷ D) h = go (t x) refl (All-keep P t D h.1)
  where
    go : (b : Bool) → t x ≡ b → All P (keep t D) → All P (keep t (x ∷ D))
    go true e ih = rw (e, keep) (h.0, ih)
    go false e ih = rw (e, keep) ih

pub All-image : {A B : Type 0} (P : B → Type 0) (f : A → B) (xs : List A) → All (λ x. P (f x)) xs → All P (map f xs)
All-image P f [] h = tt
All-image P f (x ∷ xs) h = (h.0, All-image P f xs h.1)

pub image-All : {A B : Type 0} (P : B → Type 0) (f : A → B) (xs : List A) → All P (map f xs) → All (λ x. P (f x)) xs
image-All P f [] h = tt
image-All P f (x ∷ xs) h = (h.0, image-All P f xs h.1)

-- ## Every element, some element
pub every-all : {A : Type 0} (P : A → Type 0) (t : A → Bool) → ((x : A) → t x ≡ true → P x) → (xs : List A) → every t xs ≡ true → All P xs
unfolding every
every-all P t f [] h = tt
every-all P t f (x ∷ xs) h = let k = split-and (t x) (every t xs) h in (f x k.0, every-all P t f xs k.1)

pub all-every : {A : Type 0} (t : A → Bool) (xs : List A) → All (λ x. t x ≡ true) xs → every t xs ≡ true
unfolding every
all-every t [] h = refl
all-every t (x ∷ xs) h = both-and (t x) (every t xs) h.0 (all-every t xs h.1)

pub every_append : {A : Type 0} (t : A → Bool) (xs ys : List A) → every t (xs ++ ys) ≡ every t xs && every t ys
unfolding every
every_append t [] ys = refl
every_append t (x ∷ xs) ys = rw (every_append t xs ys) (sym (and_assoc (t x) (every t xs) (every t ys)))

pub every-keep : {A : Type 0} (t : A → Bool) (D : List A) → every t (keep t D) ≡ true
unfolding every keep
every-keep t [] = refl
every-keep t (x ∷ D) = go (t x) refl (every-keep t D)
  where
    go : (b : Bool) → t x ≡ b → every t (keep t D) ≡ true → every t (keep t (x ∷ D)) ≡ true
    go true e ih = rw (e, keep, e) ih
    go false e ih = rw (e, keep) ih

-- an element that the list has, as the test sees it, passes where every element does
pub every-at : {A : Type 0} (P : A → Type 0) (t : A → Bool) (same : A → A → Bool) (x : A) → ((y : A) → same x y ≡ true → t y ≡ true → P x)
    → (D : List A) → every t D ≡ true → any_of (same x) D ≡ true → P x
unfolding every any_of
every-at P t same x k [] e i = absurd (false≢true i)
every-at P t same x k (y ∷ D) e i = go (same x y) refl (every-at P t same x k D (split-and (t y) (every t D) e).1)
  where
    go : (b : Bool) → same x y ≡ b → (any_of (same x) D ≡ true → P x) → P x
    go true s ih = k y s (split-and (t y) (every t D) e).0
    go false s ih = ih (rw s at i)

pub any_same : {A : Type 0} (t u : A → Bool) (xs : List A) → All (λ x. t x ≡ u x) xs → any_of t xs ≡ any_of u xs
unfolding any_of
any_same t u [] h = refl
any_same t u (x ∷ xs) h = ap₂ ◌||◌ h.0 (any_same t u xs h.1)

pub any-map : {A B : Type 0} (t : B → Bool) (f : A → B) (xs : List A) → any_of t (map f xs) ≡ any_of (λ x. t (f x)) xs
unfolding any_of
any-map t f [] = refl
any-map t f (x ∷ xs) = ap (t (f x) ||◌) (any-map t f xs)

pub any_of-append : {A : Type 0} (t : A → Bool) (xs ys : List A) → any_of t (xs ++ ys) ≡ any_of t xs || any_of t ys
unfolding any_of
any_of-append t [] ys = refl
any_of-append t (x ∷ xs) ys = rw (any_of-append t xs ys) (sym (or_assoc (t x) (any_of t xs) (any_of t ys)))

pub any_of-either : {A : Type 0} (t u : A → Bool) (xs : List A) → any_of (λ x. t x || u x) xs ≡ any_of t xs || any_of u xs
unfolding any_of
any_of-either t u [] = refl
any_of-either t u (x ∷ xs) = rw (any_of-either t u xs) (go (t x) (u x) (any_of t xs) (any_of u xs))
  where
    go : (a b c d : Bool) → a || b || (c || d) ≡ a || c || (b || d)
    go true b c d = refl
    go false true true d = refl
    go false true false d = refl
    go false false c d = refl

-- ## The elements that pass
pub keep_append : {A : Type 0} (t : A → Bool) (xs ys : List A) → keep t (xs ++ ys) ≡ keep t xs ++ keep t ys
unfolding keep
keep_append t [] ys = refl
keep_append t (x ∷ xs) ys = go (t x) refl (keep_append t xs ys)
  where
    go : (b : Bool) → t x ≡ b → keep t (xs ++ ys) ≡ keep t xs ++ keep t ys → keep t (x ∷ xs ++ ys) ≡ keep t (x ∷ xs) ++ keep t ys
    go true e ih = rw (e, keep) (ap (x ∷◌) ih)
    go false e ih = rw (e, keep) ih

pub keep-less : {A : Type 0} (t : A → Bool) (xs : List A) → length (keep t xs) ≤ length xs
unfolding keep
keep-less t [] = omega arith
keep-less t (x ∷ xs) = go (t x) refl (keep-less t xs)
  where
    go : (b : Bool) → t x ≡ b → length (keep t xs) ≤ length xs → length (keep t (x ∷ xs)) ≤ suc (length xs)
    go true e ih = rw (e, keep) (omega arith)
    go false e ih = rw (e, keep) (omega arith)

pub keep_all : {A : Type 0} (t : A → Bool) (D : List A) → All (λ x. true ≡ t x) D → keep t D ≡ D
unfolding keep
keep_all t [] h = refl
keep_all t (x ∷ D) h = rw (← h.0, keep) (ap (x ∷◌) (keep_all t D h.1))

pub keep-none : {A : Type 0} (t : A → Bool) (D : List A) → All (λ x. false ≡ t x) D → keep t D ≡ []
unfolding keep
keep-none t [] h = refl
keep-none t (x ∷ D) h = rw (← h.0, keep) (keep-none t D h.1)

-- ## The first answer
pub OnSome-map : {A : Type 0} {P Q : A → Type 0} → ((x : A) → P x → Q x) → (o : Option A) → OnSome P o → OnSome Q o
OnSome-map t none h = tt
OnSome-map t (some x) h = t x h

pub OnSome-both : {A : Type 0} (P Q : A → Type 0) (o : Option A) → OnSome P o → OnSome Q o → OnSome (λ x. P x × Q x) o
OnSome-both P Q none h k = tt
OnSome-both P Q (some x) h k = (h, k)

pub OnSome-first_of : {A B : Type 0} (P : B → Type 0) (t : A → Option B) → ((x : A) → OnSome P (t x)) → (D : List A) → OnSome P (first_of t D)
unfolding first_of
OnSome-first_of P t h [] = tt
OnSome-first_of P t h (x ∷ D) = go (t x) refl (OnSome-first_of P t h D)
  where
    go : (o : Option _) → t x ≡ o → OnSome P (first_of t D) → OnSome P (first_of t (x ∷ D))
    go none e ih = rw (e, first_of) ih
    go (some b) e ih = rw (e, first_of) (rw e at (h x))

-- the first answer is some element's
pub first_of-from : {A B : Type 0} (t : A → Option B) (D : List A) → OnSome (λ b. (x : A) × Mem x D × (t x ≡ some b)) (first_of t D)
unfolding first_of Mem
first_of-from t [] = tt
first_of-from {A} {B} t (x ∷ D) = go (t x) refl (first_of-from t D)
  where
    go : (o : Option B) → t x ≡ o → OnSome (λ b. (y : A) × Mem y D × (t y ≡ some b)) (first_of t D)
        → OnSome (λ b. (y : A) × Mem y (x ∷ D) × (t y ≡ some b)) (first_of t (x ∷ D))
    go none e ih = rw (e, first_of) (OnSome-map (λ b k. (k.0, inr k.1, k.2)) (first_of t D) ih)
    go (some b) e ih = rw (e, first_of) (x, inl refl, e)

-- with no first answer, no element has one
pub first_of-none : {A B : Type 0} (t : A → Option B) (D : List A) → OnNone ((x : A) → Mem x D → t x ≡ none) (first_of t D)
unfolding first_of Mem
first_of-none t [] = λ x m. absurd m
first_of-none {A} {B} t (y ∷ D) = go (t y) refl (first_of-none t D)
  where
    go : (o : Option B) → t y ≡ o → OnNone ((x : A) → Mem x D → t x ≡ none) (first_of t D)
        → OnNone ((x : A) → Mem x (y ∷ D) → t x ≡ none) (first_of t (y ∷ D))
    go none e ih = rw (e, first_of) (more (first_of t D) ih)
      where
        more : (o : Option B) → OnNone ((x : A) → Mem x D → t x ≡ none) o → OnNone ((x : A) → Mem x (y ∷ D) → t x ≡ none) o
        more none h = λ x. elim [ inl q ↦ rw q e | inr m ↦ h x m ]
        more (some b) h = tt
    go (some b) e ih = rw (e, first_of) tt

-- ## Elements
pub Mem-keep : {A : Type 0} (t : A → Bool) (x : A) (D : List A) → Mem x D → t x ≡ true → Mem x (keep t D)
unfolding Mem keep
Mem-keep t x [] m e = m
Mem-keep t x (y ∷ D) (inl q) e = rw (rw q at e, keep) (inl q)
Mem-keep t x (y ∷ D) (inr m) e = go (t y) refl (Mem-keep t x D m e)
  where
    go : (b : Bool) → t y ≡ b → Mem x (keep t D) → Mem x (keep t (y ∷ D))
    go true k ih = rw (k, keep) (inr ih)
    go false k ih = rw (k, keep) ih

module _ {A : Type 0} {same : A → A → Bool} (exact : Exact same) where
  pub Mem-any : (x : A) (D : List A) → Mem x D → any_of (same x) D ≡ true
  unfolding Mem any_of
  Mem-any x [] m = absurd m
  Mem-any x (y ∷ D) (inl q) = rw (← q, exact.self x)
  Mem-any x (y ∷ D) (inr m) = rw (Mem-any x D m) (go (same x y))
    where
      go : (b : Bool) → b || true ≡ true
      go true = refl
      go false = refl

  pub any-Mem : (x : A) (D : List A) → any_of (same x) D ≡ true → Mem x D
  unfolding Mem any_of
  any-Mem x [] i = absurd (false≢true i)
  any-Mem x (y ∷ D) i = go (same x y) refl (any-Mem x D)
    where
      go : (b : Bool) → same x y ≡ b → (any_of (same x) D ≡ true → Mem x D) → Mem x (y ∷ D)
      go true e ih = inl (exact.equal x y e)
      go false e ih = inr (ih (rw e at i))

-- where no element passes, each one doesn't; and back
pub any-all : {A : Type 0} (t : A → Bool) (D : List A) → any_of t D ≡ false → All (λ x. t x ≡ false) D
unfolding any_of
any-all t [] h = tt
any-all t (x ∷ D) h = let k = split-or (t x) (any_of t D) h in (k.0, any-all t D k.1)

pub all_any : {A : Type 0} (t : A → Bool) (D : List A) → All (λ x. t x ≡ false) D → any_of t D ≡ false
unfolding any_of
all_any t [] h = refl
all_any t (x ∷ D) h = rw h.0 (all_any t D h.1)

pub any_none : {A : Type 0} (t : A → Bool) (x : A) (D : List A) → any_of t D ≡ false → Mem x D → t x ≡ false
unfolding any_of Mem
any_none t x [] h m = absurd m
any_none t x (y ∷ D) h (inl q) = rw q (split-or (t y) (any_of t D) h).0
any_none t x (y ∷ D) h (inr k) = any_none t x D (split-or (t y) (any_of t D) h).1 k

-- some element passes where one does; and then there is one
pub some-any : {A : Type 0} (t : A → Bool) (x : A) (D : List A) → Mem x D → t x ≡ true → any_of t D ≡ true
some-any t x D m e = go (any_of t D) refl
  where
    go : (b : Bool) → any_of t D ≡ b → any_of t D ≡ true
    go true h = h
    go false h = absurd (true≢false (sym e ∙ any_none t x D h m))

pub any_some : {A : Type 0} (t : A → Bool) (D : List A) → any_of t D ≡ true → (x : A) × Mem x D × (t x ≡ true)
unfolding any_of Mem
any_some t [] h = absurd (false≢true h)
any_some {A} t (y ∷ D) h = go (t y) refl (any_some t D)
  where
    go : (b : Bool) → t y ≡ b → (any_of t D ≡ true → (x : A) × Mem x D × (t x ≡ true)) → (x : A) × Mem x (y ∷ D) × (t x ≡ true)
    go true e ih = (y, inl refl, e)
    go false e ih = let k = ih (rw e at h) in (k.0, inr k.1, k.2)

pub Mem-map : {A B : Type 0} (f : A → B) (x : A) (D : List A) → Mem x D → Mem (f x) (map f D)
unfolding Mem
Mem-map f x [] m = m
Mem-map f x (y ∷ D) (inl e) = inl (ap f e)
Mem-map f x (y ∷ D) (inr m) = inr (Mem-map f x D m)

pub Mem-left : {A : Type 0} (x : A) (D E : List A) → Mem x D → Mem x (D ++ E)
unfolding Mem
Mem-left x [] E m = absurd m
Mem-left x (y ∷ D) E (inl q) = inl q
Mem-left x (y ∷ D) E (inr m) = inr (Mem-left x D E m)

pub Mem-right : {A : Type 0} (x : A) (D E : List A) → Mem x E → Mem x (D ++ E)
unfolding Mem
Mem-right x [] E m = m
Mem-right x (y ∷ D) E m = inr (Mem-right x D E m)

-- a fact of every element, and of whatever is one
pub Mem-All : {A : Type 0} (P : A → Type 0) (D : List A) → ((y : A) → Mem y D → P y) → All P D
unfolding Mem
Mem-All P [] h = tt
Mem-All P (y ∷ D) h = (h y (inl refl), Mem-All P D (λ z m. h z (inr m)))

pub All-Mem : {A : Type 0} (P : A → Type 0) (D : List A) → All P D → (y : A) → Mem y D → P y
unfolding Mem
All-Mem P [] h y m = absurd m
All-Mem P (z ∷ D) h y (inl q) = subst P (sym q) h.0
All-Mem P (z ∷ D) h y (inr m) = All-Mem P D h.1 y m

-- ## Sums
pub sum-le : {A : Type 0} (k h : A → ℕ) (D : List A) → ((x : A) → k x ≤ h x) → sum k D ≤ sum h D
unfolding sum
sum-le k h [] l = omega arith
sum-le k h (x ∷ D) l = omega (arith, l x, sum-le k h D l)

pub sum_less : {A : Type 0} (k h : A → ℕ) (x : A) (D : List A) → ((y : A) → k y ≤ h y) → Mem x D → k x < h x → sum k D < sum h D
unfolding sum Mem
sum_less k h x [] l m s = absurd m
sum_less k h x (y ∷ D) l (inl q) s = omega (arith, sum-le k h D l, rw q at s)
sum_less k h x (y ∷ D) l (inr m) s = omega (arith, l y, sum_less k h x D l m s)

pub sum_same : {A : Type 0} (n : ℕ) (D : List A) → sum (λ x. n) D ≡ length D * n
unfolding sum
sum_same n [] = omega arith
sum_same n (x ∷ D) = omega (arith, sum_same n D)

pub sum-append : {A : Type 0} (h : A → ℕ) (xs ys : List A) → sum h (xs ++ ys) ≡ sum h xs + sum h ys
unfolding sum
sum-append h [] ys = omega arith
sum-append h (x ∷ xs) ys = omega (arith, sum-append h xs ys)
