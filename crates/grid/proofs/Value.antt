-- A popped group has one value on its whole set; where none is popped, no point matches; and each pop leaves fewer that do.
-- Rests on the lists' laws.
use mathlib.Core.Path.{◌≡◌, refl, sym, subst}
use mathlib.Core.List.{List, [], ◌∷◌}
use mathlib.Core.Option.{Option, none, some}
use mathlib.Core.Bool.{Bool, true, false, ◌&&◌, cond, false≢true}
use Prim.Native.Nat.{ℕ, ◌≤◌, ◌<◌}
use native.Mathlib.Omega.{arith}
use Rattle.laws.specs.Lists.{first_of, any_of, keep, sum, All, Mem, Filled, OnSome, OnNone}
use Rattle.laws.specs.Tests.{Exact}
use Rattle.laws.proofs.Flags.{split-and, both-and}
use Rattle.laws.proofs.Lists.{every-keep, every-at, OnSome-map, OnSome-first_of, first_of-from, first_of-none, Mem-keep, Mem-any, any-Mem, any_none, any_some, sum-le, sum_less, sum_same}
use Rattle.grid.specs.Group.{Set, Map, at, Group, size, somewhere, inside, agree, grow, pop, clear}

module _ {A W : Type 0} {eq : W → W → Bool} (exact : Exact eq) (ok : W → Bool) where
  -- a group's points have its value, and the value matches
  pub pop-agree : (Ds : Set A) (f : Map A W) → OnSome (λ g. (agree eq g.0 g.1 f ≡ true) × (ok g.0 ≡ true)) (pop eq ok Ds f)
  unfolding pop grow agree
  pop-agree [] f = go (ok (f [])) refl
    where
      go : (b : Bool) → ok (f []) ≡ b → OnSome (λ g. (agree eq g.0 g.1 f ≡ true) × (ok g.0 ≡ true)) (pop eq ok [] f)
      go true e = rw (e, pop) (exact.self (f []), e)
      go false e = rw (e, pop) tt
  pop-agree (D ∷ Ds) f =
      go (first_of (λ x. pop eq ok Ds (at f x)) D)
      (OnSome-first_of (λ g. ok g.0 ≡ true) (λ x. pop eq ok Ds (at f x)) (λ x. OnSome-map (λ g k. k.1) (pop eq ok Ds (at f x)) (pop-agree Ds (at f x))) D)
    where
      go : (o : Option (Group A W)) → OnSome (λ g. ok g.0 ≡ true) o → OnSome (λ g. (agree eq g.0 g.1 f ≡ true) × (ok g.0 ≡ true)) (grow eq D f o)
      go none h = tt
      go (some g) h = (every-keep (λ x. agree eq g.0 g.1 (at f x)) D, h)

  -- the coordinate at which a group was found is in it
  found_in : (D : List A) (Ds : Set A) (f : Map A W) (g : Group A W) (x : A) → Mem x D → pop eq ok Ds (at f x) ≡ some g
      → Mem x (keep (λ y. agree eq g.0 g.1 (at f y)) D)
  found_in D Ds f g x m e =
      Mem-keep (λ y. agree eq g.0 g.1 (at f y)) x D m
      (subst (λ o. OnSome (λ r. (agree eq r.0 r.1 (at f x) ≡ true) × (ok r.0 ≡ true)) o) e (pop-agree Ds (at f x))).0

  -- no list of a popped set is empty
  pub pop-filled : (Ds : Set A) (f : Map A W) → OnSome (λ g. All Filled g.1) (pop eq ok Ds f)
  unfolding pop grow
  pop-filled [] f = go (ok (f [])) refl
    where
      go : (b : Bool) → ok (f []) ≡ b → OnSome (λ g. All Filled g.1) (pop eq ok [] f)
      go true e = rw (e, pop) tt
      go false e = rw (e, pop) tt
  pop-filled (D ∷ Ds) f = go (first_of (λ x. pop eq ok Ds (at f x)) D) (first_of-from (λ x. pop eq ok Ds (at f x)) D) (λ x. pop-filled Ds (at f x))
    where
      full : (x : A) (E : List A) → Mem x E → Filled E
      full x [] m = unfold Mem in m
      full x (y ∷ E) m = tt

      go : (o : Option (Group A W)) → OnSome (λ g. (x : A) × Mem x D × (pop eq ok Ds (at f x) ≡ some g)) o
          → ((x : A) → OnSome (λ g. All Filled g.1) (pop eq ok Ds (at f x))) → OnSome (λ g. All Filled g.1) (grow eq D f o)
      go none h ih = tt
      go (some g) h ih = (full h.0 _ (found_in D Ds f g h.0 h.1 h.2), subst (λ o. OnSome (λ r. All Filled r.1) o) h.2 (ih h.0))

module _ {A W : Type 0} {eq : W → W → Bool} (exact : Exact eq) {same : A → A → Bool} (Exact-same : Exact same) where
  -- in a set that agrees, each point has the value
  pub agree-inside : (v : W) (S : Set A) (f : Map A W) (p : List A) → agree eq v S f ≡ true → inside same S p ≡ true → f p ≡ v
  unfolding agree inside
  agree-inside v [] f [] h i = exact.equal (f []) v h
  agree-inside v [] f (x ∷ p) h i = absurd (false≢true i)
  agree-inside v (E ∷ S) f [] h i = absurd (false≢true i)
  agree-inside v (E ∷ S) f (x ∷ p) h i =
      let k = split-and (any_of (same x) E) (inside same S p) i in
      every-at (λ y. f (y ∷ p) ≡ v) (λ y. agree eq v S (at f y)) same x
      (λ y s t. agree-inside v S (at f x) p (rw (Exact-same.equal x y s) t) k.1) E h k.0

module _ {A W : Type 0} (same : A → A → Bool) (empty : W) where
  -- what emptying does at a point
  pub clear-value : (S : Set A) (f : Map A W) (p : List A) → clear same empty S f p ≡ cond (inside same S p) empty (f p)
  unfolding clear inside
  clear-value [] f [] = refl
  clear-value [] f (x ∷ p) = refl
  clear-value (E ∷ S) f [] = refl
  clear-value (E ∷ S) f (x ∷ p) = go (any_of (same x) E) (clear-value S (at f x) p)
    where
      go : (b : Bool) → clear same empty S (at f x) p ≡ cond (inside same S p) empty (f (x ∷ p))
          → cond b (clear same empty S (at f x)) (at f x) p ≡ cond (b && inside same S p) empty (f (x ∷ p))
      go true ih = ih
      go false ih = refl

-- a popped value is the map's at some point of the dimensions
module _ {A W : Type 0} (eq : W → W → Bool) {same : A → A → Bool} (Exact-same : Exact same) (ok : W → Bool) (P : W → Type 0) where
  pub pop-inside : (Ds : Set A) (f : Map A W) → ((p : List A) → inside same Ds p ≡ true → P (f p)) → OnSome (λ g. P g.0) (pop eq ok Ds f)
  unfolding pop grow inside
  pop-inside [] f h = go (ok (f [])) refl
    where
      go : (b : Bool) → ok (f []) ≡ b → OnSome (λ g. P g.0) (pop eq ok [] f)
      go true e = rw (e, pop) (h [] refl)
      go false e = rw (e, pop) tt
  pop-inside (D ∷ Ds) f h = go (first_of (λ x. pop eq ok Ds (at f x)) D) (first_of-from (λ x. pop eq ok Ds (at f x)) D) (λ x. pop-inside Ds (at f x))
    where
      go : (o : Option (Group A W)) → OnSome (λ g. (x : A) × Mem x D × (pop eq ok Ds (at f x) ≡ some g)) o
          → ((x : A) → ((p : List A) → inside same Ds p ≡ true → P (f (x ∷ p))) → OnSome (λ g. P g.0) (pop eq ok Ds (at f x)))
          → OnSome (λ g. P g.0) (grow eq D f o)
      go none k ih = tt
      go (some g) k ih =
          subst (λ o. OnSome (λ q. P q.0) o) k.2
          (ih k.0 (λ p i. h (k.0 ∷ p) (both-and (any_of (same k.0) D) (inside same Ds p) (Mem-any Exact-same k.0 D k.1) i)))

-- ## How many points match
unfoldable pub tally : {A W : Type 0} → (W → Bool) → Set A → Map A W → ℕ
tally ok [] f = cond (ok (f [])) 1 0
tally ok (D ∷ Ds) f = sum (λ x. tally ok Ds (at f x)) D

pub tally-size : {A W : Type 0} (ok : W → Bool) (Ds : Set A) (f : Map A W) → tally ok Ds f ≤ size Ds
unfolding tally size
tally-size ok [] f = go (ok (f []))
  where
    go : (b : Bool) → cond b 1 0 ≤ 1
    go true = omega arith
    go false = omega arith
tally-size ok (D ∷ Ds) f = omega (arith, sum-le (λ x. tally ok Ds (at f x)) (λ x. size Ds) D (λ x. tally-size ok Ds (at f x)), sum_same (size Ds) D)

module _ {A W : Type 0} (same : A → A → Bool) (empty : W) (ok : W → Bool) (unmatched : ok empty ≡ false) where
  pub clear-le : (Ds S : Set A) (f : Map A W) → tally ok Ds (clear same empty S f) ≤ tally ok Ds f
  unfolding tally clear
  clear-le [] [] f = rw unmatched (omega arith)
  clear-le [] (E ∷ S) f = omega arith
  clear-le (D ∷ Ds) [] f = omega arith
  clear-le (D ∷ Ds) (E ∷ S) f =
      sum-le (λ x. tally ok Ds (at (clear same empty (E ∷ S) f) x)) (λ x. tally ok Ds (at f x)) D (λ x. go x (any_of (same x) E) (clear-le Ds S (at f x)))
    where
      go : (x : A) (b : Bool) → tally ok Ds (clear same empty S (at f x)) ≤ tally ok Ds (at f x)
          → tally ok Ds (cond b (clear same empty S (at f x)) (at f x)) ≤ tally ok Ds (at f x)
      go x true ih = ih
      go x false ih = omega arith

-- t is a test that every matching value passes, and the empty one does not
module _ {A W : Type 0} {eq : W → W → Bool} (exact : Exact eq) {same : A → A → Bool} (Exact-same : Exact same)
    (empty : W) (ok t : W → Bool) (passes : (v : W) → ok v ≡ true → t v ≡ true) (unmatched : t empty ≡ false) where
  -- a popped group leaves fewer points that pass
  pub pop-less : (Ds : Set A) (f : Map A W) → OnSome (λ g. tally t Ds (clear same empty g.1 f) < tally t Ds f) (pop eq ok Ds f)
  unfolding pop grow tally clear
  pop-less [] f = go (ok (f [])) refl
    where
      go : (b : Bool) → ok (f []) ≡ b → OnSome (λ g. tally t [] (clear same empty g.1 f) < tally t [] f) (pop eq ok [] f)
      go true e = rw (e, pop, unmatched, passes (f []) e) (omega arith)
      go false e = rw (e, pop) tt
  pop-less (D ∷ Ds) f = go (first_of (λ x. pop eq ok Ds (at f x)) D) (first_of-from (λ x. pop eq ok Ds (at f x)) D) (λ x. pop-less Ds (at f x))
    where
      go : (o : Option (Group A W)) → OnSome (λ g. (x : A) × Mem x D × (pop eq ok Ds (at f x) ≡ some g)) o
          → ((x : A) → OnSome (λ g. tally t Ds (clear same empty g.1 (at f x)) < tally t Ds (at f x)) (pop eq ok Ds (at f x)))
          → OnSome (λ g. tally t (D ∷ Ds) (clear same empty g.1 f) < tally t (D ∷ Ds) f) (grow eq D f o)
      go none h ih = tt
      go (some g) h ih =
          sum_less (λ x. tally t Ds (at (clear same empty (E ∷ g.1) f) x)) (λ x. tally t Ds (at f x)) h.0 D weak h.1 strict
        where
          E : List A
          E = keep (λ x. agree eq g.0 g.1 (at f x)) D

          weak : (x : A) → tally t Ds (at (clear same empty (E ∷ g.1) f) x) ≤ tally t Ds (at f x)
          weak x = pick (any_of (same x) E)
            where
              pick : (b : Bool) → tally t Ds (cond b (clear same empty g.1 (at f x)) (at f x)) ≤ tally t Ds (at f x)
              pick true = clear-le same empty t unmatched Ds g.1 (at f x)
              pick false = omega arith

          strict : tally t Ds (at (clear same empty (E ∷ g.1) f) h.0) < tally t Ds (at f h.0)
          strict = subst (λ b. tally t Ds (cond b (clear same empty g.1 (at f h.0)) (at f h.0)) < tally t Ds (at f h.0))
              (sym (Mem-any Exact-same h.0 E (found_in exact ok D Ds f g h.0 h.1 h.2)))
              (subst (λ o. OnSome (λ r. tally t Ds (clear same empty r.1 (at f h.0)) < tally t Ds (at f h.0)) o) h.2 (ih h.0))

module _ {A W : Type 0} (eq : W → W → Bool) {same : A → A → Bool} (Exact-same : Exact same) (ok : W → Bool) where
  -- nothing popped: no point matches
  pub pop-none : (Ds : Set A) (f : Map A W) → OnNone ((p : List A) → inside same Ds p ≡ true → ok (f p) ≡ false) (pop eq ok Ds f)
  unfolding pop grow inside
  pop-none [] f = go (ok (f [])) refl
    where
      go : (b : Bool) → ok (f []) ≡ b → OnNone ((p : List A) → inside same [] p ≡ true → ok (f p) ≡ false) (pop eq ok [] f)
      go true e = rw (e, pop) tt
      go false e = rw (e, pop) (λ p. elim p as (λ q. inside same [] q ≡ true → ok (f q) ≡ false) [ [] ↦ λ i. e | x ∷ q ↦ λ i. absurd (false≢true i) ])
  pop-none (D ∷ Ds) f = go (first_of (λ x. pop eq ok Ds (at f x)) D) (first_of-none (λ x. pop eq ok Ds (at f x)) D) (λ x. pop-none Ds (at f x))
    where
      go : (o : Option (Group A W)) → OnNone ((x : A) → Mem x D → pop eq ok Ds (at f x) ≡ none) o
          → ((x : A) → OnNone ((p : List A) → inside same Ds p ≡ true → ok (f (x ∷ p)) ≡ false) (pop eq ok Ds (at f x)))
          → OnNone ((p : List A) → inside same (D ∷ Ds) p ≡ true → ok (f p) ≡ false) (grow eq D f o)
      go none h ih = λ p. elim p as (λ q. inside same (D ∷ Ds) q ≡ true → ok (f q) ≡ false) [
        | [] ↦ λ i. absurd (false≢true i)
        | x ∷ q ↦ λ i.
            let k = split-and (any_of (same x) D) (inside same Ds q) i in
            subst (λ o. OnNone ((p : List A) → inside same Ds p ≡ true → ok (f (x ∷ p)) ≡ false) o) (h x (any-Mem Exact-same x D k.0)) (ih x) q k.1
      ]
      go (some g) h ih = tt

-- what passes somewhere passes at a point
pub somewhere-some : {A : Type 0} {same : A → A → Bool} → Exact same → (Ds : Set A) (t : Map A Bool) → somewhere Ds t ≡ true
    → (p : List A) × (inside same Ds p ≡ true) × (t p ≡ true)
unfolding somewhere inside
somewhere-some exact [] t h = ([], refl, h)
somewhere-some {A} {same} exact (D ∷ Ds) t h =
    let k = any_some (λ x. somewhere Ds (at t x)) D h in
    let m = somewhere-some exact Ds (at t k.0) k.2 in
    (k.0 ∷ m.0, both-and (any_of (same k.0) D) (inside same Ds m.0) (Mem-any exact k.0 D k.1) m.1, m.2)

-- where no point of a set passes, none does
pub somewhere-none : {A : Type 0} {same : A → A → Bool} → Exact same → (Ds : Set A) (t : Map A Bool) → somewhere Ds t ≡ false
    → (p : List A) → inside same Ds p ≡ true → t p ≡ false
unfolding somewhere inside
somewhere-none exact [] t h [] i = h
somewhere-none exact [] t h (x ∷ p) i = absurd (false≢true i)
somewhere-none exact (D ∷ Ds) t h [] i = absurd (false≢true i)
somewhere-none {A} {same} exact (D ∷ Ds) t h (x ∷ p) i =
    let k = split-and (any_of (same x) D) (inside same Ds p) i in
    somewhere-none exact Ds (at t x) (any_none (λ y. somewhere Ds (at t y)) x D h (any-Mem exact x D k.0)) p k.1
