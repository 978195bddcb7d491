-- A popped set is a part of the dimensions, and none of its lists is empty. Rests on the lists' laws.
use mathlib.Core.Path.{◌≡◌, refl}
use mathlib.Core.List.{List, [], ◌∷◌}
use mathlib.Core.Option.{Option, none, some}
use mathlib.Core.Bool.{Bool, true, false}
use Prim.Native.Nat.{ℕ, zero, suc}
use Rattle.laws.specs.Lists.{first_of, keep, All, OnSome}
use Rattle.laws.proofs.Lists.{OnSome-first_of, All-append, All-each}
use Rattle.grid.specs.Group.{Set, Map, at, Group, agree, grow, pop, take_out, sweep_for, sweep, groups, size, clear}

-- each list of S is a part of the dimension in its place
abbrev pub Part : {A : Type 0} → Set A → Set A → Type 0
Part [] [] = Unit {0}
Part [] (E ∷ S) = ⊥
Part (D ∷ Ds) [] = ⊥
Part {A} (D ∷ Ds) (E ∷ S) = ((t : A → Bool) × (E ≡ keep t D)) × Part Ds S

module _ {A W : Type 0} (eq : W → W → Bool) (ok : W → Bool) where
  pub pop-part : (Ds : Set A) (f : Map A W) → OnSome (λ g. Part Ds g.1) (pop eq ok Ds f)
  unfolding pop grow
  pop-part [] f = go (ok (f [])) refl
    where
      go : (b : Bool) → ok (f []) ≡ b → OnSome (λ g. Part [] g.1) (pop eq ok [] f)
      go true e = rw (e, pop) tt
      go false e = rw (e, pop) tt
  pop-part (D ∷ Ds) f =
      go (first_of (λ x. pop eq ok Ds (at f x)) D) (OnSome-first_of (λ g. Part Ds g.1) (λ x. pop eq ok Ds (at f x)) (λ x. pop-part Ds (at f x)) D)
    where
      go : (o : Option (Group A W)) → OnSome (λ g. Part Ds g.1) o → OnSome (λ g. Part (D ∷ Ds) g.1) (grow eq D f o)
      go none h = tt
      go (some g) h = ((λ x. agree eq g.0 g.1 (at f x), refl), h)

-- What holds of every group that is popped for a class holds of all groups of these classes. R says what is known of a class, Q of a map.
module _ {A W : Type 0} (eq : W → W → Bool) (same : A → A → Bool) (empty : W) (Ds : Set A)
    (R : (W → Bool) → Type 0) (P : Group A W → Type 0) (Q : Map A W → Type 0)
    (popped : (ok : W → Bool) → R ok → (f : Map A W) → Q f → OnSome P (pop eq ok Ds f))
    (cleared : (S : Set A) (f : Map A W) → Q f → Q (clear same empty S f)) where
  sweep-each : (n : ℕ) (ok : W → Bool) → R ok → (f : Map A W) → Q f
      → All P (sweep_for eq same empty n ok Ds f).0 × Q (sweep_for eq same empty n ok Ds f).1
  unfolding sweep_for take_out
  sweep-each zero ok r f q = (tt, q)
  sweep-each (suc n) ok r f q = go (pop eq ok Ds f) (popped ok r f q) (λ f'. sweep-each n ok r f')
    where
      go : (o : Option (Group A W)) → OnSome P o
          → ((f' : Map A W) → Q f' → All P (sweep_for eq same empty n ok Ds f').0 × Q (sweep_for eq same empty n ok Ds f').1)
          → All P (take_out eq same empty f (λ f'. sweep_for eq same empty n ok Ds f') o).0
          × Q (take_out eq same empty f (λ f'. sweep_for eq same empty n ok Ds f') o).1
      go none h ih = (tt, q)
      go (some g) h ih = let k = ih (clear same empty g.1 f) (cleared g.1 f q) in ((h, k.0), k.1)

  pub groups-each : (oks : List (W → Bool)) → All R oks → (f : Map A W) → Q f → All P (groups eq same empty oks Ds f)
  unfolding groups sweep
  groups-each [] r f q = tt
  groups-each (ok ∷ oks) r f q =
      let k = sweep-each (size Ds) ok r.0 f q in
      All-append P (sweep eq same empty ok Ds f).0 _ k.0 (groups-each oks r.1 (sweep eq same empty ok Ds f).1 k.1)

pub groups-part : {A W : Type 0} (eq : W → W → Bool) (same : A → A → Bool) (empty : W) (Ds : Set A) (oks : List (W → Bool)) (f : Map A W)
    → All (λ g. Part Ds g.1) (groups eq same empty oks Ds f)
groups-part eq same empty Ds oks f =
    groups-each eq same empty Ds (λ ok. Unit {0}) (λ g. Part Ds g.1) (λ f'. Unit {0}) (λ ok r f' q. pop-part eq ok Ds f') (λ S f' q. tt)
    oks (All-each _ (λ ok. tt) oks) f tt
