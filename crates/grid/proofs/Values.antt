-- The values of all points of a set: some value passes just where some point's does; so each is some point's, and each point's is one of them; and how
-- many different ones there are rests on which are met.
use mathlib.Core.Path.{◌≡◌, refl, ap, ◌∙◌, sym}
use mathlib.Core.List.{List, [], ◌∷◌, map, flat_map, map-append, map-map}
use mathlib.Core.Bool.{Bool, true, false, ◌||◌, true≢false}
use Prim.Native.Nat.{ℕ, ◌*◌}
use native.Mathlib.Omega.{arith}
use lib.ListN.{length, length-append, length-map}
use Rattle.laws.specs.Lists.{any_of, keep, distinct, Mem}
use Rattle.laws.specs.Tests.{Exact}
use Rattle.laws.proofs.Flags.{or-false}
use Rattle.laws.proofs.Lists.{All-each, any_same, any_of-append, Mem-any, any-Mem}
use Rattle.laws.proofs.Distinct.{distinct-same}
use Rattle.grid.specs.Group.{Set, Map, at, size, points_of, somewhere, inside}
use Rattle.grid.proofs.Value.{somewhere-some, somewhere-none}

any-spread : {A B W : Type 0} (t : W → Bool) (f : B → W) (h : A → List B) (D : List A) → any_of t (map f (flat_map h D)) ≡ any_of (λ x. any_of t (map f (h x))) D
unfolding any_of flat_map
any-spread t f h [] = refl
any-spread t f h (x ∷ D) =
    ap (any_of t) (map-append f (h x) (flat_map h D)) ∙ any_of-append t (map f (h x)) (map f (flat_map h D)) ∙ ap (any_of t (map f (h x)) ||◌) (any-spread t f h D)

pub any-points : {A W : Type 0} (t : W → Bool) (Ds : Set A) (f : Map A W) → any_of t (map f (points_of Ds)) ≡ somewhere Ds (λ p. t (f p))
unfolding any_of points_of somewhere
any-points t [] f = or-false (t (f []))
any-points t (D ∷ Ds) f =
    any-spread t f (λ x. map (x ∷◌) (points_of Ds)) D
    ∙ any_same _ _ D (All-each _ (λ x. ap (any_of t) (map-map f (x ∷◌) (points_of Ds)) ∙ any-points t Ds (at f x)) D)

-- there are as many points as the set's size says
rows-many : {A B : Type 0} (f : A → List B) (n : ℕ) (D : List A) → ((x : A) → length (f x) ≡ n) → length (flat_map f D) ≡ length D * n
unfolding flat_map
rows-many f n [] h = omega arith
rows-many f n (x ∷ D) h = omega (arith, length-append (f x) (flat_map f D), h x, rows-many f n D h)

pub points-many : {A : Type 0} (Ds : Set A) → length (points_of Ds) ≡ size Ds
unfolding points_of size
points-many [] = refl
points-many (D ∷ Ds) = rows-many (λ x. map (x ∷◌) (points_of Ds)) (size Ds) D (λ x. length-map (points_of Ds) (x ∷◌) ∙ points-many Ds)

-- each value is some point's, and each point's value is one of them
module _ {A W : Type 0} {same_coordinate : A → A → Bool} (exact-coordinate : Exact same_coordinate) {same : W → W → Bool} (exact : Exact same) (Ds : Set A) (f : Map A W) where
  pub value-point : (w : W) → Mem w (map f (points_of Ds)) → (p : List A) × (inside same_coordinate Ds p ≡ true) × (w ≡ f p)
  value-point w m =
      let k = somewhere-some exact-coordinate Ds (λ p. same w (f p)) (sym (any-points (same w) Ds f) ∙ Mem-any exact w (map f (points_of Ds)) m) in
      (k.0, k.1, exact.equal w (f k.0) k.2)

  pub point-value : (p : List A) → inside same_coordinate Ds p ≡ true → Mem (f p) (map f (points_of Ds))
  point-value p i = any-Mem exact (f p) (map f (points_of Ds)) (any-points (same (f p)) Ds f ∙ go (somewhere Ds (λ q. same (f p) (f q))) refl)
    where
      go : (b : Bool) → somewhere Ds (λ q. same (f p) (f q)) ≡ b → b ≡ true
      go true e = refl
      go false e = absurd (true≢false (sym (exact.self (f p)) ∙ somewhere-none exact-coordinate Ds (λ q. same (f p) (f q)) e p i))

-- AS MANY DIFFERENT VALUES over one set as over another, where each value is met in both or in neither
pub values-counted : {A B W : Type 0} {same : W → W → Bool} → Exact same → (t : W → Bool) (Ds : Set A) (f : Map A W) (Es : Set B) (g : Map B W)
    → ((w : W) → somewhere Ds (λ p. same w (f p)) ≡ somewhere Es (λ q. same w (g q)))
    → length (distinct same (keep t (map f (points_of Ds)))) ≡ length (distinct same (keep t (map g (points_of Es))))
values-counted {same = same} exact t Ds f Es g h =
    distinct-same exact t (map f (points_of Ds)) (map g (points_of Es))
    (λ w m _. any-Mem exact w (map g (points_of Es)) (sym (both w) ∙ Mem-any exact w (map f (points_of Ds)) m))
    (λ w m _. any-Mem exact w (map f (points_of Ds)) (both w ∙ Mem-any exact w (map g (points_of Es)) m))
  where
    both : (w : _) → any_of (same w) (map f (points_of Ds)) ≡ any_of (same w) (map g (points_of Es))
    both w = any-points (same w) Ds f ∙ h w ∙ sym (any-points (same w) Es g)
