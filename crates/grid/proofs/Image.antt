-- THE COMPRESSION LAW. Let each coarse coordinate stand for a block of fine ones, each dimension with blocks of its own, and let
-- values be renamed one to one where they are in use: then the groups of the coarse map, imaged, are the groups of the fine one.
-- It carries boxes to points, interval numbers to boxes, day numbers to days, and intervals of minutes to minutes.
-- Rests on the laws of `flat_map` and of steps.
use mathlib.Core.Path.{◌≡◌, refl, sym, ap, ap₂, ◌∙◌, subst}
use mathlib.Core.List.{List, [], ◌∷◌, ◌++◌, map, flat_map, map-append}
use mathlib.Core.Option
use mathlib.Core.Option.{Option, none, some}
use mathlib.Core.Bool.{Bool, true, false, ◌||◌, cond}
use Prim.Native.Nat.{ℕ, zero, suc, ◌≤◌}
use native.Mathlib.Nat.{mul-le-mul_left, mul-le-mul_right}
use native.Mathlib.Omega.{arith}
use lib.ListN.{length, length-append}
use Rattle.laws.specs.Lists.{first_of, any_of, keep, All, Filled, OnSome}
use Rattle.laws.specs.Tests.{Exact}
use Rattle.laws.proofs.Lists.{All-map, All-map₂, All-keep, OnSome-both, OnSome-first_of, any_of-append}
use Rattle.laws.proofs.Spread.{every-spread, any-spread, keep-spread, first_of-spread}
use Rattle.grid.specs.Group.{Set, Map, at, Group, size, somewhere, agree, grow, pop, clear, Swept, take_out, sweep_for, sweep, groups}
use Rattle.grid.proofs.Part.{Part, pop-part}
use Rattle.grid.proofs.Steps.{sweep-enough}

-- ## Blocks, one dimension at a time
module _ {A B : Type 0} (block : A → List B) (same_a : A → A → Bool) (same_b : B → B → Bool) where
  -- the coordinate b lies in the block of a, and in no other block of the dimension
  abbrev pub In : List A → A → B → Type 0
  In D a b = All (λ c. same_a a c ≡ any_of (same_b b) (block c)) D

  -- the blocks of a dimension lie apart
  abbrev pub Apart : List A → Type 0
  Apart D = All (λ a. All (λ b. In D a b) (block a)) D

  -- then a kept coordinate and its block are in the kept set together
  In-keep : (t : A → Bool) (D : List A) (a : A) (b : B) → In D a b → any_of (same_a a) (keep t D) ≡ any_of (same_b b) (flat_map block (keep t D))
  unfolding any_of keep flat_map
  In-keep t [] a b h = refl
  In-keep t (c ∷ D) a b h = go (t c) refl (In-keep t D a b h.1)
    where
      go : (v : Bool) → t c ≡ v → any_of (same_a a) (keep t D) ≡ any_of (same_b b) (flat_map block (keep t D))
          → any_of (same_a a) (keep t (c ∷ D)) ≡ any_of (same_b b) (flat_map block (keep t (c ∷ D)))
      go true e ih = rw (e, keep) (ap₂ ◌||◌ h.0 ih ∙ sym (any_of-append (same_b b) (block c) (flat_map block (keep t D))))
      go false e ih = rw (e, keep) ih

-- ## All dimensions
-- a set with each coordinate replaced by its block
abbrev pub fines : {A B : Type 0} → List (A → List B) → Set A → Set B
fines [] Ds = []
fines (e ∷ es) [] = []
fines (e ∷ es) (D ∷ Ds) = flat_map e D ∷ fines es Ds

-- on each block the fine map is constant, with the coarse map's value renamed
abbrev pub Constants : {A B W X : Type 0} → (W → X) → List (A → List B) → Set A → Map A W → Map B X → Type 0
Constants r [] [] f g = r (f []) ≡ g []
Constants r [] (D ∷ Ds) f g = ⊥
Constants r (e ∷ es) [] f g = ⊥
Constants r (e ∷ es) (D ∷ Ds) f g = All (λ a. All (λ b. Constants r es Ds (at f a) (at g b)) (e a)) D

-- no block is empty
abbrev pub Fills : {A B : Type 0} → List (A → List B) → Type 0
Fills {A} es = All (λ e. (a : A) → Filled (e a)) es

-- in each dimension the blocks lie apart
abbrev pub Aparts : {A B : Type 0} → (A → A → Bool) → (B → B → Bool) → List (A → List B) → Set A → Type 0
Aparts same_a same_b [] [] = Unit {0}
Aparts same_a same_b [] (D ∷ Ds) = ⊥
Aparts same_a same_b (e ∷ es) [] = ⊥
Aparts same_a same_b (e ∷ es) (D ∷ Ds) = Apart e same_a same_b D × Aparts same_a same_b es Ds

-- a group, seen in the fine dimensions and by the new values
abbrev pub image : {A B W X : Type 0} → (W → X) → List (A → List B) → Group A W → Group B X
image r es g = (r g.0, fines es g.1)

-- there are no more coarse points than fine ones
size-fines : {A B : Type 0} (same_a : A → A → Bool) (same_b : B → B → Bool) (es : List (A → List B)) → Fills es
    → (Ds : Set A) → Aparts same_a same_b es Ds → size Ds ≤ size (fines es Ds)
unfolding size
size-fines same_a same_b [] l [] d = omega arith
size-fines same_a same_b [] l (D ∷ Ds) d = absurd d
size-fines same_a same_b (e ∷ es) l [] d = absurd d
size-fines {A} {B} same_a same_b (e ∷ es) l (D ∷ Ds) d =
    omega (arith, mul-le-mul_left (length D) (size-fines same_a same_b es l.1 Ds d.1), mul-le-mul_right (size (fines es Ds)) (longer D))
  where
    one : (bs : List B) → Filled bs → 1 ≤ length bs
    one [] f = absurd f
    one (b ∷ bs) f = omega arith

    longer : (E : List A) → length E ≤ length (flat_map e E)
    longer [] = omega arith
    longer (a ∷ E) = more (longer E)
      where
        more : length E ≤ length (flat_map e E) → length (a ∷ E) ≤ length (flat_map e (a ∷ E))
        more ih = unfold flat_map in omega (arith, length-append (e a) (flat_map e E), one (e a) (l.0 a))

-- some fine point passes just where some coarse one does
pub somewhere-image : {A B : Type 0} (es : List (A → List B)) → Fills es → (Ds : Set A) (f : Map A Bool) (g : Map B Bool)
    → Constants (λ v. v) es Ds f g → somewhere Ds f ≡ somewhere (fines es Ds) g
unfolding somewhere
somewhere-image [] l [] f g h = h
somewhere-image [] l (D ∷ Ds) f g h = absurd h
somewhere-image (e ∷ es) l [] f g h = absurd h
somewhere-image (e ∷ es) l (D ∷ Ds) f g h =
    sym (any-spread e (λ a. somewhere Ds (at f a)) (λ b. somewhere (fines es Ds) (at g b)) D l.0
    (All-map (λ a. All-map (λ b. somewhere-image es l.1 Ds (at f a) (at g b)) (e a)) D h))

-- ## The first group
module _ {A W : Type 0} (P : W → Type 0) (eq : W → W → Bool) (ok : W → Bool) where
  -- a popped value is one of the map's
  pub pop-value : (Ds : Set A) (f : Map A W) → ((p : List A) → P (f p)) → OnSome (λ g. P g.0) (pop eq ok Ds f)
  unfolding pop grow
  pop-value [] f h = go (ok (f [])) refl
    where
      go : (b : Bool) → ok (f []) ≡ b → OnSome (λ g. P g.0) (pop eq ok [] f)
      go true e = rw (e, pop) (h [])
      go false e = rw (e, pop) tt
  pop-value (D ∷ Ds) f h =
      go (first_of (λ x. pop eq ok Ds (at f x)) D)
      (OnSome-first_of (λ g. P g.0) (λ x. pop eq ok Ds (at f x)) (λ x. pop-value Ds (at f x) (λ p. h (x ∷ p))) D)
    where
      go : (o : Option (Group A W)) → OnSome (λ g. P g.0) o → OnSome (λ g. P g.0) (grow eq D f o)
      go none k = tt
      go (some g) k = k

-- r renames values; P says which are in use, and there r is one to one
module _ {A B W X : Type 0} (r : W → X) (P : W → Type 0) (eq_w : W → W → Bool) (eq_x : X → X → Bool)
    (keeps : (u v : W) → P u → P v → eq_x (r u) (r v) ≡ eq_w u v) where
  Constants-part : (es : List (A → List B)) (Ds S : Set A) (f : Map A W) (g : Map B X) → Part Ds S → Constants r es Ds f g → Constants r es S f g
  Constants-part [] [] [] f g p h = h
  Constants-part [] [] (E ∷ S) f g p h = absurd p
  Constants-part [] (D ∷ Ds) S f g p h = absurd h
  Constants-part (e ∷ es) [] S f g p h = absurd h
  Constants-part (e ∷ es) (D ∷ Ds) [] f g p h = absurd p
  Constants-part (e ∷ es) (D ∷ Ds) (E ∷ S) f g p h =
      rw p.0.1 (All-keep _ p.0.0 D (All-map (λ a. All-map (λ b. Constants-part es Ds S (at f a) (at g b) p.1) (e a)) D h))

  agree-image : (v : W) → P v → (es : List (A → List B)) → Fills es → (S : Set A) (f : Map A W) (g : Map B X) → ((p : List A) → P (f p))
      → Constants r es S f g → agree eq_w v S f ≡ agree eq_x (r v) (fines es S) g
  unfolding agree
  agree-image v pv [] l [] f g w h = sym (keeps (f []) v (w []) pv) ∙ ap (λ x. eq_x x (r v)) h
  agree-image v pv [] l (D ∷ Ds) f g w h = absurd h
  agree-image v pv (e ∷ es) l [] f g w h = absurd h
  agree-image v pv (e ∷ es) l (D ∷ Ds) f g w h =
      sym (every-spread e (λ a. agree eq_w v Ds (at f a)) (λ b. agree eq_x (r v) (fines es Ds) (at g b)) D l.0
      (All-map (λ a. All-map (λ b. agree-image v pv es l.1 Ds (at f a) (at g b) (λ p. w (a ∷ p))) (e a)) D h))

  pop-image : (ok_w : W → Bool) (ok_x : X → Bool) → ((v : W) → P v → ok_x (r v) ≡ ok_w v) → (es : List (A → List B)) → Fills es
      → (Ds : Set A) (f : Map A W) (g : Map B X) → ((p : List A) → P (f p)) → Constants r es Ds f g
      → Option.map (image r es) (pop eq_w ok_w Ds f) ≡ pop eq_x ok_x (fines es Ds) g
  unfolding pop grow
  pop-image ok_w ok_x oks [] l [] f g w h = go (ok_w (f [])) refl
    where
      fine : ok_x (g []) ≡ ok_w (f [])
      fine = ap ok_x (sym h) ∙ oks (f []) (w [])

      go : (b : Bool) → ok_w (f []) ≡ b → Option.map (image r []) (pop eq_w ok_w [] f) ≡ pop eq_x ok_x [] g
      go true e = rw (e, fine ∙ e, pop) (ap (λ x. some (x, [])) h)
      go false e = rw (e, fine ∙ e, pop)
  pop-image ok_w ok_x oks [] l (D ∷ Ds) f g w h = absurd h
  pop-image ok_w ok_x oks (e ∷ es) l [] f g w h = absurd h
  pop-image ok_w ok_x oks (e ∷ es) l (D ∷ Ds) f g w h =
      go (first_of (λ a. pop eq_w ok_w Ds (at f a)) D)
      (OnSome-first_of (λ q. Part Ds q.1 × P q.0) (λ a. pop eq_w ok_w Ds (at f a))
      (λ a. OnSome-both (λ q. Part Ds q.1) (λ q. P q.0) (pop eq_w ok_w Ds (at f a)) (pop-part eq_w ok_w Ds (at f a))
      (pop-value P eq_w ok_w Ds (at f a) (λ p. w (a ∷ p)))) D)
      ∙ ap (grow eq_x (flat_map e D) g)
      (sym (first_of-spread e (image r es) (λ a. pop eq_w ok_w Ds (at f a)) (λ b. pop eq_x ok_x (fines es Ds) (at g b)) D l.0
      (All-map (λ a. All-map (λ b. pop-image ok_w ok_x oks es l.1 Ds (at f a) (at g b) (λ p. w (a ∷ p))) (e a)) D h)))
    where
      go : (o : Option (Group A W)) → OnSome (λ q. Part Ds q.1 × P q.0) o
          → Option.map (image r (e ∷ es)) (grow eq_w D f o) ≡ grow eq_x (flat_map e D) g (Option.map (image r es) o)
      go none p = refl
      go (some q) p = ap (λ E. some (r q.0, E ∷ fines es q.1))
          (sym (keep-spread e (λ a. agree eq_w q.0 q.1 (at f a)) (λ b. agree eq_x (r q.0) (fines es q.1) (at g b)) D
          (All-map (λ a. All-map (λ b k. agree-image q.0 p.1 es l.1 q.1 (at f a) (at g b) (λ z. w (a ∷ z))
          (Constants-part es Ds q.1 (at f a) (at g b) p.0 k)) (e a)) D h)))

  -- ## Emptying, and the loop
  module _ (same_a : A → A → Bool) (same_b : B → B → Bool) (empty_w : W) (empty_x : X) (re : r empty_w ≡ empty_x) (pe : P empty_w) where
    clear-values : (S : Set A) (f : Map A W) → ((p : List A) → P (f p)) → (p : List A) → P (clear same_a empty_w S f p)
    unfolding clear
    clear-values [] f w [] = pe
    clear-values [] f w (x ∷ p) = w (x ∷ p)
    clear-values (E ∷ S) f w [] = w []
    clear-values (E ∷ S) f w (x ∷ p) = go (any_of (same_a x) E) (clear-values S (at f x) (λ q. w (x ∷ q)) p)
      where
        go : (b : Bool) → P (clear same_a empty_w S (at f x) p) → P (cond b (clear same_a empty_w S (at f x)) (at f x) p)
        go true ih = ih
        go false ih = w (x ∷ p)

    clear-image : (es : List (A → List B)) (Ds S : Set A) (f : Map A W) (g : Map B X) → Part Ds S → Aparts same_a same_b es Ds → Constants r es Ds f g
        → Constants r es Ds (clear same_a empty_w S f) (clear same_b empty_x (fines es S) g)
    unfolding clear
    clear-image [] [] [] f g p d h = re
    clear-image [] [] (E ∷ S) f g p d h = absurd p
    clear-image [] (D ∷ Ds) S f g p d h = absurd h
    clear-image (e ∷ es) [] S f g p d h = absurd h
    clear-image (e ∷ es) (D ∷ Ds) [] f g p d h = absurd p
    clear-image (e ∷ es) (D ∷ Ds) (E ∷ S) f g p d h =
        All-map₂ (λ a. All-map₂ (λ b i k. step a b i k (clear-image es Ds S (at f a) (at g b) p.1 d.1 k)) (e a)) D d.0 h
      where
        step : (a : A) (b : B) → In e same_a same_b D a b → Constants r es Ds (at f a) (at g b)
            → Constants r es Ds (clear same_a empty_w S (at f a)) (clear same_b empty_x (fines es S) (at g b))
            → Constants r es Ds (at (clear same_a empty_w (E ∷ S) f) a) (at (clear same_b empty_x (fines (e ∷ es) (E ∷ S)) g) b)
        step a b i k ih =
            let q : any_of (same_a a) E ≡ any_of (same_b b) (flat_map e E) = rw p.0.1 (In-keep e same_a same_b p.0.0 D a b i) in
            subst (λ v. Constants r es Ds (cond (any_of (same_a a) E) (clear same_a empty_w S (at f a)) (at f a))
            (cond v (clear same_b empty_x (fines es S) (at g b)) (at g b))) q (go (any_of (same_a a) E))
          where
            go : (v : Bool) → Constants r es Ds (cond v (clear same_a empty_w S (at f a)) (at f a)) (cond v (clear same_b empty_x (fines es S) (at g b)) (at g b))
            go true = ih
            go false = k

    module _ (es : List (A → List B)) (l : Fills es) (Ds : Set A) (d : Aparts same_a same_b es Ds) where
      -- the groups are images, and what is left is an image still
      abbrev Alike : Swept eq_w same_a empty_w → Swept eq_x same_b empty_x → Type 0
      Alike s t = (map (image r es) s.0 ≡ t.0) × Constants r es Ds s.1 t.1 × ((p : List A) → P (s.1 p))

      sweep-image : (n : ℕ) (ok_w : W → Bool) (ok_x : X → Bool) → ((v : W) → P v → ok_x (r v) ≡ ok_w v) → (f : Map A W) (g : Map B X)
          → ((p : List A) → P (f p)) → Constants r es Ds f g
          → Alike (sweep_for eq_w same_a empty_w n ok_w Ds f) (sweep_for eq_x same_b empty_x n ok_x (fines es Ds) g)
      unfolding sweep_for take_out
      sweep-image zero ok_w ok_x oks f g w h = (refl, h, w)
      sweep-image (suc n) ok_w ok_x oks f g w h =
          rw (← pop-image ok_w ok_x oks es l Ds f g w h) (go (pop eq_w ok_w Ds f) (pop-part eq_w ok_w Ds f) (λ f' g'. sweep-image n ok_w ok_x oks f' g'))
        where
          go : (o : Option (Group A W)) → OnSome (λ q. Part Ds q.1) o
              → ((f' : Map A W) (g' : Map B X) → ((p : List A) → P (f' p)) → Constants r es Ds f' g'
              → Alike (sweep_for eq_w same_a empty_w n ok_w Ds f') (sweep_for eq_x same_b empty_x n ok_x (fines es Ds) g'))
              → Alike (take_out eq_w same_a empty_w f (λ f'. sweep_for eq_w same_a empty_w n ok_w Ds f') o)
              (take_out eq_x same_b empty_x g (λ g'. sweep_for eq_x same_b empty_x n ok_x (fines es Ds) g') (Option.map (image r es) o))
          go none p ih = (refl, h, w)
          go (some q) p ih =
              let k = ih (clear same_a empty_w q.1 f) (clear same_b empty_x (fines es q.1) g) (clear-values q.1 f w)
              (clear-image es Ds q.1 f g p d h) in
              (ap (image r es q ∷◌) k.0, k.1, k.2)

      -- the tests of the classes, two by two: they say the same of a value in use, and nothing matches the empty value
      abbrev pub Tests : List (W → Bool) → List (X → Bool) → Type 0
      Tests [] [] = Unit {0}
      Tests [] (u ∷ us) = ⊥
      Tests (o ∷ os) [] = ⊥
      Tests (o ∷ os) (u ∷ us) = ((v : W) → P v → u (r v) ≡ o v) × (o empty_w ≡ false) × Tests os us

      -- THE LAW
      pub groups-image : Exact eq_w → Exact same_a → (os : List (W → Bool)) (us : List (X → Bool)) → Tests os us → (f : Map A W) (g : Map B X)
          → ((p : List A) → P (f p)) → Constants r es Ds f g
          → map (image r es) (groups eq_w same_a empty_w os Ds f) ≡ groups eq_x same_b empty_x us (fines es Ds) g
      unfolding groups
      groups-image x_w x_a [] [] t f g w h = refl
      groups-image x_w x_a [] (u ∷ us) t f g w h = absurd t
      groups-image x_w x_a (o ∷ os) [] t f g w h = absurd t
      groups-image x_w x_a (o ∷ os) (u ∷ us) t f g w h =
          let s : Alike (sweep eq_w same_a empty_w o Ds f) (sweep eq_x same_b empty_x u (fines es Ds) g) =
          unfold sweep in rw (sweep-enough x_w x_a empty_w Ds o t.1 (size (fines es Ds)) (size-fines same_a same_b es l Ds d) f)
          (sweep-image (size (fines es Ds)) o u t.0 f g w h)
          in
          map-append (image r es) (sweep eq_w same_a empty_w o Ds f).0 (groups eq_w same_a empty_w os Ds (sweep eq_w same_a empty_w o Ds f).1)
          ∙ ap₂ ◌++◌ s.0 (groups-image x_w x_a os us t.2 (sweep eq_w same_a empty_w o Ds f).1 (sweep eq_x same_b empty_x u (fines es Ds) g).1 s.2 s.1)
