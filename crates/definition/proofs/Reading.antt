-- A reading step by step: how layouts that are put together go on or stop, and how far they go. Proofs about readers cite these laws and never
-- look into a layout.
use mathlib.Core.Path.{◌≡◌, refl, sym, ap, ap₂, ◌∙◌}
use mathlib.Core.List.{List, [], ◌∷◌}
use mathlib.Core.Bool.{Bool, true, false}
use Prim.Native.Nat.{ℕ, zero, suc, ◌+◌, ◌*◌, ◌≤◌}
use native.Mathlib.Omega.{arith}
use lib.Dec.{leb}
use lib.ListN.{length}
use Rattle.definition.specs.Field.{field_at, Read, got, refused, and_then, past_end, read_field, read_all, Layout, field, no_bits, ◌then◌, via, tagged, several}
use Rattle.definition.proofs.Faithful.{clash}

-- ## Going on and stopping
module _ {A B : Type 0} (L : Layout A) (M : Layout B) (s : List ℕ) (p : ℕ) where
  pub then-goes : {x : A} {q : ℕ} {y : B} {e : ℕ} → L.read s p ≡ got x q → M.read s q ≡ got y e → (L then M).read s p ≡ got (x, y) e
  unfolding ◌then◌
  then-goes h k = rw (h, k)

  pub then-stops : {c q : ℕ} → L.read s p ≡ refused c q → (L then M).read s p ≡ refused c q
  unfolding ◌then◌
  then-stops h = rw h

  pub then-stops-later : {x : A} {q c e : ℕ} → L.read s p ≡ got x q → M.read s q ≡ refused c e → (L then M).read s p ≡ refused c e
  unfolding ◌then◌
  then-stops-later h k = rw (h, k)

module _ {A B : Type 0} (make : A → B) (parts : B → A) (L : Layout A) (s : List ℕ) (p : ℕ) where
  pub via-goes : {x : A} {q : ℕ} → L.read s p ≡ got x q → (via make parts L).read s p ≡ got (make x) q
  unfolding via
  via-goes h = rw h

  pub via-stops : {c q : ℕ} → L.read s p ≡ refused c q → (via make parts L).read s p ≡ refused c q
  unfolding via
  via-stops h = rw h

module _ {A B : Type 0} (L : Layout A) (M : A → Layout B) (tag : B → A) (s : List ℕ) (p : ℕ) where
  pub tagged-goes : {t : A} {q : ℕ} {r : Read B} → L.read s p ≡ got t q → (M t).read s q ≡ r → (tagged L M tag).read s p ≡ r
  unfolding tagged
  tagged-goes h k = rw h k

  pub tagged-stops : {c q : ℕ} → L.read s p ≡ refused c q → (tagged L M tag).read s p ≡ refused c q
  unfolding tagged
  tagged-stops h = rw h

-- ## Taking a reading apart
-- what was read one behind the other, each for itself
pub then-parts : {A B : Type 0} (L : Layout A) (M : Layout B) (s : List ℕ) (p : ℕ) (v : A × B) (q : ℕ) → (L then M).read s p ≡ got v q
    → (j : ℕ) × (L.read s p ≡ got v.0 j) × (M.read s j ≡ got v.1 q)
unfolding ◌then◌
then-parts {A} {B} L M s p v q e = go (L.read s p) refl e
  where
    later : (x : A) (j : ℕ) → L.read s p ≡ got x j → (r : Read B) → M.read s j ≡ r → and_then (λ y i. got (x, y) i) r ≡ got v q
        → (j : ℕ) × (L.read s p ≡ got v.0 j) × (M.read s j ≡ got v.1 q)
    later x j h (refused c i) k g = clash c i v q g
    later x j h (got y i) k g =
        let xy : (x, y) ≡ v = cc in
        let z : i ≡ q = cc in
        (j, h ∙ ap (λ u. got u.0 j) xy, k ∙ ap₂ (λ u n. got u.1 n) xy z)

    go : (r : Read A) → L.read s p ≡ r → and_then (λ x j. and_then (λ y i. got (x, y) i) (M.read s j)) r ≡ got v q
        → (j : ℕ) × (L.read s p ≡ got v.0 j) × (M.read s j ≡ got v.1 q)
    go (refused c i) h g = clash c i v q g
    go (got x j) h g = later x j h (M.read s j) refl g

-- what was made of another value
pub via-parts : {A B : Type 0} (make : A → B) (parts : B → A) (L : Layout A) (s : List ℕ) (p : ℕ) (y : B) (q : ℕ) → (via make parts L).read s p ≡ got y q
    → (x : A) × (L.read s p ≡ got x q) × (make x ≡ y)
unfolding via
via-parts {A} {B} make parts L s p y q e = go (L.read s p) refl e
  where
    go : (r : Read A) → L.read s p ≡ r → and_then (λ x j. got (make x) j) r ≡ got y q → (x : A) × (L.read s p ≡ got x q) × (make x ≡ y)
    go (refused c i) h g = clash c i y q g
    go (got x j) h g = let z : j ≡ q = cc in let m : make x ≡ y = cc in (x, h ∙ ap (got x) z, m)

-- a tag, and what it asked for
pub tagged-parts : {A B : Type 0} (L : Layout A) (M : A → Layout B) (tag : B → A) (s : List ℕ) (p : ℕ) (y : B) (q : ℕ) → (tagged L M tag).read s p ≡ got y q
    → (t : A) × (j : ℕ) × (L.read s p ≡ got t j) × ((M t).read s j ≡ got y q)
unfolding tagged
tagged-parts {A} L M tag s p y q e = go (L.read s p) refl e
  where
    go : (r : Read A) → L.read s p ≡ r → and_then (λ t j. (M t).read s j) r ≡ got y q
        → (t : A) × (j : ℕ) × (L.read s p ≡ got t j) × ((M t).read s j ≡ got y q)
    go (refused c i) h g = clash c i y q g
    go (got t j) h g = (t, j, h, g)

-- the first of several, and the others
pub all-parts : {A : Type 0} (r : List ℕ → ℕ → Read A) (n : ℕ) (s : List ℕ) (p : ℕ) (xs : List A) (q : ℕ) → read_all r (suc n) s p ≡ got xs q
    → (x : A) × (j : ℕ) × (ys : List A) × (r s p ≡ got x j) × (read_all r n s j ≡ got ys q) × (x ∷ ys ≡ xs)
unfolding read_all
all-parts {A} r n s p xs q e = first (r s p) refl e
  where
    Parts : Type 0
    Parts = (x : A) × (j : ℕ) × (ys : List A) × (r s p ≡ got x j) × (read_all r n s j ≡ got ys q) × (x ∷ ys ≡ xs)

    second : (x : A) (j : ℕ) → r s p ≡ got x j → (w : Read (List A)) → read_all r n s j ≡ w → and_then (λ ys i. got (x ∷ ys) i) w ≡ got xs q → Parts
    second x j h (refused c i) k g = clash c i xs q g
    second x j h (got ys i) k g = let z : i ≡ q = cc in let m : x ∷ ys ≡ xs = cc in (x, j, ys, h, k ∙ ap (got ys) z, m)

    first : (w : Read A) → r s p ≡ w → and_then (λ x j. and_then (λ ys i. got (x ∷ ys) i) (read_all r n s j)) w ≡ got xs q → Parts
    first (refused c i) h g = clash c i xs q g
    first (got x j) h g = second x j h (read_all r n s j) refl g

-- several are as many as were asked for
pub all-length : {A : Type 0} (r : List ℕ → ℕ → Read A) (n : ℕ) (s : List ℕ) (p : ℕ) (xs : List A) (q : ℕ) → read_all r n s p ≡ got xs q → length xs ≡ n
unfolding read_all
all-length r zero s p xs q e = let z : [] ≡ xs = cc in sym (ap length z)
all-length r (suc n) s p xs q e = let k = all-parts r n s p xs q e in ap length (sym k.5) ∙ ap suc (all-length r n s k.1 k.2 q k.4)

-- a value that was read passed its test
pub field-passed : (c : ℕ) (ok : ℕ → Bool) (w : ℕ) (s : List ℕ) (p v q : ℕ) → (field c ok w).read s p ≡ got v q → ok v ≡ true
unfolding field read_field
field-passed c ok w s p v q e = go (leb (p + w) (length s)) refl (ok (field_at s p w)) refl
  where
    go : (a : Bool) → leb (p + w) (length s) ≡ a → (b : Bool) → ok (field_at s p w) ≡ b → ok v ≡ true
    go false l b k = clash past_end p v q (rw (l, read_field) at e)
    go true l false k = clash c p v q (rw (l, k, read_field) at e)
    go true l true k = let g : got (field_at s p w) (p + w) ≡ got v q = rw (l, k, read_field) at e in let z : field_at s p w ≡ v = cc in ap ok (sym z) ∙ k

-- ## How far a reading goes
-- a reading of L takes at most n bits
abbrev pub Short : {A : Type 0} → Layout A → ℕ → Type 0
Short {A} L n = (s : List ℕ) (p : ℕ) (x : A) (q : ℕ) → L.read s p ≡ got x q → (p ≤ q) × (q ≤ p + n)

pub field_end : (c : ℕ) (ok : ℕ → Bool) (w : ℕ) (s : List ℕ) (p v q : ℕ) → (field c ok w).read s p ≡ got v q → q ≡ p + w
unfolding field read_field
field_end c ok w s p v q e = go (leb (p + w) (length s)) refl (ok (field_at s p w)) refl
  where
    go : (a : Bool) → leb (p + w) (length s) ≡ a → (b : Bool) → ok (field_at s p w) ≡ b → q ≡ p + w
    go false l b k = clash past_end p v q (rw (l, read_field) at e)
    go true l false k = clash c p v q (rw (l, k, read_field) at e)
    go true l true k = let g : got (field_at s p w) (p + w) ≡ got v q = rw (l, k, read_field) at e in let z : q ≡ p + w = cc in z

pub field-short : (c : ℕ) (ok : ℕ → Bool) (w : ℕ) → Short (field c ok w) w
field-short c ok w s p v q e = omega (arith, field_end c ok w s p v q e)

pub none-short : {A : Type 0} (x : A) → Short (no_bits x) 0
unfolding no_bits
none-short x s p y q e = let z : p ≡ q = cc in omega arith

pub then-short : {A B : Type 0} (L : Layout A) (M : Layout B) (m n : ℕ) → Short L m → Short M n → Short (L then M) (m + n)
then-short L M m n a b s p v q e = let k = then-parts L M s p v q e in omega (arith, a s p v.0 k.0 k.1, b s k.0 v.1 q k.2)

pub via-short : {A B : Type 0} (make : A → B) (parts : B → A) (L : Layout A) (n : ℕ) → Short L n → Short (via make parts L) n
via-short make parts L n a s p y q e = let k = via-parts make parts L s p y q e in a s p k.0 q k.1

pub tagged-short : {A B : Type 0} (L : Layout A) (M : A → Layout B) (tag : B → A) (m n : ℕ) → Short L m → ((t : A) → Short (M t) n)
    → Short (tagged L M tag) (m + n)
tagged-short L M tag m n a b s p y q e = let k = tagged-parts L M tag s p y q e in omega (arith, a s p k.0 k.1 k.2, b k.0 s k.1 y q k.3)

all_short : {A : Type 0} (L : Layout A) (m : ℕ) → Short L m → (n : ℕ) (s : List ℕ) (p : ℕ) (xs : List A) (q : ℕ) → read_all L.read n s p ≡ got xs q
    → (p ≤ q) × (q ≤ p + n * m)
unfolding read_all
all_short L m a zero s p xs q e = let z : p ≡ q = cc in omega arith
all_short L m a (suc n) s p xs q e =
    let k = all-parts L.read n s p xs q e in omega (arith, a s p k.0 k.1 k.3, all_short L m a n s k.1 k.2 q k.4)

pub several-short : {A : Type 0} (L : Layout A) (m : ℕ) → Short L m → (n : ℕ) → Short (several n L) (n * m)
unfolding several
several-short L m a n = all_short L m a n
