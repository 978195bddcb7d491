-- A layout is faithful: what it writes it reads back, and what it reads was written there. Proved once for a field and once for each
-- way of putting layouts together. Rests on the laws of bits.
use mathlib.Core.Path.{◌≡◌, refl, sym, ap, ap₂, ◌∙◌, subst}
use mathlib.Core.List.{List, [], ◌∷◌, ◌++◌, flat_map, append_assoc}
use mathlib.Core.Bool.{Bool, true, false, ◌&&◌}
use Prim.Native.Nat.{ℕ, zero, suc, ◌+◌, ◌^◌, ◌≤◌, ◌<◌}
use native.Mathlib.Omega.{arith}
use lib.Dec.{eqb, leb, ltb}
use lib.ListN.{length, take, drop, length-append, length-drop, take-append-drop}
use lib.Seq.{take_at, drop_at, drop-drop, length-take-le}
use borrow.Author.Tests.{leb-true, le-leb, ltb-true, lt-ltb, eq-eqb}
use Rattle.laws.specs.Lists.{every}
use Rattle.laws.proofs.Flags.{split-and, both-and}
use Rattle.laws.proofs.Lists.{All-append}
use Rattle.definition.specs.Field.{bits, number, field_at, Read, got, refused, and_then, past_end, read_field, read_all, Layout, field, no_bits, ◌then◌, via, tagged, several}
use Rattle.definition.proofs.Bits.{Bits, length-bits, number-bits, number-below, bits-number, bits-are-bits, Bits-take, Bits-drop}

-- the bits bs stand in s from p on up to q
pub record Stand (bs s : List ℕ) (p q : ℕ) : Type 0 where
  pub ends : q ≡ p + length bs
  pub stands : drop p s ≡ bs ++ drop q s

pub record Faithful {A : Type 0} (P : A → Type 0) (L : Layout A) : Type 0 where
  -- what is written is bits
  pub binary : (x : A) → P x → L.fits x ≡ true → Bits (L.write x)
  -- what is written is read back, wherever it stands
  pub returns : (x : A) → P x → L.fits x ≡ true → (s : List ℕ) (p : ℕ) (rest : List ℕ) → p ≤ length s → drop p s ≡ L.write x ++ rest
      → L.read s p ≡ got x (p + length (L.write x))
  -- what is read was written, and the reading ends where its bits end
  pub written : (s : List ℕ) → Bits s → (p : ℕ) (x : A) (q : ℕ) → L.read s p ≡ got x q → P x × (L.fits x ≡ true) × Stand (L.write x) s p q

abbrev pub Always : {A : Type 0} → A → Type 0
Always x = Unit {0}

-- ## Standing bits
-- behind bits that stand, the rest
behind : (s bs rest : List ℕ) (p : ℕ) → p ≤ length s → drop p s ≡ bs ++ rest → (p + length bs ≤ length s) × (drop (p + length bs) s ≡ rest)
behind s bs rest p l e = (
  omega (arith, length-drop p s, ap length e, length-append bs rest),
  sym (drop-drop (length bs) p s) ∙ ap (drop (length bs)) e ∙ drop_at bs rest (length bs) refl,
)

stand-append : (bs cs s : List ℕ) (p q e : ℕ) → Stand bs s p q → Stand cs s q e → Stand (bs ++ cs) s p e
stand-append bs cs s p q e a b = record {
  ends = omega (arith, a.ends, b.ends, length-append bs cs);
  stands = a.stands ∙ ap (bs ++◌) b.stands ∙ sym (append_assoc bs cs (drop e s));
}

-- bits that stand as two parts: each part stands; and bits that stand can be taken out
pub stand-parts : (bs cs s : List ℕ) (p q : ℕ) → Stand (bs ++ cs) s p q → Stand bs s p (p + length bs) × Stand cs s (p + length bs) q
stand-parts bs cs s p q a =
    let rest = a.stands ∙ append_assoc bs cs (drop q s) in
    let behind = sym (drop-drop (length bs) p s) ∙ ap (drop (length bs)) rest ∙ drop_at bs (cs ++ drop q s) (length bs) refl in (
      record { ends = refl; stands = rest ∙ ap (bs ++◌) (sym behind) },
      record { ends = omega (arith, a.ends, length-append bs cs); stands = behind },
    )

pub stand-taken : (bs s : List ℕ) (p q n : ℕ) → Stand bs s p q → n ≡ length bs → take n (drop p s) ≡ bs
stand-taken bs s p q n a e = ap (take n) a.stands ∙ take_at bs (drop q s) n (sym e)

-- a reading that begins within the bits ends within them
pub read-within : {A : Type 0} {P : A → Type 0} {L : Layout A} → Faithful P L → (s : List ℕ) → Bits s → (p : ℕ) (x : A) (q : ℕ) → p ≤ length s
    → L.read s p ≡ got x q → q ≤ length s
read-within {L = L} a s h p x q l e =
    let k = (a.written s h p x q e).2 in
    omega (arith, k.ends, ap length k.stands, length-append (L.write x) (drop q s), length-drop p s, length-drop q s)

-- ## One field
pub clash : {A : Type 0} {G : Type 0} (c p : ℕ) (x : A) (q : ℕ) → refused c p ≡ got x q → G
clash c p x q e = let z : ◌≡◌ {A = ℕ} 0 1 = cc in absurd (omega arith)

module _ (c : ℕ) (ok : ℕ → Bool) (w : ℕ) where
  field-returns : (v : ℕ) → ltb v (2 ^ w) && ok v ≡ true → (s : List ℕ) (p : ℕ) (rest : List ℕ) → p ≤ length s → drop p s ≡ bits w v ++ rest
      → read_field c ok w s p ≡ got v (p + length (bits w v))
  unfolding read_field field_at
  field-returns v f s p rest l e =
      let k = split-and (ltb v (2 ^ w)) (ok v) f in
      let n : number (take w (drop p s)) ≡ v =
      ap (λ t. number (take w t)) e ∙ ap number (take_at (bits w v) rest w (length-bits w v)) ∙ number-bits w v (ltb-true v (2 ^ w) k.0)
      in
      let room : leb (p + w) (length s) ≡ true = le-leb (p + w) (length s) (omega (arith, (behind s (bits w v) rest p l e).0, length-bits w v)) in
      rw (room, n, k.1, read_field) (ap₂ got n (ap (p +◌) (sym (length-bits w v))))

  field-written : (s : List ℕ) → Bits s → (p v q : ℕ) → read_field c ok w s p ≡ got v q → (ltb v (2 ^ w) && ok v ≡ true) × Stand (bits w v) s p q
  unfolding read_field field_at
  field-written s h p v q e = go (leb (p + w) (length s)) refl (ok (number (take w (drop p s)))) refl
    where
      go : (a : Bool) → leb (p + w) (length s) ≡ a → (b : Bool) → ok (number (take w (drop p s))) ≡ b → (ltb v (2 ^ w) && ok v ≡ true) × Stand (bits w v) s p q
      go false a b k = clash past_end p v q (rw (a, read_field) at e)
      go true a false k = clash c p v q (rw (a, k, read_field) at e)
      go true a true k =
          let g : got (number (take w (drop p s))) (p + w) ≡ got v q = rw (a, k, read_field) at e in
          let n : number (take w (drop p s)) ≡ v = cc in
          let z : p + w ≡ q = cc in
          let l : length (take w (drop p s)) ≡ w = length-take-le w (drop p s) (omega (arith, leb-true (p + w) (length s) a, length-drop p s)) in
          let t : take w (drop p s) ≡ bits w v =
          sym (bits-number (take w (drop p s)) (Bits-take w (drop p s) (Bits-drop p s h))) ∙ ap₂ bits l n
          in
          let small : v < 2 ^ w = rw n at (rw l at (number-below (take w (drop p s)) (Bits-take w (drop p s) (Bits-drop p s h)))) in (
            both-and (ltb v (2 ^ w)) (ok v) (lt-ltb v (2 ^ w) small) (rw n at k),
            record {
              ends = omega (arith, length-bits w v, z);
              stands = sym (take-append-drop w (drop p s)) ∙ ap₂ ◌++◌ t (drop-drop w p s ∙ ap (λ j. drop j s) z);
            },
          )

  pub field-faithful : Faithful Always (field c ok w)
  unfolding field
  field-faithful = record {
    binary = λ v u f. bits-are-bits w v (ltb-true v (2 ^ w) (split-and (ltb v (2 ^ w)) (ok v) f).0);
    returns = λ v u. field-returns v;
    written = λ s h p v q e. let k = field-written s h p v q e in (tt, k.0, k.1);
  }

-- ## Putting layouts together
pub none-faithful : {A : Type 0} (P : A → Type 0) (x : A) → P x → ((y : A) → P y → y ≡ x) → Faithful P (no_bits x)
unfolding no_bits
none-faithful P x px only = record {
  binary = λ y py f. tt;
  returns = λ y py f s p rest l e. let z : p ≡ p + 0 = omega arith in ap₂ got (sym (only y py)) z;
  written = λ s h p y q e.
      let v : x ≡ y = cc in
      let z : p ≡ q = cc in
      (subst P v px, refl, record { ends = omega (arith, z); stands = ap (λ j. drop j s) z });
}

module _ {A B : Type 0} {P : A → Type 0} {Q : B → Type 0} {L : Layout A} {M : Layout B} where
  pub then-faithful : Faithful P L → Faithful Q M → Faithful (λ v. P v.0 × Q v.1) (L then M)
  unfolding ◌then◌
  then-faithful a b = record {
    binary = λ v pv f. let k = split-and (L.fits v.0) (M.fits v.1) f in
        All-append _ (L.write v.0) (M.write v.1) (a.binary v.0 pv.0 k.0) (b.binary v.1 pv.1 k.1);
    returns = back;
    written = there;
  }
    where
      back : (v : A × B) → P v.0 × Q v.1 → L.fits v.0 && M.fits v.1 ≡ true → (s : List ℕ) (p : ℕ) (rest : List ℕ) → p ≤ length s
          → drop p s ≡ (L.write v.0 ++ M.write v.1) ++ rest → (L then M).read s p ≡ got v (p + length (L.write v.0 ++ M.write v.1))
      back v pv f s p rest l e =
          let k = split-and (L.fits v.0) (M.fits v.1) f in
          let d : drop p s ≡ L.write v.0 ++ (M.write v.1 ++ rest) = e ∙ append_assoc (L.write v.0) (M.write v.1) rest in
          let t = behind s (L.write v.0) (M.write v.1 ++ rest) p l d in
          let z : p + length (L.write v.0) + length (M.write v.1) ≡ p + length (L.write v.0 ++ M.write v.1) =
          omega (arith, length-append (L.write v.0) (M.write v.1))
          in
          rw (
            a.returns v.0 pv.0 k.0 s p (M.write v.1 ++ rest) l d,
            b.returns v.1 pv.1 k.1 s (p + length (L.write v.0)) rest t.0 t.1,
          )
          (ap (got v) z)

      there : (s : List ℕ) → Bits s → (p : ℕ) (v : A × B) (q : ℕ) → (L then M).read s p ≡ got v q
          → (P v.0 × Q v.1) × (L.fits v.0 && M.fits v.1 ≡ true) × Stand (L.write v.0 ++ M.write v.1) s p q
      there s h p v q e = first (L.read s p) refl e
        where
          second : (x : A) (j : ℕ) → L.read s p ≡ got x j → (r : Read B) → M.read s j ≡ r → and_then (λ y i. got (x, y) i) r ≡ got v q
              → (P v.0 × Q v.1) × (L.fits v.0 && M.fits v.1 ≡ true) × Stand (L.write v.0 ++ M.write v.1) s p q
          second x j r (refused c i) m g = clash c i v q g
          second x j r (got y i) m g =
              let xy : (x, y) ≡ v = cc in
              let z : i ≡ q = cc in
              let f = a.written s h p x j r in
              let t = b.written s h j y i m in
              subst (λ u. (P u.0 × Q u.1) × (L.fits u.0 && M.fits u.1 ≡ true) × Stand (L.write u.0 ++ M.write u.1) s p q) xy
              ((f.0, t.0), both-and _ _ f.1 t.1, stand-append (L.write x) (M.write y) s p j q f.2 (subst (Stand (M.write y) s j) z t.2))

          first : (r : Read A) → L.read s p ≡ r → and_then (λ x j. and_then (λ y i. got (x, y) i) (M.read s j)) r ≡ got v q
              → (P v.0 × Q v.1) × (L.fits v.0 && M.fits v.1 ≡ true) × Stand (L.write v.0 ++ M.write v.1) s p q
          first (refused c i) r g = clash c i v q g
          first (got x j) r g = second x j r (M.read s j) refl g

-- a value made of another; `into` says that what is made meets Q
module _ {A B : Type 0} {P : A → Type 0} (Q : B → Type 0) {L : Layout A} (make : A → B) (parts : B → A) where
  pub via-faithful : Faithful P L → ((y : B) → Q y → P (parts y)) → ((y : B) → Q y → make (parts y) ≡ y)
      → ((x : A) → P x → L.fits x ≡ true → (parts (make x) ≡ x) × Q (make x)) → Faithful Q (via make parts L)
  unfolding via
  via-faithful a under forth into = record { binary = λ y qy. a.binary (parts y) (under y qy); returns = back; written = there }
    where
      back : (y : B) → Q y → L.fits (parts y) ≡ true → (s : List ℕ) (p : ℕ) (rest : List ℕ) → p ≤ length s → drop p s ≡ L.write (parts y) ++ rest
          → (via make parts L).read s p ≡ got y (p + length (L.write (parts y)))
      back y qy f s p rest l e = rw (a.returns (parts y) (under y qy) f s p rest l e) (ap (λ z. got z (p + length (L.write (parts y)))) (forth y qy))

      there : (s : List ℕ) → Bits s → (p : ℕ) (y : B) (q : ℕ) → (via make parts L).read s p ≡ got y q
          → Q y × (L.fits (parts y) ≡ true) × Stand (L.write (parts y)) s p q
      there s h p y q e = go (L.read s p) refl e
        where
          go : (r : Read A) → L.read s p ≡ r → and_then (λ x j. got (make x) j) r ≡ got y q
              → Q y × (L.fits (parts y) ≡ true) × Stand (L.write (parts y)) s p q
          go (refused c i) r g = clash c i y q g
          go (got x j) r g =
              let m : make x ≡ y = cc in
              let z : j ≡ q = cc in
              let k = a.written s h p x j r in
              let t = into x k.0 k.1 in
              subst (λ u. Q u × (L.fits (parts u) ≡ true) × Stand (L.write (parts u)) s p q) m
              (t.1, ap L.fits t.0 ∙ k.1, rw (t.0, ← z) k.2)

-- a tag, and what it asks for
module _ {A B : Type 0} {P : A → Type 0} {L : Layout A} {M : A → Layout B} (tag : B → A) where
  pub tagged-faithful : Faithful P L → ((y : B) → P (tag y)) → ((t : A) → P t → L.fits t ≡ true → Faithful (λ y. tag y ≡ t) (M t))
      → Faithful Always (tagged L M tag)
  unfolding tagged
  tagged-faithful a every-tag b = record {
    binary = λ y u f. let k = split-and (L.fits (tag y)) ((M (tag y)).fits y) f in
        All-append _ (L.write (tag y)) ((M (tag y)).write y) (a.binary (tag y) (every-tag y) k.0)
        ((b (tag y) (every-tag y) k.0).binary y refl k.1);
    returns = back;
    written = there;
  }
    where
      back : (y : B) → Unit {0} → L.fits (tag y) && (M (tag y)).fits y ≡ true → (s : List ℕ) (p : ℕ) (rest : List ℕ) → p ≤ length s
          → drop p s ≡ (L.write (tag y) ++ (M (tag y)).write y) ++ rest
          → (tagged L M tag).read s p ≡ got y (p + length (L.write (tag y) ++ (M (tag y)).write y))
      back y u f s p rest l e =
          let k = split-and (L.fits (tag y)) ((M (tag y)).fits y) f in
          let d : drop p s ≡ L.write (tag y) ++ ((M (tag y)).write y ++ rest) = e ∙ append_assoc (L.write (tag y)) ((M (tag y)).write y) rest in
          let t = behind s (L.write (tag y)) ((M (tag y)).write y ++ rest) p l d in
          let z : p + length (L.write (tag y)) + length ((M (tag y)).write y) ≡ p + length (L.write (tag y) ++ (M (tag y)).write y) =
          omega (arith, length-append (L.write (tag y)) ((M (tag y)).write y))
          in
          rw (a.returns (tag y) (every-tag y) k.0 s p ((M (tag y)).write y ++ rest) l d)
          ((b (tag y) (every-tag y) k.0).returns y refl k.1 s (p + length (L.write (tag y))) rest t.0 t.1 ∙ ap (got y) z)

      there : (s : List ℕ) → Bits s → (p : ℕ) (y : B) (q : ℕ) → (tagged L M tag).read s p ≡ got y q
          → Unit {0} × (L.fits (tag y) && (M (tag y)).fits y ≡ true) × Stand (L.write (tag y) ++ (M (tag y)).write y) s p q
      there s h p y q e = go (L.read s p) refl e
        where
          go : (r : Read A) → L.read s p ≡ r → and_then (λ t j. (M t).read s j) r ≡ got y q
              → Unit {0} × (L.fits (tag y) && (M (tag y)).fits y ≡ true) × Stand (L.write (tag y) ++ (M (tag y)).write y) s p q
          go (refused c i) r g = clash c i y q g
          go (got t j) r g =
              let k = a.written s h p t j r in
              let m = (b t k.0 k.1).written s h j y q g in
              subst (λ u. Unit {0} × (L.fits u && (M u).fits y ≡ true) × Stand (L.write u ++ (M u).write y) s p q) (sym m.0)
              (tt, both-and _ _ k.1 m.1, stand-append (L.write t) ((M t).write y) s p j q k.2 m.2)

-- ## Several
module _ {A : Type 0} {L : Layout A} (a : Faithful Always L) where
  all-binary : (xs : List A) → every L.fits xs ≡ true → Bits (flat_map L.write xs)
  unfolding flat_map every
  all-binary [] f = tt
  all-binary (x ∷ xs) f =
      let k = split-and (L.fits x) (every L.fits xs) f in
      All-append _ (L.write x) (flat_map L.write xs) (a.binary x tt k.0) (all-binary xs k.1)

  all-returns : (xs : List A) → every L.fits xs ≡ true → (s : List ℕ) (p : ℕ) (rest : List ℕ) → p ≤ length s → drop p s ≡ flat_map L.write xs ++ rest
      → read_all L.read (length xs) s p ≡ got xs (p + length (flat_map L.write xs))
  unfolding read_all flat_map every
  all-returns [] f s p rest l e = let z : p ≡ p + 0 = omega arith in ap (got []) z
  all-returns (x ∷ xs) f s p rest l e =
      let k = split-and (L.fits x) (every L.fits xs) f in
      let d : drop p s ≡ L.write x ++ (flat_map L.write xs ++ rest) = e ∙ append_assoc (L.write x) (flat_map L.write xs) rest in
      let t = behind s (L.write x) (flat_map L.write xs ++ rest) p l d in
      let z : p + length (L.write x) + length (flat_map L.write xs) ≡ p + length (L.write x ++ flat_map L.write xs) =
      omega (arith, length-append (L.write x) (flat_map L.write xs))
      in
      rw (a.returns x tt k.0 s p (flat_map L.write xs ++ rest) l d, all-returns xs k.1 s (p + length (L.write x)) rest t.0 t.1)
      (ap (got (x ∷ xs)) z)

  all-written : (n : ℕ) (s : List ℕ) → Bits s → (p : ℕ) (xs : List A) (q : ℕ) → read_all L.read n s p ≡ got xs q
      → (length xs ≡ n) × (every L.fits xs ≡ true) × Stand (flat_map L.write xs) s p q
  unfolding read_all flat_map every
  all-written zero s h p xs q e =
      let v : [] ≡ xs = cc in
      let z : p ≡ q = cc in
      subst (λ ys. (length ys ≡ 0) × (every L.fits ys ≡ true) × Stand (flat_map L.write ys) s p q) v
      (refl, refl, record { ends = omega (arith, z); stands = ap (λ j. drop j s) z })
  all-written (suc n) s h p xs q e = first (L.read s p) refl e (all-written n s h)
    where
      second : (x : A) (j : ℕ) → L.read s p ≡ got x j → (r : Read (List A)) → read_all L.read n s j ≡ r → and_then (λ ys i. got (x ∷ ys) i) r ≡ got xs q
          → ((p : ℕ) (ys : List A) (q : ℕ) → read_all L.read n s p ≡ got ys q
          → (length ys ≡ n) × (every L.fits ys ≡ true) × Stand (flat_map L.write ys) s p q)
          → (length xs ≡ suc n) × (every L.fits xs ≡ true) × Stand (flat_map L.write xs) s p q
      second x j r (refused c i) m g ih = clash c i xs q g
      second x j r (got ys i) m g ih =
          let v : x ∷ ys ≡ xs = cc in
          let z : i ≡ q = cc in
          let k = a.written s h p x j r in
          let t = ih j ys i m in
          subst (λ zs. (length zs ≡ suc n) × (every L.fits zs ≡ true) × Stand (flat_map L.write zs) s p q) v (
            ap suc t.0,
            both-and _ _ k.1 t.1,
            stand-append (L.write x) (flat_map L.write ys) s p j q k.2 (subst (Stand (flat_map L.write ys) s j) z t.2),
          )

      first : (r : Read A) → L.read s p ≡ r → and_then (λ x j. and_then (λ ys i. got (x ∷ ys) i) (read_all L.read n s j)) r ≡ got xs q
          → ((p : ℕ) (ys : List A) (q : ℕ) → read_all L.read n s p ≡ got ys q
          → (length ys ≡ n) × (every L.fits ys ≡ true) × Stand (flat_map L.write ys) s p q)
          → (length xs ≡ suc n) × (every L.fits xs ≡ true) × Stand (flat_map L.write xs) s p q
      first (refused c i) r g ih = clash c i xs q g
      first (got x j) r g ih = second x j r (read_all L.read n s j) refl g ih

  pub several-faithful : (n : ℕ) → Faithful (λ xs. length xs ≡ n) (several n L)
  unfolding several
  several-faithful n = record {
    binary = λ xs m f. all-binary xs (split-and (eqb (length xs) n) (every L.fits xs) f).1;
    returns = λ xs m f s p rest l e. let k = split-and (eqb (length xs) n) (every L.fits xs) f in
        ap (λ j. read_all L.read j s p) (sym m) ∙ all-returns xs k.1 s p rest l e;
    written = λ s h p xs q e. let k = all-written n s h p xs q e in (k.0, both-and _ _ (eq-eqb (length xs) n k.0) k.1, k.2);
  }
