-- Texts put one behind the other, and numbers by their digits.
use mathlib.Core.Path.{◌≡◌, refl, sym, ap, ap₂, ◌∙◌}
use mathlib.Core.List.{List, [], ◌∷◌, ◌++◌}
use mathlib.Core.Bool.{Bool, true, false}
use Prim.Native.Nat.{ℕ, zero, suc, ◌+◌, ◌-◌, ◌/◌, ◌%◌, ◌≤◌, ◌<◌}
use native.Mathlib.Omega.{arith}
use lib.Dec.{ltb}
use native.Mathlib.Numerals.{add-one}
use lib.ListN.{length, get_or, take, drop, set, length-append}
use lib.Seq.{take-suc, take_all, length-take-le, set_out, sets, length-sets}
use borrow.Author.Tests.{lt-ltb, le-ltb, ltb-false}
use Rattle.laws.proofs.Stores.{sets-append}
use Rattle.definition.specs.Text.{digits, decimal_in, decimal}
use Rattle.text.specs.Put.{Put}

-- ## One behind the other
pub put-none : (l : List ℕ) (p : ℕ) → Put l p [] p l
put-none l p = record { ends = omega arith; stored = refl }

pub put_then : {l m n : List ℕ} {p q r : ℕ} {t u : List ℕ} → Put l p t q m → Put m q u r n → Put l p (t ++ u) r n
put_then {l} {m} {n} {p} {q} {r} {t} {u} a b = record {
  ends = omega (arith, a.ends, b.ends, length-append t u);
  stored = b.stored ∙ ap₂ (λ x i. sets x i u) a.stored a.ends ∙ sym (sets-append l p t u);
}

-- the same text, said otherwise
pub put_as : {l m : List ℕ} {p q : ℕ} {t u : List ℕ} → t ≡ u → Put l p t q m → Put l p u q m
put_as {l} {m} {p} {q} e a = rw e at a

-- a byte that has room, and one that has none
pub byte-in : (l m : List ℕ) (p b : ℕ) → m ≡ set l p b → Put l p (b ∷ []) (p + 1) m
byte-in l m p b e = record { ends = refl; stored = e }

pub byte-out : (l m : List ℕ) (p b : ℕ) → length l ≤ p → m ≡ l → Put l p (b ∷ []) (p + 1) m
byte-out l m p b h e = record { ends = refl; stored = e ∙ sym (set_out l p b h) }

-- the buffer stays as long as it was
pub put-length : {l m : List ℕ} {p q : ℕ} {t : List ℕ} → Put l p t q m → length m ≡ length l
put-length {l} {m} {p} {q} {t} a = ap length a.stored ∙ length-sets l p t

-- a word, byte after byte
pub word_none : (l : List ℕ) (p : ℕ) (word : List ℕ) → Put l p (take 0 word) (p + 0) l
word_none l p word = record { ends = refl; stored = refl }

pub word_next : (l m n : List ℕ) (p : ℕ) (word : List ℕ) (i q : ℕ) → i < length word → Put l p (take i word) (p + i) m → Put m (p + i) (get_or word i 0 ∷ []) q n
    → Put l p (take (i + 1) word) (p + (i + 1)) n
word_next l m n p word i q h a b =
    let both = put_as (sym (take-suc word i 0 h) ∙ ap (λ j. take j word) (sym (add-one i))) (put_then a b) in
    record { ends = omega (arith, length-take-le (i + 1) word (omega arith)); stored = both.stored }

pub word-all : (l m : List ℕ) (p : ℕ) (word : List ℕ) (i : ℕ) → i ≤ length word → length word ≤ i → Put l p (take i word) (p + i) m
    → Put l p word (p + length word) m
word-all l m p word i h k a = record { ends = refl; stored = a.stored ∙ ap (sets l p) (take_all i word k) }

-- a part of some names, from a start to an end that lies the width behind it
pub name-put : (l m names : List ℕ) (p q start width : ℕ) → Put l p (take (start + width - start) (drop start names)) q m
    → Put l p (take width (drop start names)) q m
name-put l m names p q start width = put_as (let z : start + width - start ≡ width = omega arith in ap (λ n. take n (drop start names)) z)

-- ## Digits
pub two_digits : (v : ℕ) → (48 + v / 10) ∷ (48 + v % 10) ∷ [] ≡ digits 2 v
unfolding digits
two_digits v = let z : v % 10 ≡ v % 10 / 1 = omega arith in ap (λ d. (48 + v / 10) ∷ (48 + d) ∷ []) z

pub four-digits : (v : ℕ) → digits 2 (v / 100) ++ digits 2 (v % 100) ≡ digits 4 v
unfolding digits
four-digits v =
    let a : v / 100 / 10 ≡ v / 1000 = omega arith in
    let b : v / 100 % 10 / 1 ≡ v % 1000 / 100 = omega arith in
    let c : v % 100 / 10 ≡ v % 1000 % 100 / 10 = omega arith in
    let d : v % 100 % 10 / 1 ≡ v % 1000 % 100 % 10 / 1 = omega arith in
    rw (a, b, c, d)

decimal-enough : (n m v : ℕ) → v < n → v < m → decimal_in n v ≡ decimal_in m v
unfolding decimal_in
decimal-enough zero m v h k = absurd (omega arith)
decimal-enough (suc n) zero v h k = absurd (omega arith)
decimal-enough (suc n) (suc m) v h k = go (ltb v 10) refl (decimal-enough n m (v / 10))
  where
    go : (b : Bool) → ltb v 10 ≡ b → (v / 10 < n → v / 10 < m → decimal_in n (v / 10) ≡ decimal_in m (v / 10)) → decimal_in (suc n) v ≡ decimal_in (suc m) v
    go true e ih = rw (e, decimal_in)
    go false e ih = rw (e, decimal_in) (ap (◌++ ((48 + v % 10) ∷ [])) (ih (omega (arith, ltb-false v 10 e)) (omega (arith, ltb-false v 10 e))))

pub decimal_digit : (v : ℕ) → v < 10 → (48 + v) ∷ [] ≡ decimal v
unfolding decimal_in
decimal_digit v l = sym (rw (lt-ltb v 10 l, decimal_in))

pub decimal-more : (v : ℕ) → 10 ≤ v → decimal (v / 10) ++ ((48 + v % 10) ∷ []) ≡ decimal v
unfolding decimal_in
decimal-more v l = sym (rw (le-ltb v 10 l, decimal_in) (ap (◌++ ((48 + v % 10) ∷ [])) (decimal-enough v (suc (v / 10)) (v / 10) (omega arith) (omega arith))))

pub longer : (v : ℕ) → 10 ≤ v → length (decimal v) ≡ length (decimal (v / 10)) + 1
longer v l = ap length (sym (decimal-more v l)) ∙ length-append (decimal (v / 10)) ((48 + v % 10) ∷ [])
