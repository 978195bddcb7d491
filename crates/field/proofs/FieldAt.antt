-- A field in two parts, and a field within a wider one: so a field can be read from the whole bytes that it spans, and stored with them. Rests
-- on the definition's laws of bits.
use mathlib.Core.Path.{◌≡◌, refl, sym, ap, ◌∙◌, subst}
use mathlib.Core.List.{List, [], ◌∷◌, ◌++◌}
use Prim.Native.Nat.{ℕ, ◌+◌, ◌*◌, ◌/◌, ◌%◌, ◌^◌, ◌≤◌, ◌<◌}
use native.Mathlib.Omega.{arith}
use lib.ListN.{length, take, drop, get_or, length-append, length-drop}
use lib.Seq.{take-add, drop-drop, drop-cons, length-take-le}
use lib.Pow.{pow-add, high, low, field as pow-field}
use Rattle.definition.specs.Field.{bits, number, field_at}
use Rattle.definition.proofs.Bits.{Bits, number-below, bits-number, Bits-take, Bits-drop}

-- the number of bits, one row behind another
pub number_append : (xs ys : List ℕ) → number (xs ++ ys) ≡ number xs * 2 ^ length ys + number ys
unfolding number
number_append [] ys = omega arith
number_append (x ∷ xs) ys = rw (number_append xs ys, length-append xs ys, pow-add 2 (length xs) (length ys)) (regroup (2 ^ length xs) (2 ^ length ys))
  where
    regroup : (a b : ℕ) → x * (a * b) + (number xs * b + number ys) ≡ (x * a + number xs) * b + number ys
    regroup a b = omega arith

-- a field of no bits, and of one
pub field-none : (s : List ℕ) (p : ℕ) → field_at s p 0 ≡ 0
unfolding field_at number
field-none s p = refl

pub field-one : (s : List ℕ) (p : ℕ) → p < length s → field_at s p 1 ≡ get_or s p 0
unfolding field_at number
field-one s p l = ap (λ t. number (take 1 t)) (drop-cons s p 0 l) ∙ omega arith

pub field-length : (s : List ℕ) (p w : ℕ) → p + w ≤ length s → length (take w (drop p s)) ≡ w
field-length s p w h = length-take-le w (drop p s) (omega (arith, length-drop p s))

module _ (s : List ℕ) (o : Bits s) where
  pub field_below : (p w : ℕ) → p + w ≤ length s → field_at s p w < 2 ^ w
  unfolding field_at
  field_below p w h = subst (λ n. field_at s p w < 2 ^ n) (field-length s p w h) (number-below (take w (drop p s)) (Bits-take w (drop p s) (Bits-drop p s o)))

  -- its bits are those that stand there
  pub field-bits : (p w : ℕ) → p + w ≤ length s → bits w (field_at s p w) ≡ take w (drop p s)
  unfolding field_at
  field-bits p w h = ap (λ n. bits n (field_at s p w)) (sym (field-length s p w h)) ∙ bits-number (take w (drop p s)) (Bits-take w (drop p s) (Bits-drop p s o))

  -- ## Two parts
  module _ (p a b : ℕ) (h : p + (a + b) ≤ length s) where
    pub field-parts : field_at s p (a + b) ≡ field_at s p a * 2 ^ b + field_at s (p + a) b
    unfolding field_at
    field-parts =
        ap number (take-add a b (drop p s) ∙ ap (λ bs. take a (drop p s) ++ take b bs) (drop-drop a p s))
        ∙ number_append (take a (drop p s)) (take b (drop (p + a) s))
        ∙ ap (λ n. number (take a (drop p s)) * 2 ^ n + number (take b (drop (p + a) s))) (field-length s (p + a) b (omega arith))

    pub field-front : field_at s p (a + b) / 2 ^ b ≡ field_at s p a
    field-front = ap (◌/ 2 ^ b) field-parts ∙ high (field_at s p a) b (field_below (p + a) b (omega arith))

    pub field_back : field_at s p (a + b) % 2 ^ b ≡ field_at s (p + a) b
    field_back = ap (◌% 2 ^ b) field-parts ∙ low (field_at s p a) b (field_below (p + a) b (omega arith))

  -- ## A field of `width` bits within a wider one: `before` bits stand before it, `behind` bits behind it
  pub field-within : (p before width behind : ℕ) → p + (before + (width + behind)) ≤ length s
      → field_at s p (before + (width + behind)) / 2 ^ behind % 2 ^ width ≡ field_at s (p + before) width
  field-within p before width behind h =
      sym (pow-field (field_at s p (before + (width + behind))) width behind)
      ∙ ap (◌/ 2 ^ behind) (field_back p before (width + behind) h) ∙ field-front (p + before) width behind (omega arith)
