-- Whole bytes stored: a byte in a buffer is its eight bits among the buffer's, and a number of bytes, stored with a value in place of
-- some of its bits, is the value's bits stored there. Rests on crate `field`'s laws of fields in parts and of whole bytes.
use mathlib.Core.Path.{◌≡◌, sym, ap, ap₂, ◌∙◌, subst}
use mathlib.Core.List.{List, ◌∷◌, ◌++◌, flat_map, append_assoc}
use Prim.Native.Nat.{ℕ, suc, ◌+◌, ◌*◌, ◌-◌, ◌/◌, ◌%◌, ◌^◌, ◌≤◌, ◌<◌}
use native.Mathlib.Nat.{mod-lt, mul-le-mul_right}
use native.Mathlib.Omega.{arith}
use lib.ListN.{length, set, take, drop, get_or, length-append, take-append-drop}
use lib.Seq.{sets, sets-eq, set_split, take-add, drop-drop}
use lib.Pow.{pow-add, pow_pos, shr_lt, split, high, low}
use Rattle.laws.proofs.Lists.{All-append, All-at}
use Rattle.laws.proofs.Spread.{flat_map-append}
use Rattle.laws.proofs.Stores.{sets_behind}
use Rattle.definition.specs.Field.{bits, number, sheet_bits, field_at}
use Rattle.definition.proofs.Bits.{Bits, Bytes, length-bits, number-bits, number-below, bits-number, bits-are-bits, Bits-take, Bits-drop, sheet-bits, length-sheet_bits}
use Rattle.field.proofs.FieldAt.{number_append, field-none, field-length, field-parts, field-front, field_back, field-within}
use Rattle.field.proofs.Bytes.{take-bytes, drop-bytes, bytes-more, first, past, behind, spanned-bits, spanned-place}

-- ## A number by its bits
by_bits : (bs : List ℕ) → Bits bs → (n v : ℕ) → length bs ≡ n → number bs ≡ v → (bits n v ≡ bs) × (v < 2 ^ n)
by_bits bs o n v k e = (ap₂ bits (sym k) (sym e) ∙ bits-number bs o, subst (λ m. v < 2 ^ m) k (subst (λ x. x < 2 ^ length bs) e (number-below bs o)))

bits-split : (a b v : ℕ) → v < 2 ^ (a + b) → bits (a + b) v ≡ bits a (v / 2 ^ b) ++ bits b (v % 2 ^ b)
bits-split a b v h =
    let hi = bits a (v / 2 ^ b) in
    let lo = bits b (v % 2 ^ b) in
    let hi-fits = shr_lt a b h in
    let lo-fits = mod-lt v (pow_pos b) in
    (by_bits (hi ++ lo) (All-append _ hi lo (bits-are-bits a (v / 2 ^ b) hi-fits) (bits-are-bits b (v % 2 ^ b) lo-fits)) (a + b) v
    (length-append hi lo ∙ ap₂ ◌+◌ (length-bits a (v / 2 ^ b)) (length-bits b (v % 2 ^ b)))
    (number_append hi lo ∙ rw (number-bits a (v / 2 ^ b) hi-fits, number-bits b (v % 2 ^ b) lo-fits, length-bits b (v % 2 ^ b)) (split v b))).0

-- ## Bytes of a buffer
pub byte-set : (s : List ℕ) (i y : ℕ) → i < length s → sheet_bits (set s i y) ≡ sets (sheet_bits s) (8 * i) (bits 8 y)
unfolding sheet_bits flat_map
byte-set s i y h =
    let e : 8 * suc i ≡ 8 * i + length (bits 8 y) = omega (arith, length-bits 8 y) in
    ap sheet_bits (set_split s i y h) ∙ flat_map-append (bits 8) (take i s) (y ∷ drop (suc i) s)
    ∙ sym (append_assoc (sheet_bits (take i s)) (bits 8 y) (sheet_bits (drop (suc i) s)))
    ∙ sym (sets-eq (bits 8 y) (sheet_bits s) (8 * i) (omega (arith, length-bits 8 y, length-sheet_bits s))
    ∙ ap₂ (λ u v. u ++ bits 8 y ++ v) (take-bytes s i (omega arith)) (ap (λ n. drop n (sheet_bits s)) (sym e) ∙ drop-bytes s (suc i) (omega arith)))

-- the last byte of a number stored, and the rest of the number still to be stored before it
pub last_byte : (s : List ℕ) (first index rest : ℕ) → first < index → index ≤ length s → rest < 2 ^ (8 * (index - first))
    → sets (sheet_bits (set s (index - 1) (rest % 256))) (8 * first) (bits (8 * (index - 1 - first)) (rest / 256))
    ≡ sets (sheet_bits s) (8 * first) (bits (8 * (index - first)) rest)
last_byte s first index rest l h few =
    let front = 8 * (index - 1 - first) in
    let n : 8 * (index - first) ≡ 8 * (index - 1 - first) + 8 = omega arith in
    let p : 8 * (index - 1) ≡ 8 * first + length (bits front (rest / 256)) = omega (arith, length-bits (8 * (index - 1 - first)) (rest / 256)) in
    ap (λ u. sets u (8 * first) (bits front (rest / 256)))
    (byte-set s (index - 1) (rest % 256) (omega arith) ∙ ap (λ q. sets (sheet_bits s) q (bits 8 (rest % 256))) p)
    ∙ sets_behind (sheet_bits s) (8 * first) (bits front (rest / 256)) (bits 8 (rest % 256))
    ∙ ap (sets (sheet_bits s) (8 * first)) (sym (ap (λ k. bits k rest) n ∙ bits-split front 8 rest (subst (λ k. rest < 2 ^ k) n few)))

pub rest_below : (first index rest : ℕ) → first < index → rest < 2 ^ (8 * (index - first)) → rest / 256 < 2 ^ (8 * (index - 1 - first))
rest_below first index rest l few =
    let n : 8 * (index - first) ≡ 8 * (index - 1 - first) + 8 = omega arith in
    shr_lt (8 * (index - 1 - first)) 8 (subst (λ k. rest < 2 ^ k) n few)

-- a number in no bits
pub none-stored : (s : List ℕ) (at width value : ℕ) → width ≡ 0 → s ≡ sets s at (bits width value)
unfolding bits
none-stored s at width value z = sym (ap (λ k. sets s at (bits k value)) z)

-- ## Two numbers as one
pub joined-below : {high low : ℕ} (j k : ℕ) → high < 2 ^ j → low < 2 ^ k → high * 2 ^ k + low < 2 ^ (j + k)
joined-below {high} {low} j k h l =
    let most : suc high * 2 ^ k ≤ 2 ^ j * 2 ^ k = mul-le-mul_right (2 ^ k) h in
    omega (arith, pow-add 2 j k)

pub bits-joined : (a b x y : ℕ) → x < 2 ^ a → y < 2 ^ b → bits a x ++ bits b y ≡ bits (a + b) (x * 2 ^ b + y)
bits-joined a b x y h l =
    sym (bits-split a b (x * 2 ^ b + y) (joined-below a b h l) ∙ ap₂ (λ u v. bits a u ++ bits b v) (high x b l) (low x b l))

-- ## A value among bits: `before` bits stand before it, `behind` bits behind it
module _ (s : List ℕ) (o : Bits s) (p before width behind value : ℕ) (h : p + (before + (width + behind)) ≤ length s) (fits : value < 2 ^ width) where
  -- all of them as one number
  abbrev new : ℕ
  new = (field_at s p before * 2 ^ width + value) * 2 ^ behind + field_at s (p + before + width) behind

  abbrev kept : List ℕ
  kept = take before (drop p s)

  abbrev stored : List ℕ
  stored = bits width value

  abbrev after : List ℕ
  after = take behind (drop (p + before + width) s)

  after-length : length after ≡ behind
  after-length = field-length s (p + before + width) behind (omega arith)

  row-length : length (kept ++ (stored ++ after)) ≡ before + (width + behind)
  row-length = omega (
    arith,
    length-append kept (stored ++ after),
    length-append stored after,
    field-length s p before (omega arith),
    length-bits width value,
    after-length,
  )

  row_number : number (kept ++ (stored ++ after)) ≡ new
  unfolding field_at
  row_number =
      number_append kept (stored ++ after)
      ∙ rw (number_append stored after, length-append stored after, length-bits width value, after-length, number-bits width value fits, pow-add 2 width behind)
      (omega arith)

  with-parts : (bits (before + (width + behind)) new ≡ kept ++ (stored ++ after)) × (new < 2 ^ (before + (width + behind)))
  with-parts =
      by_bits (kept ++ (stored ++ after))
      (All-append _ kept (stored ++ after) (Bits-take before (drop p s) (Bits-drop p s o))
      (All-append _ stored after (bits-are-bits width value fits) (Bits-take behind (drop (p + before + width) s) (Bits-drop (p + before + width) s o))))
      (before + (width + behind)) new row-length row_number

  -- stored with what stands around it, it is stored alone
  with-stored : sets s p (bits (before + (width + behind)) new) ≡ sets s (p + before) (bits width value)
  with-stored =
      let front = take p s in
      let rest = drop (p + before + width + behind) s in
      let e : p + length (bits (before + (width + behind)) new) ≡ p + before + width + behind = omega (arith, length-bits (before + (width + behind)) new) in
      let f : p + before + width ≡ p + before + length (bits width value) = omega (arith, length-bits width value) in
      let tail : after ++ rest ≡ drop (p + before + length stored) s =
      ap (after ++◌) (sym (drop-drop behind (p + before + width) s)) ∙ take-append-drop behind (drop (p + before + width) s) ∙ ap (λ n. drop n s) f in
      sets-eq (bits (before + (width + behind)) new) s p (omega (arith, length-bits (before + (width + behind)) new))
      ∙ ap₂ (λ x n. front ++ x ++ drop n s) with-parts.0 e
      ∙ ap (◌++ rest) (sym (append_assoc front kept (stored ++ after)) ∙ sym (append_assoc (front ++ kept) stored after))
      ∙ append_assoc (front ++ kept ++ stored) after rest
      ∙ ap₂ (λ u v. u ++ stored ++ v) (sym (take-add p before s)) tail
      ∙ sym (sets-eq stored s (p + before) (omega (arith, length-bits width value)))

-- ## In the bytes that a field spans, in the code's numbers: the first byte has the bits before it, the last one those behind it
module _ (s : List ℕ) (o : Bytes s) where
  byte-field : (i : ℕ) → i < length s → field_at (sheet_bits s) (8 * i) 8 ≡ get_or s i 0
  byte-field i h =
      let one : 8 * (i + 1 - i) ≡ 8 = omega arith in
      let none : 8 * (i - i) ≡ 0 = omega arith in
      ap (field_at (sheet_bits s) (8 * i)) (sym one) ∙ bytes-more s o i i (omega arith) h ∙ rw (none, field-none) (omega arith)

  module _ (at width value : ℕ) (h : at + width ≤ 8 * length s) (some : 0 < width) (fits : value < 2 ^ width) where
    -- before it there are fewer bits than fill the byte
    pub before-below : get_or s (first at width) 0 / 2 ^ (8 - at % 8) < 2 ^ (at % 8)
    before-below =
        let n : 8 ≡ at % 8 + (8 - at % 8) = omega arith in
        shr_lt (at % 8) (8 - at % 8) (subst (λ k. get_or s (first at width) 0 < 2 ^ k) n (All-at _ s 0 o (first at width) (omega arith)))

    kept-before : field_at (sheet_bits s) (8 * first at width) (at % 8) ≡ get_or s (first at width) 0 / 2 ^ (8 - at % 8)
    kept-before =
        let n : at % 8 + (8 - at % 8) ≡ 8 = omega arith in
        sym (field-front (sheet_bits s) (sheet-bits s o) (8 * first at width) (at % 8) (8 - at % 8) (omega (arith, length-sheet_bits s)))
        ∙ ap (λ k. field_at (sheet_bits s) (8 * first at width) k / 2 ^ (8 - at % 8)) n ∙ ap (◌/ 2 ^ (8 - at % 8)) (byte-field (first at width) (omega arith))

    kept-behind : field_at (sheet_bits s) (8 * first at width + at % 8 + width) (behind at width) ≡ get_or s (past at width - 1) 0 % 2 ^ behind at width
    kept-behind =
        let last = past at width - 1 in
        let n : 8 - behind at width + behind at width ≡ 8 = omega arith in
        let inside : past at width - 1 < length s = omega arith in
        let whole : 8 * (past at width - 1) + 8 ≤ length (sheet_bits s) = omega (arith, length-sheet_bits s, inside) in
        let q : 8 * (past at width - 1) + (8 - behind at width) ≡ 8 * first at width + at % 8 + width = omega arith in
        ap (λ k. field_at (sheet_bits s) k (behind at width)) (sym q)
        ∙ sym (field_back (sheet_bits s) (sheet-bits s o) (8 * last) (8 - behind at width) (behind at width) (rw n whole))
        ∙ ap (λ k. field_at (sheet_bits s) (8 * last) k % 2 ^ behind at width) n ∙ ap (◌% 2 ^ behind at width) (byte-field last inside)

    all-bits : 8 * first at width + (at % 8 + (width + behind at width)) ≤ length (sheet_bits s)
    all-bits = omega (arith, length-sheet_bits s)

    -- the number that is stored in them
    module _ (number : ℕ)
        (made : number ≡ (get_or s (first at width) 0 / 2 ^ (8 - at % 8) * 2 ^ width + value) * 2 ^ behind at width + get_or s (past at width - 1) 0 % 2 ^ behind at width) where
      in_parts : number
          ≡ (field_at (sheet_bits s) (8 * first at width) (at % 8) * 2 ^ width + value) * 2 ^ behind at width
          + field_at (sheet_bits s) (8 * first at width + at % 8 + width) (behind at width)
      in_parts = rw (kept-before, kept-behind) made

      pub spanned-below : number < 2 ^ (8 * (past at width - first at width))
      spanned-below =
          subst (λ n. number < 2 ^ n) (spanned-bits at width)
          (rw in_parts (with-parts (sheet_bits s) (sheet-bits s o) (8 * first at width) (at % 8) width (behind at width) value all-bits fits).1)

      pub spanned-stored : sets (sheet_bits s) (8 * first at width) (bits (8 * (past at width - first at width)) number) ≡ sets (sheet_bits s) at (bits width value)
      spanned-stored =
          ap₂ (λ n x. sets (sheet_bits s) (8 * first at width) (bits n x)) (sym (spanned-bits at width)) in_parts
          ∙ with-stored (sheet_bits s) (sheet-bits s o) (8 * first at width) (at % 8) width (behind at width) value all-bits fits
          ∙ ap (λ q. sets (sheet_bits s) q (bits width value)) (spanned-place at width)

  -- a byte's bits from any place on, out of the two bytes in which they stand
  pub byte-within : (p i two : ℕ) → i ≡ p / 8 → p / 8 + 2 ≤ length s → two ≡ get_or s i 0 * 256 + get_or s (i + 1) 0
      → two / 2 ^ (8 - p % 8) % 256 ≡ field_at (sheet_bits s) p 8
  byte-within p i two place h made =
      let bits16 : p % 8 + (8 + (8 - p % 8)) ≡ 16 = omega arith in
      let from : 8 * (p / 8) + p % 8 ≡ p = omega arith in
      let one : 8 * i + 8 ≡ 8 * (i + 1) = omega arith in
      let pair : two ≡ field_at (sheet_bits s) (8 * (p / 8)) 16 =
      made
      ∙ sym (field-parts (sheet_bits s) (sheet-bits s o) (8 * i) 8 8 (omega (arith, length-sheet_bits s, place))
      ∙ ap₂ (λ a b. a * 256 + b) (byte-field i (omega (arith, place))) (ap (λ q. field_at (sheet_bits s) q 8) one ∙ byte-field (i + 1) (omega (arith, place))))
      ∙ ap (λ q. field_at (sheet_bits s) (8 * q) 16) place in
      ap (λ n. n / 2 ^ (8 - p % 8) % 256) (pair ∙ ap (field_at (sheet_bits s) (8 * (p / 8))) (sym bits16))
      ∙ field-within (sheet_bits s) (sheet-bits s o) (8 * (p / 8)) (p % 8) 8 (8 - p % 8) (omega (arith, length-sheet_bits s))
      ∙ ap (λ q. field_at (sheet_bits s) q 8) from
