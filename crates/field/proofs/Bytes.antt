-- Whole bytes: which of them a field spans, and the field as it is taken from their number. Rests on the laws of fields in parts.
use mathlib.Core.Path.{◌≡◌, sym, ap, ◌∙◌}
use mathlib.Core.List.{List, [], ◌∷◌, ◌++◌, flat_map}
use Prim.Native.Nat.{ℕ, suc, ◌+◌, ◌*◌, ◌-◌, ◌/◌, ◌%◌, ◌^◌, ◌≤◌, ◌<◌}
use native.Mathlib.Nat.{lt_of_lt_of_le}
use native.Mathlib.Omega.{arith}
use lib.ListN.{length, take, drop, get_or, take-append-drop}
use lib.Seq.{take_at, drop_at, drop-cons, length-take-le}
use lib.Pow.{pow_mono}
use Rattle.std.proofs.lemmas.List.{length-take, get_or-take, get_or-drop}
use Rattle.laws.proofs.Lists.{All-at}
use Rattle.laws.proofs.Spread.{flat_map-append}
use Rattle.definition.specs.Field.{bits, number, sheet_bits, bytes_for, field_at}
use Rattle.definition.proofs.Bits.{Bytes, length-bits, number-bits, sheet-bits, length-sheet_bits}
use Rattle.field.proofs.FieldAt.{field_below, field-parts, field-within}

-- bytes, as what is known of a slice's elements says it
pub known_bytes : (s : List ℕ) → ((j : ℕ) → get_or s j 0 < 256) → Bytes s
known_bytes [] h = tt
known_bytes (b ∷ s) h = (h 0, known_bytes s (λ j. h (suc j)))

-- ## Bits of bytes: eight for each
module _ (s : List ℕ) (i : ℕ) (h : i ≤ length s) where
  bytes_apart : sheet_bits s ≡ sheet_bits (take i s) ++ sheet_bits (drop i s)
  unfolding sheet_bits
  bytes_apart = ap (flat_map (bits 8)) (sym (take-append-drop i s)) ∙ flat_map-append (bits 8) (take i s) (drop i s)

  front_length : length (sheet_bits (take i s)) ≡ 8 * i
  front_length = length-sheet_bits (take i s) ∙ ap (8 *◌) (length-take-le i s h)

  pub take-bytes : take (8 * i) (sheet_bits s) ≡ sheet_bits (take i s)
  take-bytes = ap (take (8 * i)) bytes_apart ∙ take_at (sheet_bits (take i s)) (sheet_bits (drop i s)) (8 * i) front_length

  pub drop-bytes : drop (8 * i) (sheet_bits s) ≡ sheet_bits (drop i s)
  drop-bytes = ap (drop (8 * i)) bytes_apart ∙ drop_at (sheet_bits (take i s)) (sheet_bits (drop i s)) (8 * i) front_length

-- ## Numbers of bytes
module _ (s : List ℕ) (o : Bytes s) where
  -- a byte is the field of its eight bits
  byte-field : (i : ℕ) → i < length s → field_at (sheet_bits s) (8 * i) 8 ≡ get_or s i 0
  unfolding field_at sheet_bits flat_map
  byte-field i h =
      let b = get_or s i 0 in
      ap (λ bs. number (take 8 bs)) (drop-bytes s i (omega arith) ∙ ap sheet_bits (drop-cons s i 0 h))
      ∙ ap number (take_at (bits 8 b) (sheet_bits (drop (suc i) s)) 8 (length-bits 8 b)) ∙ number-bits 8 b (All-at _ s 0 o i h)

  pub bytes_below : (first count most : ℕ) → count ≤ most → first + count ≤ length s → field_at (sheet_bits s) (8 * first) (8 * count) < 2 ^ (8 * most)
  bytes_below first count most few h =
      lt_of_lt_of_le (field_below (sheet_bits s) (sheet-bits s o) (8 * first) (8 * count) (omega (arith, length-sheet_bits s)))
      (pow_mono {i = 8 * count} {j = 8 * most} (omega arith))

  -- one byte more: of so many bytes, or up to an index
  pub bytes-next : (first count : ℕ) → first + count < length s
      → field_at (sheet_bits s) (8 * first) (8 * (count + 1)) ≡ field_at (sheet_bits s) (8 * first) (8 * count) * 256 + get_or s (first + count) 0
  bytes-next first count h =
      let n : 8 * (count + 1) ≡ 8 * count + 8 = omega arith in
      let p : 8 * first + 8 * count ≡ 8 * (first + count) = omega arith in
      ap (field_at (sheet_bits s) (8 * first)) n
      ∙ field-parts (sheet_bits s) (sheet-bits s o) (8 * first) (8 * count) 8 (omega (arith, length-sheet_bits s))
      ∙ ap (field_at (sheet_bits s) (8 * first) (8 * count) * 256 +◌) (ap (λ q. field_at (sheet_bits s) q 8) p ∙ byte-field (first + count) h)

  pub bytes-more : (first index : ℕ) → first ≤ index → index < length s
      → field_at (sheet_bits s) (8 * first) (8 * (index + 1 - first)) ≡ field_at (sheet_bits s) (8 * first) (8 * (index - first)) * 256 + get_or s index 0
  bytes-more first index l h =
      let n : index + 1 - first ≡ index - first + 1 = omega arith in
      let i : first + (index - first) ≡ index = omega arith in
      ap (λ k. field_at (sheet_bits s) (8 * first) (8 * k)) n ∙ bytes-next first (index - first) (omega arith)
      ∙ ap (λ j. field_at (sheet_bits s) (8 * first) (8 * (index - first)) * 256 + get_or s j 0) i

-- the bytes of a part of a sheet: where they stand, and what they are
module _ (s : List ℕ) (first past k : ℕ) (h : k < length (take (past - first) (drop first s))) where
  pub part-place : first + k < past
  part-place = omega (arith, length-take (past - first) (drop first s))

  pub part-byte : get_or (take (past - first) (drop first s)) k 0 ≡ get_or s (first + k) 0
  part-byte = get_or-take (past - first) (drop first s) k 0 (omega (arith, part-place)) ∙ get_or-drop first s k 0

-- ## The bytes that a field spans
module _ (at width : ℕ) where
  -- the first of them, and the byte behind the last
  abbrev pub first : ℕ
  first = at / 8

  abbrev pub past : ℕ
  past = bytes_for (at + width)

  -- how many of their bits stand behind the field
  abbrev pub behind : ℕ
  behind = 8 * past - (at + width)

  -- their number
  abbrev pub spelled : List ℕ → ℕ
  spelled s = field_at (sheet_bits s) (8 * first) (8 * (past - first))

  -- how many at most, by the width: of 01's fields a flag (1 bit) lies in 1 byte; a choice (2), a weekday (3), a month (4), nth bits (5), a week
  -- (6) and its step (8) in 2; a count (10), minutes (12), a year (14), a comment, a year's step and an offset (16) in 3; a reference (32) in 5
  pub spanned : past ≤ first + (width + 14) / 8
  spanned = omega arith

  -- their bits: those before the field, its own, those behind it
  pub spanned-bits : at % 8 + (width + behind) ≡ 8 * (past - first)
  spanned-bits = omega arith

  pub spanned-place : 8 * first + at % 8 ≡ at
  spanned-place = omega arith

  pub spanned-field : (s : List ℕ) → Bytes s → at + width ≤ 8 * length s → spelled s / 2 ^ behind % 2 ^ width ≡ field_at (sheet_bits s) at width
  spanned-field s o l =
      ap (λ n. field_at (sheet_bits s) (8 * first) n / 2 ^ behind % 2 ^ width) (sym spanned-bits)
      ∙ field-within (sheet_bits s) (sheet-bits s o) (8 * first) (at % 8) width behind (omega (arith, length-sheet_bits s))
      ∙ ap (λ q. field_at (sheet_bits s) q width) spanned-place
