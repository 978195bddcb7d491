-- Bits, numbers and bytes: what is written in bits is read back. Rests on the kit's laws of powers and lists.
use mathlib.Core.Path.{◌≡◌, refl, sym, ap, ap₂, ◌∙◌}
use mathlib.Core.List.{List, [], ◌∷◌, ◌++◌, flat_map}
use Prim.Native.Nat.{ℕ, zero, suc, ◌+◌, ◌*◌, ◌%◌, ◌^◌, ◌<◌}
use native.Mathlib.Omega.{arith}
use native.Mathlib.Nat.{mod-lt}
use lib.ListN.{length, take, drop, length-append, length-drop, take-append-drop}
use lib.Seq.{take_at, drop_at, length-take-le}
use lib.Pow.{pow_pos, split, high, low, shr_lt}
use Rattle.laws.specs.Lists.{All}
use Rattle.laws.proofs.Lists.{All-append, All-take}
use Rattle.definition.specs.Field.{bits, number, sheet_bits, bytes}

-- bits are 0 or 1, bytes are below 256
abbrev pub Bits : List ℕ → Type 0
Bits = All (λ b. b < 2)

abbrev pub Bytes : List ℕ → Type 0
Bytes = All (λ b. b < 256)

-- ## Numbers
pub length-bits : (w v : ℕ) → length (bits w v) ≡ w
unfolding bits
length-bits zero v = refl
length-bits (suc w) v = ap suc (length-bits w (v % 2 ^ w))

pub number-bits : (w v : ℕ) → v < 2 ^ w → number (bits w v) ≡ v
unfolding bits number
number-bits zero v h = omega arith
number-bits (suc w) v h = rw (length-bits w (v % 2 ^ w), number-bits w (v % 2 ^ w) (mod-lt v (pow_pos w))) (split v w)

pub number-below : (bs : List ℕ) → Bits bs → number bs < 2 ^ length bs
unfolding number
number-below [] h = omega arith
number-below (b ∷ bs) h = go b h.0 (number-below bs h.1)
  where
    go : (c : ℕ) → c < 2 → number bs < 2 ^ length bs → c * 2 ^ length bs + number bs < 2 ^ suc (length bs)
    go zero k l = omega arith
    go (suc zero) k l = omega arith
    go (suc (suc c)) k l = absurd (omega arith)

pub bits-number : (bs : List ℕ) → Bits bs → bits (length bs) (number bs) ≡ bs
unfolding bits number
bits-number [] h = refl
bits-number (b ∷ bs) h =
    rw (high b (length bs) (number-below bs h.1), low b (length bs) (number-below bs h.1)) (ap (b ∷◌) (bits-number bs h.1))

pub bits-are-bits : (w v : ℕ) → v < 2 ^ w → Bits (bits w v)
unfolding bits
bits-are-bits zero v l = tt
bits-are-bits (suc w) v l = (let q : 1 + w ≡ suc w = omega arith in shr_lt 1 w (rw q l), bits-are-bits w (v % 2 ^ w) (mod-lt v (pow_pos w)))

pub Bits-take : (w : ℕ) (bs : List ℕ) → Bits bs → Bits (take w bs)
Bits-take w bs h = All-take (λ b. b < 2) w bs h

pub Bits-drop : (i : ℕ) (bs : List ℕ) → Bits bs → Bits (drop i bs)
Bits-drop zero bs h = h
Bits-drop (suc i) [] h = tt
Bits-drop (suc i) (b ∷ bs) h = Bits-drop i bs h.1

-- ## Bytes
pub sheet-bits : (s : List ℕ) → Bytes s → Bits (sheet_bits s)
unfolding sheet_bits flat_map
sheet-bits [] h = tt
sheet-bits (b ∷ s) h = All-append _ (bits 8 b) (flat_map (bits 8) s) (bits-are-bits 8 b h.0) (sheet-bits s h.1)

pub length-sheet_bits : (s : List ℕ) → length (sheet_bits s) ≡ 8 * length s
unfolding sheet_bits flat_map
length-sheet_bits [] = refl
length-sheet_bits (b ∷ s) = length-append (bits 8 b) (flat_map (bits 8) s) ∙ omega (arith, length-bits 8 b, length-sheet_bits s)

pub length-bytes : (n : ℕ) (bs : List ℕ) → length (bytes n bs) ≡ n
unfolding bytes
length-bytes zero bs = refl
length-bytes (suc n) bs = ap suc (length-bytes n (drop 8 bs))

-- a sheet's bits, as bytes again
pub bytes-sheet : (s : List ℕ) → Bytes s → bytes (length s) (sheet_bits s) ≡ s
unfolding bytes sheet_bits flat_map
bytes-sheet [] h = refl
bytes-sheet (b ∷ s) h =
    ap₂ ◌∷◌ (ap number (take_at (bits 8 b) (flat_map (bits 8) s) 8 (length-bits 8 b)) ∙ number-bits 8 b h.0)
    (ap (bytes (length s)) (drop_at (bits 8 b) (flat_map (bits 8) s) 8 (length-bits 8 b)) ∙ bytes-sheet s h.1)

-- whole bytes of bits, as bits again
pub sheet-bytes : (n : ℕ) (bs : List ℕ) → Bits bs → length bs ≡ 8 * n → sheet_bits (bytes n bs) ≡ bs
unfolding bytes sheet_bits flat_map
sheet-bytes zero [] h e = refl
sheet-bytes zero (b ∷ bs) h e = absurd (omega arith)
sheet-bytes (suc n) bs h e =
    let l : length (take 8 bs) ≡ 8 = length-take-le 8 bs (omega arith) in
    ap₂ ◌++◌ (ap (λ w. bits w (number (take 8 bs))) (sym l) ∙ bits-number (take 8 bs) (Bits-take 8 bs h))
    (sheet-bytes n (drop 8 bs) (Bits-drop 8 bs h) (omega (arith, length-drop 8 bs))) ∙ take-append-drop 8 bs
