-- BITS AT THE FRONT OF A BUFFER: a buffer in which some bits and their padding were stored from the first bit on is these bits packed,
-- then what stood there. Rests on the laws of bits and bytes.
use mathlib.Core.Path.{◌≡◌, refl, sym, ap, ap₂, ◌∙◌}
use mathlib.Core.List.{List, [], ◌∷◌, ◌++◌, flat_map}
use Prim.Native.Nat.{ℕ, zero, suc, ◌+◌, ◌*◌, ◌-◌, ◌/◌, ◌^◌, ◌≤◌}
use native.Mathlib.Nat.{zero-div, zero-mod}
use native.Mathlib.Omega.{arith}
use lib.ListN.{length, take, drop, replicate, length-append, length-drop, length-replicate}
use lib.Seq.{sets-eq, take-append-le, drop-append-le, drop-append-add}
use Rattle.definition.specs.Field.{bits, number, sheet_bits, bytes_for, bytes, packed, field, ◌then◌, via, tagged, several}
use Rattle.definition.specs.Rule.{Rule}
use Rattle.definition.specs.Sheet.{Form, sheet_limits, opening_width, rule, opening, rules}
use Rattle.definition.specs.Fold.{buffer}
use Rattle.definition.proofs.Bits.{Bytes, length-bits, length-sheet_bits, length-bytes, bytes-sheet}
use Rattle.item_writer.specs.Written.{Wrote}
use Rattle.item_writer.proofs.Chain.{same_size}
use Rattle.sheet_writer.specs.Frame.{padding}

-- ## Zero bits
zero_bits : (w : ℕ) → bits w 0 ≡ replicate w 0
unfolding bits
zero_bits zero = refl
zero_bits (suc w) = ap₂ ◌∷◌ (zero-div (2 ^ w)) (ap (bits w) (zero-mod (2 ^ w)) ∙ zero_bits w)

pub padding-bits : (n : ℕ) → bits ((n + 7) / 8 * 8 - n) 0 ≡ padding n
unfolding padding
padding-bits n = let e : (n + 7) / 8 * 8 - n ≡ 8 * bytes_for n - n = omega arith in zero_bits ((n + 7) / 8 * 8 - n) ∙ ap (λ w. replicate w 0) e

pub padding-length : (n : ℕ) → n + length (padding n) ≡ 8 * bytes_for n
unfolding padding
padding-length n = omega (arith, length-replicate {A = ℕ} (8 * bytes_for n - n) 0)

-- ## Bytes
bytes-append : (n m : ℕ) (xs ys : List ℕ) → length xs ≡ 8 * n → bytes (n + m) (xs ++ ys) ≡ bytes n xs ++ bytes m ys
unfolding bytes
bytes-append zero m [] ys e = let z : 0 + m ≡ m = omega arith in ap (λ k. bytes k ys) z
bytes-append zero m (x ∷ xs) ys e = absurd (omega arith)
bytes-append (suc n) m xs ys e =
    let z : suc n + m ≡ suc (n + m) = omega arith in
    ap (λ k. bytes k (xs ++ ys)) z
    ∙ ap₂ (λ a b. number a ∷ bytes (n + m) b) (take-append-le 8 xs ys (omega arith)) (drop-append-le 8 xs ys (omega arith))
    ∙ ap (number (take 8 xs) ∷◌) (bytes-append n m (drop 8 xs) ys (omega (arith, length-drop 8 xs)))

drop-bytes : (n : ℕ) (s : List ℕ) → n ≤ length s → drop (8 * n) (sheet_bits s) ≡ sheet_bits (drop n s)
unfolding sheet_bits flat_map
drop-bytes zero s h = refl
drop-bytes (suc n) [] h = absurd (omega arith)
drop-bytes (suc n) (x ∷ s) h =
    let z : 8 * suc n ≡ length (bits 8 x) + 8 * n = omega (arith, length-bits 8 x) in
    ap (λ k. drop k (bits 8 x ++ sheet_bits s)) z ∙ drop-append-add (bits 8 x) (sheet_bits s) (8 * n) ∙ drop-bytes n s (omega arith)

Bytes-drop : (n : ℕ) (s : List ℕ) → Bytes s → Bytes (drop n s)
Bytes-drop zero s h = h
Bytes-drop (suc n) [] h = tt
Bytes-drop (suc n) (x ∷ s) h = Bytes-drop n s h.1

-- ## The frame
module _ (out new ws : List ℕ) (old-bytes : Bytes out) (new-bytes : Bytes new) (next : ℕ) (written : Wrote out 0 (ws ++ padding (length ws)) new next)
    (room : bytes_for (length ws) ≤ length out) where
  pub framed : new ≡ buffer (packed ws) out
  unfolding packed padding
  framed =
      let n : ℕ = bytes_for (length ws) in
      let whole = ws ++ padding (length ws) in
      let long : length whole ≡ 8 * n = omega (arith, length-append ws (padding (length ws)), padding-length (length ws)) in
      let all : sheet_bits new ≡ whole ++ sheet_bits (drop n out) =
      written.stored ∙ sets-eq whole (sheet_bits out) 0 (omega (arith, long, length-sheet_bits out))
      ∙ ap (λ k. whole ++ drop k (sheet_bits out)) (let z : 0 + length whole ≡ 8 * n = omega (arith, long) in z) ∙ ap (whole ++◌) (drop-bytes n out room)
      in
      let size : length new ≡ n + length (drop n out) = omega (arith, same_size written, length-drop n out) in
      sym (bytes-sheet new new-bytes) ∙ ap₂ bytes size all ∙ bytes-append n (length (drop n out)) whole (sheet_bits (drop n out)) long
      ∙ ap (bytes n whole ++◌) (bytes-sheet (drop n out) (Bytes-drop n out old-bytes))
      ∙ ap (λ k. bytes n whole ++ drop k out) (sym (length-bytes n whole))

pub packed-length : (ws : List ℕ) → length (packed ws) ≡ bytes_for (length ws)
unfolding packed
packed-length ws = length-bytes (bytes_for (length ws)) _

-- ## What stands in front of the padding
module _ (form : Form) where
  -- mark and count, the fields being as wide as the form says
  pub opening-bits : (width mark wide count : ℕ) → width ≡ form.mark_width → mark ≡ form.mark → wide ≡ form.rule_count
      → (opening form sheet_limits).write count ≡ bits width mark ++ bits wide count
  unfolding opening via ◌then◌ field
  opening-bits width mark wide count e m v = rw (e, m, v)

  pub opening-length : (count : ℕ) → length ((opening form sheet_limits).write count) ≡ opening_width form
  opening-length count =
      ap length (opening-bits _ _ _ count refl refl refl)
      ∙ omega (
        arith,
        length-append (bits form.mark_width form.mark) (bits form.rule_count count),
        length-bits form.mark_width form.mark,
        length-bits form.rule_count count,
      )

  -- mark and count, then the rules
  pub rules-bits : (rs : List Rule) → (rules form sheet_limits).write rs ≡ (opening form sheet_limits).write (length rs) ++ flat_map (rule form sheet_limits).write rs
  unfolding rules tagged several
  rules-bits rs = refl
