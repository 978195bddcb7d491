-- WHAT IS WRITTEN AS A SHEET IS BYTES. Rests on the law that layouts write bits.
use mathlib.Core.Path.{◌≡◌}
use mathlib.Core.List.{List, [], ◌∷◌, ◌++◌}
use mathlib.Core.Bool.{true}
use Prim.Native.Nat.{ℕ, zero, suc, ◌*◌, ◌-◌, ◌≤◌, ◌<◌}
use native.Mathlib.Nat.{pow-le-pow_right, min-le_left}
use native.Mathlib.Omega.{arith}
use lib.ListN.{length, take, drop, replicate, length-take}
use Rattle.definition.specs.Field.{number, bytes_for, bytes, packed}
use Rattle.definition.specs.Rule.{Rule}
use Rattle.definition.specs.Sheet.{Form, Limits, rules, encode}
use Rattle.definition.proofs.Bits.{Bits, Bytes, number-below, Bits-take, Bits-drop}
use Rattle.definition.proofs.SheetRead.{rules-faithful}

bits-bytes : (n : ℕ) (bs : List ℕ) → Bits bs → Bytes (bytes n bs)
unfolding bytes
bits-bytes zero bs h = tt
bits-bytes (suc n) bs h = (below, bits-bytes n (drop 8 bs) (Bits-drop 8 bs h))
  where
    few : length (take 8 bs) ≤ 8
    few = omega (arith, length-take 8 bs, min-le_left 8 (length bs))

    below : number (take 8 bs) < 256
    below = omega (arith, number-below (take 8 bs) (Bits-take 8 bs h), pow-le-pow_right {n = 2} (omega arith) few)

padded-bits : (bs : List ℕ) (n : ℕ) → Bits bs → Bits (bs ++ replicate n 0)
padded-bits [] zero h = tt
padded-bits [] (suc n) h = (omega arith, padded-bits [] n tt)
padded-bits (b ∷ bs) n h = (h.0, padded-bits bs n h.1)

pub encoded-bytes : (form : Form) (limits : Limits) (rs : List Rule) → (rules form limits).fits rs ≡ true → Bytes (encode form limits rs)
unfolding encode packed
encoded-bytes form limits rs fits =
    let bs = (rules form limits).write rs in
    let n = bytes_for (length bs) in
    bits-bytes n _ (padded-bits bs (8 * n - length bs) ((rules-faithful form limits).binary rs tt fits))
