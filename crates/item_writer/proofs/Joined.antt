-- Fields as one number: their bits stand one behind the other. Rests on crate `writer`'s laws of bits.
use mathlib.Core.Path.{◌≡◌, sym, ap, ◌∙◌}
use mathlib.Core.List.{List, ◌++◌, append_assoc}
use Prim.Native.Nat.{ℕ, ◌+◌, ◌-◌, ◌*◌, ◌^◌, ◌≤◌, ◌<◌}
use native.Mathlib.Nat.{lt_of_lt_of_le}
use native.Mathlib.Omega.{arith}
use lib.Pow.{pow_mono}
use Rattle.definition.specs.Field.{bits}
use Rattle.writer.proofs.Bytes.{joined-below, bits-joined}
use Rattle.item_writer.specs.Written.{Carries, Fits}

module _ (width value width2 value2 : ℕ) (first : Fits width value) (second : Fits width2 value2) (few : width + width2 ≤ 56) where
  -- the first one fits before the second in a machine word
  pub joinable : (width2 < 64) × (value < 2 ^ (64 - width2)) × (value2 < 2 ^ width2)
  joinable = (omega arith, lt_of_lt_of_le first.1 (pow_mono {i = width} {j = 64 - width2} (omega arith)), second.1)

  module _ (number : ℕ) (made : number ≡ value * 2 ^ width2 + value2) where
    pub joined-fits : Fits (width + width2) number
    joined-fits = (few, rw made (joined-below width width2 first.1 second.1))

    pub joined-bits : bits width value ++ bits width2 value2 ≡ bits (width + width2) number
    joined-bits = bits-joined width width2 value value2 first.1 second.1 ∙ ap (bits (width + width2)) (sym made)

-- ## What two and three fields that were put together say
module _ {w v n : ℕ} {xs : List ℕ} (w2 v2 : ℕ) {p q m : ℕ} (one : Carries w v n xs) (both : Carries p q m (bits w v ++ bits w2 v2)) where
  pub two_carried : xs ++ bits w2 v2 ≡ bits p q
  two_carried = sym (both.says ∙ ap (◌++ bits w2 v2) one.says)

  pub three_carried : (w3 v3 : ℕ) {r s k : ℕ} → Carries r s k (bits p q ++ bits w3 v3) → xs ++ (bits w2 v2 ++ bits w3 v3) ≡ bits r s
  three_carried w3 v3 all =
      sym (append_assoc xs (bits w2 v2) (bits w3 v3)) ∙ sym (all.says ∙ ap (◌++ bits w3 v3) (sym two_carried))

-- a number that carries a row carries it as it is said otherwise
pub carried-as : {w v n : ℕ} {xs ys : List ℕ} → xs ≡ bits w v → Carries w v n ys → Carries w v n xs
carried-as e c = record { spans = c.spans; fits = c.fits; says = sym e }
