-- Repeats, by their flag. Rests on the laws of readings.
use mathlib.Core.Path.{◌≡◌}
use mathlib.Core.List.{List}
use mathlib.Core.Option.{none, some}
use mathlib.Core.Bool.{true, false}
use Prim.Native.Nat.{ℕ}
use lib.Dec.{eqb}
use Rattle.definition.specs.Field.{got, refused, no_bits, plain}
use Rattle.definition.specs.Sheet.{repeats_of}
use Rattle.definition.proofs.Reading.{via-goes, via-stops}

module _ (t : ℕ) (s : List ℕ) (q : ℕ) where
  pub no-repeats : eqb t 0 ≡ true → (repeats_of t).read s q ≡ got none q
  unfolding repeats_of no_bits
  no-repeats e = rw e

  pub repeats-goes : (v n : ℕ) → eqb t 0 ≡ false → (plain 12).read s q ≡ got v n → (repeats_of t).read s q ≡ got (some v) n
  unfolding repeats_of
  repeats-goes v n e h = rw e (via-goes _ _ _ _ _ h)

  pub repeats-stops : (c p : ℕ) → eqb t 0 ≡ false → (plain 12).read s q ≡ refused c p → (repeats_of t).read s q ≡ refused c p
  unfolding repeats_of
  repeats-stops c p e h = rw e (via-stops _ _ _ _ _ h)
