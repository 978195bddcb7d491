-- A result written into a buffer: it has room, or it is refused by 7; and storing its elements one after the other from the front on gives the
-- definition's buffer.
use mathlib.Core.Path.{◌≡◌, ap, ◌∙◌}
use mathlib.Core.List.{List, ◌++◌}
use Prim.Native.Nat.{ℕ, ◌+◌, ◌≤◌, ◌<◌}
use native.Mathlib.Omega.{arith}
use lib.ListN.{length, drop}
use lib.Seq.{sets, sets-eq}
use borrow.Author.Tests.{lt-ltb, le-ltb}
use Rattle.definition.specs.Field.{no_room}
use Rattle.definition.specs.Fold.{buffer, unwritten, written_into}

module _ (room : ℕ) (result : List ℕ) where
  pub written-not : room < length result → written_into room result ≡ unwritten no_room (length result)
  unfolding written_into
  written-not l = rw (lt-ltb _ _ l, written_into)

  pub written-fine : length result ≤ room → written_into room result ≡ record { code = 0; bytes = length result; place = 0; result = result }
  unfolding written_into
  written-fine l = rw (le-ltb _ _ l, written_into)

pub written-front : (new l : List ℕ) → length new ≤ length l → sets l 0 new ≡ buffer new l
written-front new l h = let z : 0 + length new ≡ length new = omega arith in sets-eq new l 0 (omega (arith, h)) ∙ ap (λ n. new ++ drop n l) z
