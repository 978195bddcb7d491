-- What the test of the lent slice says: it is too short for an answer's numbers, or it has room for them.
use mathlib.Core.Path.{◌≡◌, sym, ◌∙◌}
use mathlib.Core.Bool.{Bool, true, false}
use Prim.Native.Nat.{ℕ, ◌≤◌}
use lib.Dec.{ltb, leb}
use borrow.Author.Tests.{ltb-true, ltb-false, lt-leb, le-leb}

module _ (needed room : ℕ) (lacking : Bool) (e : lacking ≡ ltb room needed) where
  pub too_short : lacking ≡ true → false ≡ leb needed room
  too_short t = sym (lt-leb needed room (ltb-true room needed (sym e ∙ t)))

  pub has_room : lacking ≡ false → needed ≤ room
  has_room t = ltb-false room needed (sym e ∙ t)

  pub long-enough : lacking ≡ false → true ≡ leb needed room
  long-enough t = sym (le-leb needed room (has_room t))
