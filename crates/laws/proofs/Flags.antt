-- Laws of flags (`Bool`).
use mathlib.Core.Path.{◌≡◌, refl, sym}
use mathlib.Core.Bool.{Bool, true, false, ◌&&◌, ◌||◌, cond, true≢false, false≢true}
use lib.Dec.{eqb}

pub and_assoc : (a b c : Bool) → a && b && c ≡ a && (b && c)
and_assoc true b c = refl
and_assoc false b c = refl

pub or_assoc : (a b c : Bool) → a || b || c ≡ a || (b || c)
or_assoc true b c = refl
or_assoc false b c = refl

pub and-true : (a : Bool) → a && true ≡ a
and-true true = refl
and-true false = refl

pub and-false : (a : Bool) → a && false ≡ false
and-false true = refl
and-false false = refl

pub or-false : (a : Bool) → a || false ≡ a
or-false true = refl
or-false false = refl

pub split-and : (a b : Bool) → a && b ≡ true → (a ≡ true) × (b ≡ true)
split-and true b h = (refl, h)
split-and false b h = absurd (false≢true h)

pub both-and : (a b : Bool) → a ≡ true → b ≡ true → a && b ≡ true
both-and true b h k = k
both-and false b h k = h

pub split-or : (a b : Bool) → a || b ≡ false → (a ≡ false) × (b ≡ false)
split-or true b h = absurd (true≢false h)
split-or false b h = (refl, h)

pub or_left : (a b : Bool) → a ≡ true → a || b ≡ true
or_left true b h = refl
or_left false b h = absurd (false≢true h)

pub or_right : (a b : Bool) → b ≡ true → a || b ≡ true
or_right true b h = refl
or_right false b h = h

-- two flags are one where each gives the other
pub same_flag_lem : (a b : Bool) → (a ≡ true → b ≡ true) → (b ≡ true → a ≡ true) → a ≡ b
same_flag_lem true b f g = sym (f refl)
same_flag_lem false true f g = g refl
same_flag_lem false false f g = refl

pub not-true : (a : Bool) → (a ≡ true → ⊥) → a ≡ false
not-true true h = absurd (h refl)
not-true false h = refl

-- a flag is read back from its bit
pub bit-flag : (a : Bool) → eqb (cond a 1 0) 1 ≡ a
bit-flag true = refl
bit-flag false = refl
