-- 01, "The packed sheet": "Bit-packed fields, most significant first, bits counted from 0."
-- A layout says three things at once: how a value is read at a bit, how it is written, and which values it can carry.
-- So the layout of the sheet stands once, and what is written can be read back.
use mathlib.Core.List.{List, [], ◌∷◌, ◌++◌, flat_map}
use Rattle.std.specs.Prelude.{Bool, true, false, ◌&&◌, ℕ, zero, suc, ◌+◌, ◌*◌, ◌-◌, ◌/◌, ◌%◌, ◌^◌, eqb, leb, ltb, length, take, drop, replicate}
use Rattle.laws.specs.Lists.{every}

-- ## Bits and bytes
-- the w bits of a number below 2 ^ w, most significant first
unfoldable pub bits : ℕ → ℕ → List ℕ
bits zero v = []
bits (suc w) v = v / 2 ^ w ∷ bits w (v % 2 ^ w)

-- the number that bits stand for
unfoldable pub number : List ℕ → ℕ
number [] = 0
number (b ∷ bs) = b * 2 ^ length bs + number bs

unfoldable pub sheet_bits : List ℕ → List ℕ
sheet_bits s = flat_map (bits 8) s

-- how many bytes n bits take
abbrev pub bytes_for : ℕ → ℕ
bytes_for n = (n + 7) / 8

-- the first n bytes of bits
unfoldable pub bytes : ℕ → List ℕ → List ℕ
bytes zero bs = []
bytes (suc n) bs = number (take 8 bs) ∷ bytes n (drop 8 bs)

-- bits as bytes, with "zero bits to the byte's end"
unfoldable pub packed : List ℕ → List ℕ
packed bs = let n = bytes_for (length bs) in bytes n (bs ++ replicate (8 * n - length bs) 0)

-- ## Refusals: the codes of 01's table, and of 02
-- a field runs past the end
abbrev pub past_end : ℕ
past_end = 1

-- a field that isn't a count holds an unlawful value
abbrev pub unlawful : ℕ
unlawful = 2

-- a padding bit is set, or bytes follow
abbrev pub bad_end : ℕ
bad_end = 3

-- a count passes its limit
abbrev pub over_limit : ℕ
over_limit = 4

-- boxes over the limit
abbrev pub many_boxes : ℕ
many_boxes = 5

-- some point's list passes the limit after a drained rule
abbrev pub long_list : ℕ
long_list = 6

-- the output buffer is shorter than the result
abbrev pub no_room : ℕ
no_room = 7

-- lookup only: no such date or minute
abbrev pub no_date : ℕ
no_date = 8

-- lookup only: a rule is left, or the point's list holds a non-simple span
abbrev pub unsettled : ℕ
unsettled = 9

-- line only (02, M-100): a rule has no words, or the first isn't Normal
abbrev pub no_words : ℕ
no_words = 10

-- fold and lookup (02, M-101): two ranges of one selector share a value in a drained rule
abbrev pub days_twice : ℕ
days_twice = 11

-- conversion only (02, M-106): a comment has no room in the other form
abbrev pub long_comment : ℕ
long_comment = 12

-- fold only (02, M-107): the result has more rules or items than the form's counts can carry
abbrev pub past_counts : ℕ
past_counts = 13

-- fold and lookup (02, M-108): too many lists stand at points after a drained rule
abbrev pub many_lists : ℕ
many_lists = 14

-- ## Readings
-- a value and the bit after it, or a refusal: its code and its place
pub data Read (A : Type 0) : Type 0 where
  got : A → ℕ → Read A
  refused : ℕ → ℕ → Read A

-- go on with what was read; a refusal stands
abbrev pub and_then : {A B : Type 0} → (A → ℕ → Read B) → Read A → Read B
and_then f (got x q) = f x q
and_then f (refused c p) = refused c p

-- the number in the w bits at p
unfoldable pub field_at : List ℕ → ℕ → ℕ → ℕ
field_at s p w = number (take w (drop p s))

-- a field of w bits at p: refused where it runs past the end, and with code c where its value fails the test
unfoldable pub read_field : ℕ → (ℕ → Bool) → ℕ → List ℕ → ℕ → Read ℕ
read_field c ok w s p = elim (leb (p + w) (length s)) [
  | false ↦ refused past_end p
  | true ↦ elim (ok (field_at s p w)) [ true ↦ got (field_at s p w) (p + w) | false ↦ refused c p ]
]

-- n values, one behind the other
unfoldable pub read_all : {A : Type 0} → (List ℕ → ℕ → Read A) → ℕ → List ℕ → ℕ → Read (List A)
read_all r zero s p = got [] p
read_all r (suc n) s p = and_then (λ x q. and_then (λ xs e. got (x ∷ xs) e) (read_all r n s q)) (r s p)

-- ## Layouts
pub record Layout (A : Type 0) : Type 0 where
  pub read : List ℕ → ℕ → Read A
  pub write : A → List ℕ
  pub fits : A → Bool

unfoldable pub field : ℕ → (ℕ → Bool) → ℕ → Layout ℕ
field c ok w = record { read = read_field c ok w; write = bits w; fits = λ v. ltb v (2 ^ w) && ok v }

-- a field that isn't a count, of any value or of the values that pass; and a count
abbrev pub plain : ℕ → Layout ℕ
plain = field unlawful (λ v. true)

abbrev pub lawful : ℕ → (ℕ → Bool) → Layout ℕ
lawful w ok = field unlawful ok w

abbrev pub counted : ℕ → ℕ → Layout ℕ
counted w limit = field over_limit (λ v. leb v limit) w

-- a value that takes no bits
unfoldable pub no_bits : {A : Type 0} → A → Layout A
no_bits x = record { read = λ s p. got x p; write = λ y. []; fits = λ y. true }

-- one behind the other
infixr 20 ◌then◌
unfoldable pub ◌then◌ : {A B : Type 0} → Layout A → Layout B → Layout (A × B)
◌then◌ L M = record {
  read = λ s p. and_then (λ x q. and_then (λ y e. got (x, y) e) (M.read s q)) (L.read s p);
  write = λ v. L.write v.0 ++ M.write v.1;
  fits = λ v. L.fits v.0 && M.fits v.1;
}

-- the same bits, for a value that is made of another by `make` and gives it back by `parts`
unfoldable pub via : {A B : Type 0} → (A → B) → (B → A) → Layout A → Layout B
via make parts L = record {
  read = λ s p. and_then (λ x q. got (make x) q) (L.read s p);
  write = λ y. L.write (parts y);
  fits = λ y. L.fits (parts y);
}

-- a tag, and behind it the layout for that tag
unfoldable pub tagged : {A B : Type 0} → Layout A → (A → Layout B) → (B → A) → Layout B
tagged L M tag = record {
  read = λ s p. and_then (λ t q. (M t).read s q) (L.read s p);
  write = λ y. L.write (tag y) ++ (M (tag y)).write y;
  fits = λ y. L.fits (tag y) && (M (tag y)).fits y;
}

-- n of them
unfoldable pub several : {A : Type 0} → ℕ → Layout A → Layout (List A)
several n L = record { read = read_all L.read n; write = flat_map L.write; fits = λ xs. eqb (length xs) n && every L.fits xs }
