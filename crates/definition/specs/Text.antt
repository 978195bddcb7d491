-- 02, M-100: "a writer from an accepted sheet to text". A text says two things at once: how a value is written, in bytes of ASCII, and which
-- values it has words for. A text speaks of a whole value and writes some part of it, so that texts one behind the other are texts of one value,
-- and the text of a rule reads like 02's sentence.
use mathlib.Core.List.{List, [], ◌∷◌, ◌++◌, map, flat_map}
use Rattle.std.specs.Prelude.{Bool, true, false, ◌&&◌, not, cond, ℕ, zero, suc, ◌+◌, ◌-◌, ◌/◌, ◌%◌, ◌^◌, ltb, get_or}
use Prim.Native.Char.{code}
use Prim.Native.String.{String, [] as []ˢ, ◌∷◌ as ◌∷ˢ◌}
use Rattle.laws.specs.Lists.{every}
use Rattle.grid.specs.Cut.{Range, holds}

-- ## Bytes of words and numbers
unfoldable pub ascii : String → List ℕ
ascii []ˢ = []
ascii (c ∷ˢ s) = code c ∷ ascii s

-- the w digits of a number, first digit first
unfoldable pub digits : ℕ → ℕ → List ℕ
digits zero v = []
digits (suc w) v = (48 + v / 10 ^ w) ∷ digits w (v % 10 ^ w)

-- the digits of a number without leading zeros, n of them at most
unfoldable pub decimal_in : ℕ → ℕ → List ℕ
decimal_in zero v = []
decimal_in (suc n) v = elim (ltb v 10) [ true ↦ (48 + v) ∷ [] | false ↦ decimal_in n (v / 10) ++ ((48 + v % 10) ∷ []) ]

-- v + 1 digits are enough for any v
abbrev pub decimal : ℕ → List ℕ
decimal v = decimal_in (suc v) v

-- ## Texts
pub record Text (A : Type 0) : Type 0 where
  pub write : A → List ℕ
  pub fits : A → Bool

-- the same words for every value
unfoldable pub word : {A : Type 0} → String → Text A
word s = record { write = λ x. ascii s; fits = λ x. true }

-- a number of the range: `padded` to w digits, `plain` without leading zeros, or `named`
unfoldable pub padded : ℕ → Range → Text ℕ
padded w r = record { write = digits w; fits = λ v. holds v r }

unfoldable pub plain : Range → Text ℕ
plain r = record { write = decimal; fits = λ v. holds v r }

unfoldable pub named : List String → Range → Text ℕ
named names r = record { write = λ v. get_or (map ascii names) (v - r.0) []; fits = λ v. holds v r }

-- one behind the other
infixr 20 ◌then◌
unfoldable pub ◌then◌ : {A : Type 0} → Text A → Text A → Text A
◌then◌ T U = record { write = λ x. T.write x ++ U.write x; fits = λ x. T.fits x && U.fits x }

-- a part of the value
unfoldable pub of : {A B : Type 0} → (B → A) → Text A → Text B
of part T = record { write = λ y. T.write (part y); fits = λ y. T.fits (part y) }

-- nothing to be written where the value passes, else the text
unfoldable pub unless : {A : Type 0} → (A → Bool) → Text A → Text A
unless t T = record { write = λ x. cond (t x) [] (T.write x); fits = λ x. cond (t x) true (T.fits x) }

-- only values that pass have words: of others nothing is written
unfoldable pub only : {A : Type 0} → (A → Bool) → Text A → Text A
only t T = record { write = λ x. cond (t x) (T.write x) []; fits = λ x. t x && T.fits x }

-- one or more, with a word between them
abbrev pub listed : {A : Type 0} → (A → List ℕ) → List ℕ → List A → List ℕ
listed write between [] = []
listed write between (x ∷ xs) = write x ++ flat_map (λ y. between ++ write y) xs

abbrev pub is_none : {A : Type 0} → List A → Bool
is_none [] = true
is_none (x ∷ xs) = false

unfoldable pub several : {A : Type 0} → String → Text A → Text (List A)
several between T = record { write = listed T.write (ascii between); fits = λ xs. not (is_none xs) && every T.fits xs }
