-- What the bits of a number begin with, wherever they stand.
use Rattle.std.specs.Prelude.{◌≡◌, List, ℕ, ◌+◌}
use Rattle.definition.specs.Field.{got, Layout}
use Rattle.field.specs.Wide.{Wide}

-- the w bits of n begin with this value, in m bits
abbrev pub Begins : {A : Type 0} → ℕ → ℕ → Layout A → A → ℕ → Type 0
Begins w n L x m = (s : List ℕ) (p : ℕ) → Wide s p w n → L.read s p ≡ got x (p + m)

-- with some value
abbrev pub BeginsSome : {A : Type 0} → ℕ → ℕ → Layout A → ℕ → Type 0
BeginsSome {A} w n L m = (s : List ℕ) (p : ℕ) → Wide s p w n → (x : A) × (L.read s p ≡ got x (p + m))
