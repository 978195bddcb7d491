-- What a field's answer says: the value and the bit after it, or the refusal; and what a closure that tests a value says.
use Rattle.std.specs.Prelude.{◌≡◌, Bool, ℕ, ◌^◌, ◌<◌, Result}
use Rattle.definition.specs.Field.{Read}
use Rattle.answers.specs.declared.refusal.Refusal.{Refusal}
use Rattle.answers.specs.Refusal.{read_as}

abbrev pub as_read : Result (ℕ × ℕ) Refusal → Read ℕ
as_read = read_as (λ v. v)

-- what a closure answers of a 64-bit number is what the test says
abbrev pub Tests : (ℕ → Bool → Type 0) → (ℕ → Bool) → Type 0
Tests answers ok = (v : ℕ) → v < 2 ^ 64 → (b : Bool) → answers v b → b ≡ ok v
