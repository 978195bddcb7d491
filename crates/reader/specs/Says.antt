-- What an answer of the reader says: the definition's reading of the field, or why it is too large to be said. Too large is a width
-- that no field of the sheet has, or an end at or past bit 2 ^ 64 of a sheet that goes so far. Rests on the definition's layouts.
use Rattle.std.specs.Prelude.{◌≡◌, ◌⊎◌, List, ℕ, ◌+◌, ◌*◌, ◌^◌, ◌≤◌, ◌<◌, length, Option, Some, None, Result}
use Rattle.definition.specs.Field.{sheet_bits, plain}
use Rattle.answers.specs.declared.refusal.Refusal.{Refusal}
use Rattle.field.specs.Answer.{as_read}

abbrev pub Says : Option (Result (ℕ × ℕ) Refusal) → List ℕ → ℕ → ℕ → Type 0
Says (Some r) sheet at width = as_read r ≡ (plain width).read (sheet_bits sheet) at
Says None sheet at width = (32 < width) ⊎ (2 ^ 64 ≤ at + width) × (at + width ≤ 8 * length sheet)
