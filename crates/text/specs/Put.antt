-- A text put into a buffer at a place: where it ends, and what the buffer then holds. A byte that lies past the buffer's end is not stored.
use Rattle.std.specs.Prelude.{◌≡◌, List, ℕ, ◌+◌, ◌<◌, ◌^◌, length}
use Rattle.std.proofs.lemmas.List.Edits.{sets}

pub record Put (before : List ℕ) (place : ℕ) (text : List ℕ) (to : ℕ) (after : List ℕ) : Type 0 where
  pub ends : to ≡ place + length text
  pub stored : after ≡ sets before place text

-- the place behind the text is a machine number
abbrev pub Within : ℕ → List ℕ → Type 0
Within place text = place + length text < 2 ^ 64
