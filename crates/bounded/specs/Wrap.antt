-- What an item from a first to a last value means: the values between them; where it wraps, those up to its last and those from its first on.
-- proofs/Wrap shows that an item's ranges mean the same.
use Rattle.std.specs.Prelude.{Bool, true, false, ◌&&◌, ◌||◌, ℕ, leb}
use Rattle.definition.specs.Range.{Ends}

unfoldable pub lies : Ends → ℕ → Bool
lies e x = elim (leb e.0 e.1) [ true ↦ leb e.0 x && leb x e.1 | false ↦ leb x e.1 || leb e.0 x ]
