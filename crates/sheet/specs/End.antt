-- Where readings end: a reading without its values, just the bit after it, or the refusal.
use Rattle.std.specs.Prelude.{List, ℕ, zero, suc, Result, Ok, Err}
use Rattle.definition.specs.Field.{Read, got, refused, and_then}
use Rattle.answers.specs.Refusal.{code_of}
use Rattle.answers.specs.declared.refusal.Refusal.{Refusal}
use Rattle.item.specs.Sort.{of_sort}

-- only that something was read, and up to where
abbrev pub End : Type 0
End = Read (Unit {0})

abbrev pub ends : {A : Type 0} → Read A → End
ends (got x q) = got tt q
ends (refused c p) = refused c p

abbrev pub as_step : Result ℕ Refusal → End
as_step (Ok q) = got tt q
as_step (Err r) = refused (code_of r.reason) r.place

-- an item of a sort
abbrev pub item_ends : ℕ → List ℕ → ℕ → End
item_ends = of_sort (λ p. ends) (λ p. ends) (λ p. ends) (λ p. ends) (λ p. ends)

-- n of them, one behind the other
unfoldable pub skip_all : (List ℕ → ℕ → End) → ℕ → List ℕ → ℕ → End
skip_all r zero s p = got tt p
skip_all r (suc n) s p = and_then (λ u q. skip_all r n s q) (r s p)
