-- Items of each sort: what their readers say is why the definition's items stop.
use mathlib.Core.Path.{◌≡◌, refl}
use mathlib.Core.Bool.{Bool, true, false, ◌&&◌, ◌||◌, not, cond}
use Prim.Native.Nat.{ℕ}
use lib.Dec.{eqb}
use borrow.Author.Tests.{eq-eqb}
use Rattle.definition.specs.Stop.{every_nth}
use Rattle.std.specs.Prelude.{Result, Ok, Err}
use Rattle.std.specs.Result.{result_unwrap_or}
use Rattle.answers.specs.Refusal.{read_as}
use Rattle.answers.specs.declared.refusal.Refusal.{Refusal}
use Rattle.stopping.specs.Part.{found, reasoned, days_reason}

-- the number that was read with the bit after it, or none at the bit itself
pub or-none : (r : Result (ℕ × ℕ) Refusal) (p : ℕ)
    → found (result_unwrap_or r (0, p)).0 (result_unwrap_or r (0, p)).1 ≡ reasoned (λ n. n) p (read_as (λ n. n) r)
or-none (Ok v) p = refl
or-none (Err e) p = refl

-- weekdays that aren't moved
pub days-stand : (o s e : ℕ) (t : Bool) → o ≡ 0 → t ≡ eqb o 0 && (eqb s every_nth && eqb e every_nth) → days_reason o s e ≡ cond t 0 8
days-stand o s e t z h = rw (h, eq-eqb o 0 z) (go (eqb s every_nth) (eqb e every_nth))
  where
    go : (a b : Bool) → ◌≡◌ {A = ℕ} (cond (not a || not b) 8 0) (cond (a && b) 0 8)
    go true true = refl
    go true false = refl
    go false b = refl
