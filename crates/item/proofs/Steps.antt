-- Years and weeks, by the layout that both have: two fields and a step.
use mathlib.Core.Path.{◌≡◌, sym}
use mathlib.Core.List.{List}
use Prim.Native.Nat.{ℕ}
use Rattle.std.specs.Prelude.{Result, Ok, Err}
use Rattle.definition.specs.Field.{Layout, via}
use Rattle.definition.proofs.Reading.{via-goes, via-stops}
use Rattle.answers.specs.declared.refusal.Refusal.{Refusal}
use Rattle.answers.specs.Refusal.{read_as}
use Rattle.item.specs.declared.day.Steps.{Steps}
use Rattle.item.specs.Answer.{as_parts, as_steps}

pub steps_via : {A : Type 0} (make : ℕ × (ℕ × ℕ) → A) (parts : A → ℕ × (ℕ × ℕ)) (L : Layout (ℕ × (ℕ × ℕ))) (s : List ℕ) (p : ℕ)
    (r : Result (Steps × ℕ) Refusal) → read_as as_parts r ≡ L.read s p → read_as (as_steps make) r ≡ (via make parts L).read s p
steps_via make parts L s p (Ok (v, q)) e = sym (via-goes make parts L s p (sym e))
steps_via make parts L s p (Err r) e = sym (via-stops make parts L s p (sym e))
