-- One lemma for each return of the answer's numbers.
use mathlib.Core.Path.{◌≡◌, sym, ap, ap₂, ◌∙◌}
use Prim.Native.Nat.{ℕ}
use Rattle.definition.specs.Rule.{kind_number}
use Rattle.codes.specs.Number.{state_coded}
use Rattle.state_at.specs.Found.{looked}
use Rattle.answers.specs.Numbers.{looked_up}
use Rattle.std.specs.Prelude.{Option, Some, None}

pub state-numbers : (found : Option ℕ) (state number kind comment : ℕ) → found ≡ Some state → number ≡ state
    → kind ≡ kind_number (state_coded number).kind → comment ≡ (state_coded number).comment
    → looked_up (record { code = 0; kind = kind; comment = comment; place = 0 }) ≡ looked found
state-numbers found state number kind comment e n k c =
    ap₂ (λ x y. looked_up (record { code = 0; kind = x; comment = y; place = 0 })) k c ∙ ap (λ s. looked (Some s)) n ∙ sym (ap looked e)

pub unsettled-numbers : (found : Option ℕ) → found ≡ None → looked_up (record { code = 9; kind = 0; comment = 0; place = 0 }) ≡ looked found
unsettled-numbers found e = sym (ap looked e)
