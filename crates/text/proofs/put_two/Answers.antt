-- `text::put_two` meets its contract.
use mathlib.Core.List.{[], ◌∷◌}
use mathlib.Core.Path.{ap₂, ◌∙◌}
use Rattle.text.proofs.Putting.{put_then, put_as, two_digits}
use Rattle.text.proofs.put_two.Goals as goal

pub returns : goal.returns
returns c =
    let first = c.digit.ensures in
    let second = c.digit-2.ensures in
    put_as (ap₂ (λ x y. x ∷ y ∷ []) first second ∙ two_digits _) (put_then c.put_byte-next.ensures c.put_byte.ensures)
