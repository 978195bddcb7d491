-- Whether a box lies in marked intervals, one dimension after the other. Rests on the marks that a set is read from.
use mathlib.Core.Path.{◌≡◌, sym, ap, ◌∙◌}
use mathlib.Core.Bool.{Bool, true, false, ◌&&◌}
use mathlib.Core.List.{List}
use Prim.Native.Nat.{ℕ, suc, ◌+◌, ◌-◌, ◌≤◌, ◌<◌}
use native.Mathlib.Omega.{arith}
use lib.Dec.{eqb}
use lib.ListN.{get_or}
use borrow.Author.Tests.{eq-eqb, ne_eqb}
use Rattle.grid.specs.Group.{inside}
use Rattle.paving.specs.Grid.{width_of, chosen, marks_from}
use Rattle.paving.proofs.Popping.{has-keep}
use Rattle.plain_boxes.specs.Digits.{digit_of, digits}
use Rattle.plain_boxes.proofs.Digits.{digit_low}
use Rattle.plain_boxes.proofs.Widths.{width-next}

-- a box, by its digits, in the set that is marked from a place on
abbrev pub box_marked : List ℕ → List ℕ → ℕ → ℕ → ℕ → Bool
box_marked sizes marks box l base = inside eqb (chosen marks sizes l base) (digits sizes l box)

module _ (sizes marks : List ℕ) (box : ℕ) where
  pub marked-none : (l place : ℕ) → l ≡ 0 → true ≡ box_marked sizes marks box l place
  unfolding inside chosen digits
  marked-none l place e = rw e

  module _ (i l place digit : ℕ) (e : l ≡ suc i) (some : 1 ≤ get_or sizes i 0) (d : digit ≡ digit_of sizes box i) where
    step : box_marked sizes marks box l place ≡ eqb (get_or marks (place + digit) 0) 1 && box_marked sizes marks box i (place + get_or sizes i 0)
    unfolding inside chosen digits marks_from
    step = rw (e, d)
        (ap (λ b. b && box_marked sizes marks box i (place + get_or sizes i 0))
        (has-keep (λ y. eqb (get_or marks (place + y) 0) 1) (digit_of sizes box i) 0 (get_or sizes i 0 - 0) (omega arith) (omega (arith, digit_low sizes box i some))))

    pub marked-in : (width : ℕ) → width ≡ get_or sizes i 0 → get_or marks (place + digit) 0 ≡ 1 → box_marked sizes marks box i (place + width) ≡ box_marked sizes marks box l place
    marked-in width w m =
        ap (λ n. box_marked sizes marks box i (place + n)) w
        ∙ sym (step ∙ ap (λ b. b && box_marked sizes marks box i (place + get_or sizes i 0)) (eq-eqb (get_or marks (place + digit) 0) 1 m))

    pub marked-out : (get_or marks (place + digit) 0 ≡ 1 → ⊥) → false ≡ box_marked sizes marks box l place
    marked-out m = sym (step ∙ ap (λ b. b && box_marked sizes marks box i (place + get_or sizes i 0)) (ne_eqb (get_or marks (place + digit) 0) 1 m))

    -- the mark of its interval is there where those of all dimensions to come are
    pub mark-there : (places : ℕ) → place + width_of sizes l ≤ places → place + digit < places
    mark-there places h = omega (arith, width-next sizes i l e, digit_low sizes box i some)
