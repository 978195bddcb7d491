-- EMPTYING A GROUP box after box empties its set. Rests on the boxes' digits.
use mathlib.Core.Path.{◌≡◌, refl, sym, ap, ◌∙◌}
use mathlib.Core.Bool.{Bool, true, false, cond}
use mathlib.Core.List.{List}
use Prim.Native.Nat.{ℕ, ◌+◌, ◌≤◌, ◌<◌}
use native.Mathlib.Omega.{arith}
use lib.ListN.{length, get_or, set}
use lib.Seq.{get_or-set_same, get_or-set_other}
use borrow.Author.Count.{below_more}
use Rattle.paving.specs.Grid.{size_of, chosen, Cleared}
use Rattle.plain_boxes.proofs.Digits.{Filled}
use Rattle.plain_boxes.proofs.Emptied.{boxes-cleared}
use Rattle.plain_groups.proofs.Marked.{box_marked}

-- the marked boxes before one have no value any more, all others have theirs
pub record EmptiedBefore (sizes marks : List ℕ) (l : ℕ) (cells after : List ℕ) (end : ℕ) : Type 0 where
  pub passed : (box : ℕ) → box < end → get_or after box 0 ≡ cond (box_marked sizes marks box l 0) 0 (get_or cells box 0)
  pub later : (box : ℕ) → end ≤ box → get_or after box 0 ≡ get_or cells box 0

module _ (sizes marks : List ℕ) (l : ℕ) (cells : List ℕ) where
  pub emptied-begin : EmptiedBefore sizes marks l cells cells 0
  emptied-begin = record { passed = λ box lt. absurd (omega arith); later = λ box le. refl }

  -- a box more
  emptied-more : (after after₁ : List ℕ) (end : ℕ) → EmptiedBefore sizes marks l cells after end
      → get_or after₁ end 0 ≡ cond (box_marked sizes marks end l 0) 0 (get_or after end 0) → ((box : ℕ) → (box ≡ end → ⊥) → get_or after₁ box 0 ≡ get_or after box 0)
      → EmptiedBefore sizes marks l cells after₁ (end + 1)
  emptied-more after after₁ end h here others = record {
    passed = below_more (λ box. get_or after₁ box 0 ≡ cond (box_marked sizes marks box l 0) 0 (get_or cells box 0)) end (λ box lt. others box (omega arith) ∙ h.passed box lt)
        (here ∙ ap (cond (box_marked sizes marks end l 0) 0) (h.later end (omega arith)));
    later = λ box le. others box (omega arith) ∙ h.later box (omega arith);
  }

  module _ (after after₁ : List ℕ) (end : ℕ) (b : Bool) (h : EmptiedBefore sizes marks l cells after end) (m : b ≡ box_marked sizes marks end l 0) where
    pub emptied-in : b ≡ true → end < length after → after₁ ≡ set after end 0 → EmptiedBefore sizes marks l cells after₁ (end + 1)
    emptied-in t lt e = rw e
        (emptied-more after (set after end 0) end h
        (get_or-set_same after end 0 0 lt ∙ sym (ap (λ x. cond x 0 (get_or after end 0)) (sym m ∙ t)))
        (λ box ne. get_or-set_other after end box 0 0 ne))

    pub emptied-out : b ≡ false → after₁ ≡ after → EmptiedBefore sizes marks l cells after₁ (end + 1)
    emptied-out t e = rw e (emptied-more after after end h (sym (ap (λ x. cond x 0 (get_or after end 0)) (sym m ∙ t))) (λ box ne. refl))

pub emptied-end : (sizes marks cells after : List ℕ) (l end : ℕ) → Filled sizes l → end ≡ size_of sizes l → EmptiedBefore sizes marks l cells after end
    → Cleared cells after sizes l 0 (chosen marks sizes l 0)
emptied-end sizes marks cells after l end filled e h =
    boxes-cleared sizes cells after l (chosen marks sizes l 0) filled (λ box lt. h.passed box (omega arith)) (λ box le. h.later box (omega arith))
