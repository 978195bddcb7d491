-- A RULE AT ONE BOX: how long the list is at whose end it is put, and what the lists are where it was put there. Rests on the laws of lists at places.
use mathlib.Core.Path.{◌≡◌, refl, sym, ap, ◌∙◌}
use mathlib.Core.Bool.{Bool, true, false, true≢false}
use mathlib.Core.List.{List, [], ◌∷◌, ◌++◌}
use Prim.Native.Nat.{ℕ, ◌+◌, ◌*◌, ◌≤◌, ◌<◌}
use native.Mathlib.Omega.{arith}
use lib.Dec.{ltb}
use lib.ListN.{length, get_or, set, length-set}
use lib.Seq.{get_or-set_same, get_or-set_other}
use Rattle.tables.specs.Sizes.{list_limit, list_places}
use Rattle.tables.specs.Lists.{list_of}
use Rattle.tables.specs.Plain.{base}
use Rattle.tables.proofs.Lists.{list_length, list-more, list-one}
use Rattle.tables.proofs.Copied.{list_same}
use Rattle.plain_lists.specs.Draw.{HasList, Appended}

module _ (lists : List ℕ) (box : ℕ) where
  -- ## How long the list is
  pub based-none : (replaces : Bool) (count : ℕ) → replaces ≡ true → count ≡ 0 → count ≡ length (base replaces (list_of lists box))
  unfolding base
  based-none replaces count e h = rw e h

  pub based-all : (replaces : Bool) (count : ℕ) → replaces ≡ false → count ≡ get_or lists (box * list_places) 0 → count ≡ length (base replaces (list_of lists box))
  unfolding base
  based-all replaces count e h = rw e (h ∙ sym (list_length lists box))

  -- no longer than the list that the box has
  pub based-short : (replaces : Bool) → length (base replaces (list_of lists box)) ≤ length (list_of lists box)
  unfolding base
  based-short true = omega arith
  based-short false = omega arith

  module _ (rule : ℕ) (replaces : Bool) (count : ℕ) (based : count ≡ length (base replaces (list_of lists box))) where
    -- ## No room
    pub appended-full : ltb count list_limit ≡ false → Appended lists lists box rule replaces false
    appended-full e = record {
      told = sym e ∙ ap (λ n. ltb n list_limit) based;
      ended = λ q. absurd (true≢false (sym q));
      others = λ other ne short. refl;
      full = λ _. refl;
    }

    -- ## The rule put at the end
    module _ (has : HasList lists box) (few : ltb count list_limit ≡ true) (less : count < list_limit) (place : ℕ) (e : place ≡ box * list_places + 1 + count) where
      abbrev at : ℕ
      at = box * list_places

      abbrev ruled : List ℕ
      ruled = set lists place rule

      abbrev after : List ℕ
      after = set ruled at (count + 1)

      counted : get_or after at 0 ≡ count + 1
      counted = get_or-set_same ruled at (count + 1) 0 (omega (arith, has.room, length-set lists place rule))

      last : get_or after (at + 1 + count) 0 ≡ rule
      last = ap (λ i. get_or after i 0) (sym e) ∙ get_or-set_other ruled at place (count + 1) 0 (omega arith) ∙ get_or-set_same lists place rule 0 (omega (arith, has.room))

      kept : (i : ℕ) → (i ≡ at → ⊥) → (i ≡ place → ⊥) → get_or after i 0 ≡ get_or lists i 0
      kept i a b = get_or-set_other ruled at i (count + 1) 0 a ∙ get_or-set_other lists place i rule 0 b

      ended_by : (r : Bool) → count ≡ length (base r (list_of lists box)) → list_of after box ≡ base r (list_of lists box) ++ (rule ∷ [])
      unfolding base
      ended_by true q =
          let z : count ≡ 0 = q in
          let a : at + 1 + count ≡ at + 1 = omega arith in
          list-one after box rule (counted ∙ ap (◌+ 1) z) (ap (λ i. get_or after i 0) (sym a) ∙ last)
      ended_by false q =
          list-more lists after box box count rule (q ∙ list_length lists box) counted (λ k l. kept (at + 1 + k) (omega arith) (omega arith)) last

      others-kept : (other : ℕ) → (other ≡ box → ⊥) → length (list_of lists other) ≤ list_limit → list_of after other ≡ list_of lists other
      others-kept other ne short = list_same lists after other other (omega (arith, list_length lists other)) (λ k l. kept (other * list_places + k) (omega arith) (omega arith))

      pub appended-more : Appended lists after box rule replaces true
      appended-more = record {
        told = sym few ∙ ap (λ n. ltb n list_limit) based;
        ended = λ _. ended_by replaces based;
        others = others-kept;
        full = λ q. absurd (true≢false q);
      }
