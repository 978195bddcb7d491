-- What a rule that a sheet carries keeps to: its comment fits the form's field, and no count passes its limit. Rests on the layouts' tests.
use mathlib.Core.Path.{◌≡◌}
use mathlib.Core.List.{List, [], ◌∷◌, ◌++◌}
use mathlib.Core.Bool.{Bool, true, ◌&&◌}
use Prim.Native.Nat.{ℕ, ◌^◌, ◌≤◌, ◌<◌}
use lib.Dec.{leb, ltb}
use lib.ListN.{length}
use borrow.Author.Tests.{ltb-true, leb-true}
use Rattle.laws.specs.Lists.{All}
use Rattle.laws.proofs.Flags.{split-and}
use Rattle.definition.specs.Field.{field, counted, ◌then◌, via, tagged}
use Rattle.definition.specs.Rule.{operator_number, kind_number, Rule}
use Rattle.definition.specs.Sheet.{Form, Limits, choice, head_of, title, counts, head, rule}

-- tests one behind the other, as layouts join them
abbrev joined : List Bool → Bool
joined [] = true
joined (b ∷ []) = b
joined (b ∷ c ∷ bs) = b && joined (c ∷ bs)

pub each-passes : (bs : List Bool) → joined bs ≡ true → All (λ b. b ≡ true) bs
each-passes [] h = tt
each-passes (b ∷ []) h = (h, tt)
each-passes (b ∷ c ∷ bs) h = let k = split-and b (joined (c ∷ bs)) h in (k.0, each-passes (c ∷ bs) k.1)

module _ (form : Form) (limits : Limits) (r : Rule) (f : (rule form limits).fits r ≡ true) where
  pub head-carried : ((title form limits).fits (head_of r).0 ≡ true) × ((counts form limits).fits (head_of r).1 ≡ true)
  unfolding rule tagged head ◌then◌
  head-carried = split-and _ _ (split-and ((head form limits).fits (head_of r)) _ f).0

  pub comment-carried : r.state.comment < 2 ^ form.comment
  unfolding title via ◌then◌ field
  comment-carried =
      let known = ltb r.state.comment (2 ^ form.comment) in
      let k = each-passes (choice.fits (operator_number r.operator) ∷ choice.fits (kind_number r.state.kind) ∷ known ∷ true ∷ []) head-carried.0 in
      ltb-true _ _ k.1.1.0

  -- no more items of a sort, nor spans, than the limits allow
  pub record Few : Type 0 where
    pub years-few : length r.years ≤ limits.items
    pub monthdays-few : length r.monthdays ≤ limits.items
    pub weeks-few : length r.weeks ≤ limits.items
    pub weekdays-few : length r.weekdays ≤ limits.items
    pub spans-few : length r.spans ≤ limits.spans

  few : (limit n : ℕ) → (counted form.item_count limit).fits n ≡ true → n ≤ limit
  unfolding field
  few limit n k = leb-true n limit (split-and (ltb n (2 ^ form.item_count)) (leb n limit) k).1

  pub counts-carried : Few
  unfolding counts ◌then◌
  counts-carried =
      let items = counted form.item_count limits.items in
      let spans = counted form.item_count limits.spans in
      let sorts =
      items.fits (length r.years) ∷ items.fits (length r.monthdays) ∷ items.fits (length r.weeks) ∷ items.fits (length r.weekdays) ∷
      [] in
      let k = each-passes (sorts ++ spans.fits (length r.spans) ∷ []) head-carried.1 in
      record {
        years-few = few _ _ k.0;
        monthdays-few = few _ _ k.1.0;
        weeks-few = few _ _ k.1.1.0;
        weekdays-few = few _ _ k.1.1.1.0;
        spans-few = few _ _ k.1.1.1.1.0;
      }
