-- One lemma for each return of the walks over a rule's spans and over a list's rules. Rests on the laws of spans' numbers.
use mathlib.Core.Path.{◌≡◌, refl, sym, ap, ap₂, ◌∙◌}
use mathlib.Core.Bool.{true, false, ◌&&◌, cond}
use mathlib.Core.List.{List, ◌∷◌, map}
use Prim.Native.Nat.{ℕ, zero, suc, ◌+◌, ◌*◌, ◌-◌, ◌/◌, ◌%◌, ◌≤◌, ◌<◌}
use native.Mathlib.Omega.{arith}
use lib.Dec.{leb, ltb}
use lib.ListN.{length, get_or, take, drop}
use lib.Seq.{drop-cons}
use Rattle.std.proofs.lemmas.List.{drop_all}
use borrow.Author.Tests.{lt-ltb}
use Rattle.laws.specs.Lists.{from}
use Rattle.definition.specs.Day.{simple, within}
use Rattle.codes.specs.Number.{time_at, span_at}
use Rattle.codes.proofs.Laws.{simple-bounds}
use Rattle.words.specs.Words.{part}
use Rattle.words.proofs.Sets.{part-taken}
use Rattle.state_at.specs.Found.{over_spans, over_rule, over_list, onward, InTables}
use Rattle.std.specs.Prelude.{Option, Some, None}

-- ## A span
-- a simple span's minutes, by its number
pub within-number : (n m : ℕ) → simple (span_at n) ≡ true → within (span_at n) m ≡ leb (n / 8589934592) m && ltb m (n / 16384 % 524288)
unfolding span_at time_at
within-number n m h = let k = simple-bounds n h in rw (lt-ltb (n / 8589934592) 262144 (omega arith), lt-ltb (n / 16384 % 524288) 262144 (omega arith))

-- ## The spans of a rule, from one on
module _ (spans : List ℕ) (m S shown at : ℕ) where
  pub spans_on : at < length spans → simple (span_at (get_or spans at 0)) ≡ true → (after : ℕ) → after ≡ cond (within (span_at (get_or spans at 0)) m) S shown
      → over_spans m S after (drop (at + 1) spans) ≡ over_spans m S shown (drop at spans)
  unfolding over_spans
  spans_on l plain after e =
      let next : at + 1 ≡ suc at = omega arith in
      ap₂ (λ v k. over_spans m S v (drop k spans)) e next ∙ sym (ap (over_spans m S shown) (drop-cons spans at 0 l) ∙ rw (plain, over_spans) refl)

  pub spans-unsettled : at < length spans → simple (span_at (get_or spans at 0)) ≡ false → None ≡ over_spans m S shown (drop at spans)
  unfolding over_spans
  spans-unsettled l other = sym (ap (over_spans m S shown) (drop-cons spans at 0 l) ∙ rw (other, over_spans) refl)

  pub spans-end : length spans ≤ at → Some shown ≡ over_spans m S shown (drop at spans)
  unfolding over_spans
  spans-end l = sym (ap (over_spans m S shown) (drop_all at spans l))

-- a rule's spans, where the tables have them
pub rule-over : (states counts spans : List ℕ) (m shown rule row many : ℕ) (r : Option ℕ) → InTables states counts spans rule → row ≡ rule → many ≡ get_or counts row 0
    → r ≡ over_spans m (get_or states row 0) shown (take (row * 16 + many - row * 16) (drop (row * 16) spans)) → r ≡ over_rule states counts spans m shown rule
unfolding over_rule
rule-over states counts spans m shown rule row many r there e c h =
    let z : row * 16 + many - row * 16 ≡ many = omega arith in
    let room = rw (← e) at there in
    h ∙ ap (λ n. over_spans m (get_or states row 0) shown (take n (drop (row * 16) spans))) (z ∙ c)
    ∙ ap (over_spans m (get_or states row 0) shown) (part-taken spans (row * 16) (get_or counts row 0) room.2)
    ∙ ap (λ k. over_spans m (get_or states k 0) shown (part spans (k * 16) (get_or counts k 0))) e

-- ## The rules of a list, from one on
module _ (rules states counts spans : List ℕ) (m shown at : ℕ) where
  abbrev over : ℕ → ℕ → Option ℕ
  over v k = over_list states counts spans m v (drop k rules)

  rule-next : at < length rules → (r : Option ℕ) → r ≡ over_rule states counts spans m shown (get_or rules at 0)
      → over shown at ≡ onward r (λ v. over v (at + 1))
  unfolding over_list
  rule-next l r h =
      let next : suc at ≡ at + 1 = omega arith in
      ap (over_list states counts spans m shown) (drop-cons rules at 0 l) ∙ ap₂ (λ f k. onward f (λ v. over v k)) (sym h) next

  pub list_on : at < length rules → (r : Option ℕ) → r ≡ over_rule states counts spans m shown (get_or rules at 0)
      → (after : ℕ) → r ≡ Some after → over after (at + 1) ≡ over shown at
  list_on l r h after e = sym (rule-next l r h ∙ ap (λ f. onward f (λ v. over v (at + 1))) e)

  pub list-unsettled : at < length rules → (r : Option ℕ) → r ≡ over_rule states counts spans m shown (get_or rules at 0)
      → r ≡ None → None ≡ over shown at
  list-unsettled l r h e = sym (rule-next l r h ∙ ap (λ f. onward f (λ v. over v (at + 1))) e)

  pub list-end : length rules ≤ at → Some shown ≡ over shown at
  unfolding over_list
  list-end l = sym (ap (over_list states counts spans m shown) (drop_all at rules l))

-- the words of a part are those of the list at a place
pub part-named : (s : List ℕ) (first j at n : ℕ) → at ≡ first + j → part s at n ≡ map (λ k. get_or s (first + k) 0) (from j n)
unfolding part from
part-named s first j at zero e = refl
part-named s first j at (suc n) e = ap₂ ◌∷◌ (ap (λ i. get_or s i 0) e) (part-named s first (suc j) (at + 1) n (omega arith))
