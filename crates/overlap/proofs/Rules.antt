-- THE DIMENSIONS OF A RULE, AND THE RULES: a rule overlaps where one of its rows has two ranges that meet; and the first such rule. Rests on
-- overlaps by ends.
use mathlib.Core.Path.{◌≡◌, sym, ap, ◌∙◌}
use mathlib.Core.List.{List}
use mathlib.Core.Bool.{Bool, true, false, ◌||◌}
use Prim.Native.Nat.{ℕ, suc, ◌+◌, ◌*◌, ◌≤◌, ◌<◌}
use native.Mathlib.Omega.{arith}
use borrow.Author.Count.{below_more}
use lib.ListN.{length, get_or}
use borrow.Author.Tests.{lt-ltb, le-ltb}
use Rattle.laws.specs.Lists.{any_of, any_pair, only_if}
use Rattle.laws.proofs.Lists.{All-at}
use Rattle.laws.proofs.Passing.{index-first, index-none}
use Rattle.definition.specs.Rule.{Rule, no_rule}
use Rattle.definition.specs.Overlap.{overlaps, first_overlap}
use Rattle.definition.specs.OverBoxes.{meets, overlaps_over_ends}
use Rattle.definition.proofs.Lawful.{Lawful}
use Rattle.definition.proofs.Overlap.{overlaps-ends}
use Rattle.tables.specs.Sizes.{range_places}
use Rattle.tables.specs.Ranges.{selector_of}
use Rattle.tables.specs.Rules.{rule_at, RuleDays}
use Rattle.tables.proofs.Days.{fits-lawful, lent-counts, lent-ranges, days-lent}
use Rattle.overlap.specs.Overlap.{row_of, FewRanges, Overlapping}

-- ## Dimensions
module _ (counts ranges : List ℕ) where
  -- two ranges of one of the first l dimensions meet
  abbrev pub meet_in : ℕ → Bool
  meet_in l = any_of (any_pair meets) (selector_of counts ranges l)

  -- what a dimension's row is asked, and then the dimensions before it
  pub row-asked : (l i : ℕ) → l ≡ suc i → (n : ℕ) → n ≡ get_or counts i 0 → (b : Bool) → b ≡ any_pair meets (row_of ranges i n) → meet_in l ≡ b || meet_in i
  unfolding selector_of any_of
  row-asked l i e n many b h = ap meet_in e ∙ ap (λ m. any_pair meets (row_of ranges i m) || meet_in i) (sym many) ∙ ap (◌|| meet_in i) (sym h)

  -- the row of a dimension stands in the table
  pub row-there : FewRanges counts ranges → (i n : ℕ) → n ≡ get_or counts i 0 → i < 4 → i * range_places + 2 * n ≤ length ranges
  row-there there i n e l = omega (arith, there.all-rows, there.few i l)

  pub no_row : (l : ℕ) → l ≤ 0 → meet_in l ≡ false
  unfolding selector_of any_of
  no_row l h = let e : l ≡ 0 = omega arith in ap meet_in e

-- ## Rules
module _ (counts ranges : List ℕ) (n : ℕ) (rs : List Rule) (days : RuleDays counts ranges n rs) where
  -- what is found in a rule's rows is found in the rule
  pub rule-asked : (k : ℕ) (here : k < n) (b : Bool) → b ≡ meet_in (lent-counts counts ranges n rs days k here) (lent-ranges counts ranges n rs days k here) 4
      → overlaps (rule_at rs k) ≡ b
  unfolding overlaps_over_ends
  rule-asked k here b e =
      overlaps-ends (rule_at rs k) (All-at Lawful rs no_rule (fits-lawful rs days.fits) k (omega (arith, days.many)))
      ∙ ap (any_of (any_pair meets)) (sym (days-lent counts ranges n rs days k here).selected) ∙ sym e

  -- none of the first k rules overlaps
  abbrev pub NoneBefore : ℕ → Type 0
  NoneBefore k = (j : ℕ) → j < k → overlaps (rule_at rs j) ≡ false

  pub none-next : (k : ℕ) → NoneBefore k → overlaps (rule_at rs k) ≡ false → NoneBefore (k + 1)
  none-next k h e = below_more (λ j. overlaps (rule_at rs j) ≡ false) k h e

  pub first_found : (k : ℕ) → k < n → NoneBefore k → overlaps (rule_at rs k) ≡ true → Overlapping rs n k
  unfolding first_overlap
  first_found k l h e = record {
    within = omega arith;
    first = index-first overlaps no_rule rs k (omega (arith, days.many)) e h ∙ sym (ap (λ b. only_if b k) (lt-ltb k n l));
  }

  pub none_found : (k : ℕ) → n ≤ k → NoneBefore k → Overlapping rs n n
  unfolding first_overlap
  none_found k l h = record {
    within = omega arith;
    first = index-none overlaps no_rule rs (λ j m. h j (omega (arith, days.many))) ∙ sym (ap (λ b. only_if b n) (le-ltb n n (omega arith)));
  }
