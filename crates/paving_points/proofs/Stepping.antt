-- A RULE MORE, however lists are kept: where each box has the list of indexes after k rules, the plain step gives those after one rule more; a list has no
-- room just where one is too long at some point, and there are as many different lists as over all points. Rests on the lists of boxes and of points.
use mathlib.Core.Path.{◌≡◌, refl, sym, ap, ap₂, ◌∙◌, subst}
use mathlib.Core.Bool.{Bool, true, false, ◌&&◌, not, cond}
use mathlib.Core.List.{List, [], ◌∷◌, ◌++◌, map, append-nil}
use Prim.Native.Nat.{ℕ, zero, suc, ◌+◌, ◌*◌, ◌≤◌, ◌<◌}
use native.Mathlib.Omega.{arith}
use lib.Dec.{eqb, ltb, leb}
use lib.ListN.{length, get_or, take, length-append}
use borrow.Author.Tests.{lt-ltb, le-ltb, leb-true, leb-false}
use Rattle.laws.specs.Lists.{from, All}
use Rattle.laws.proofs.Lists.{All-at, All-map₂, any_same}
use Rattle.laws.proofs.Numbers.{All-from}
use Rattle.laws.proofs.Passing.{Found, first_found}
use Rattle.grid.specs.Group.{somewhere}
use Rattle.definition.specs.Rule.{Rule, no_rule}
use Rattle.definition.specs.Sheet.{sheet_limits}
use Rattle.definition.specs.Point.{points, combinations, replaces, after}
use Rattle.definition.specs.Lists.{indexes_at, distinct_lists, too_long}
use Rattle.definition.specs.Overlap.{overlaps, first_overlap}
use Rattle.definition.proofs.Lawful.{Lawful}
use Rattle.definition.proofs.Lists.{long, many}
use Rattle.definition.proofs.Once.{covers-once}
use Rattle.definition.proofs.Points.{times_covered, indexes-next, indexes-length}
use Rattle.paving.specs.Grid.{size_of, Node}
use Rattle.tables.specs.Sizes.{list_limit, held_limit}
use Rattle.tables.specs.Ranges.{table_row, selector_of}
use Rattle.tables.specs.Rules.{rule_at}
use Rattle.tables.specs.Cuts.{ToList}
use Rattle.tables.specs.Lists.{Within, box_of, start_of}
use Rattle.tables.specs.Plain.{base, plain_step, overfull, some_overfull}
use Rattle.tables.proofs.Days.{fits-lawful}
use Rattle.paving_points.proofs.Lists.{some-list, lists-counted}

-- ## The plain step
-- it is the definition's, where the rule covers the box n times, at most once
step_after : (replacing : Bool) (rule n : ℕ) (covered : ℕ → Bool) (f : ℕ → List ℕ) (b : ℕ) → n ≤ 1 → covered b ≡ not (eqb n 0)
    → plain_step replacing rule covered f b ≡ after replacing rule n (f b)
unfolding plain_step base after
step_after true rule zero covered f b h e = rw e
step_after false rule zero covered f b h e = rw e (sym (append-nil (f b)))
step_after true rule (suc zero) covered f b h e = rw e
step_after false rule (suc zero) covered f b h e = rw e
step_after replacing rule (suc (suc n)) covered f b h e = absurd (omega arith)

-- a list has no room for the rule just where it is too long after the step
overfull-long : (replacing : Bool) (rule : ℕ) (covered : ℕ → Bool) (f : ℕ → List ℕ) (b : ℕ) → length (f b) ≤ list_limit
    → overfull replacing covered f b ≡ ltb list_limit (length (plain_step replacing rule covered f b))
unfolding overfull plain_step
overfull-long replacing rule covered f b h = go (covered b)
  where
    go : (c : Bool) → c && leb list_limit (length (base replacing (f b))) ≡ ltb list_limit (length (cond c (base replacing (f b) ++ (rule ∷ [])) (f b)))
    go true = more (length (base replacing (f b))) ∙ ap (ltb list_limit) (sym (length-append (base replacing (f b)) (rule ∷ [])))
      where
        more : (n : ℕ) → leb list_limit n ≡ ltb list_limit (n + 1)
        more n = tell (leb list_limit n) refl
          where
            tell : (t : Bool) → leb list_limit n ≡ t → leb list_limit n ≡ ltb list_limit (n + 1)
            tell true q = q ∙ sym (lt-ltb list_limit (n + 1) (omega (arith, leb-true list_limit n q)))
            tell false q = q ∙ sym (le-ltb list_limit (n + 1) (omega (arith, leb-false list_limit n q)))
    go false = sym (le-ltb list_limit (length (f b)) h)

flag-noted : (b : Bool) (v : ℕ) → v ≡ cond b 1 0 → eqb v 1 ≡ b
flag-noted true v e = rw e refl
flag-noted false v e = rw e refl

-- ## The rules in the tables
module _ (replacing counts ranges rows sizes table : List ℕ) (n : ℕ) (rs : List Rule) (to-list : ToList replacing counts ranges rows sizes table n rs) where
  pub lawful : All Lawful rs
  lawful = fits-lawful rs to-list.0.0.fits

  pub rule-there : (k : ℕ) → k < n → (k < 65536) × (k * 4 + 4 ≤ length counts) × (k * 256 + 256 ≤ length ranges)
  rule-there k h =
      let days = to-list.0.0 in
      (omega (arith, days.few-rules), omega (arith, days.all-counts), omega (arith, days.all-ranges))

  pub boxes-node : Node (size_of sizes 4) sizes 4 0
  boxes-node = let cut = to-list.0.2 in record { dims = omega (arith, cut.four); filled = cut.filled; below = omega arith }

  -- each rule notes whether it replaces, and covers each point at most once
  noted : (k : ℕ) → k < n → eqb (get_or replacing k 0) 1 ≡ replaces (rule_at rs k)
  noted k h = flag-noted _ _ (to-list.0.1.noted k (omega (arith, to-list.0.0.many)))

  once : (k : ℕ) → k < n → (q : List ℕ) → times_covered (rule_at rs k) q ≤ 1
  unfolding first_overlap
  once k h q =
      All-at (λ r. times_covered r q ≤ 1) rs no_rule
      (All-map₂ (λ r l apart. covers-once r l apart q) rs lawful (subst (Found overlaps rs) to-list.1 (first_found overlaps rs))) k (omega (arith, to-list.0.0.many))

  module _ (k : ℕ) (here : k < n) where
    less : k < length rs
    less = omega (arith, to-list.0.0.many)

    -- 14, where each box has the list after the rule
    pub many-lists : (f : ℕ → List ℕ) → ((p : List ℕ) → Within sizes 4 p → f (box_of sizes 4 0 p) ≡ indexes_at (take (suc k) rs) (start_of rows table 4 p))
        → ltb held_limit (length (distinct_lists (map f (from 0 (size_of sizes 4))))) ≡ many sheet_limits rs k
    many-lists f listed = ap (ltb held_limit) (lists-counted rows sizes table rs lawful to-list.0.2.cut_by (suc k) f listed)

    -- where each box has the list before it, and those are known that the rule covers
    module _ (covered : ℕ → Bool)
        (covers : (p : List ℕ) → Within sizes 4 p
        → covered (box_of sizes 4 0 p) ≡ not (eqb (combinations (selector_of (table_row counts k 4) (table_row ranges k 256) 4) (start_of rows table 4 p)) 0))
        (f : ℕ → List ℕ) (listed : (p : List ℕ) → Within sizes 4 p → f (box_of sizes 4 0 p) ≡ indexes_at (take k rs) (start_of rows table 4 p)) where
      abbrev next : ℕ → List ℕ
      next = plain_step (eqb (get_or replacing k 0) 1) k covered f

      -- THE PLAIN STEP AT A BOX
      pub next-at : (p : List ℕ) → Within sizes 4 p → next (box_of sizes 4 0 p) ≡ indexes_at (take (suc k) rs) (start_of rows table 4 p)
      next-at p w =
          let q = start_of rows table 4 p in
          let times = times_covered (rule_at rs k) q in
          step_after (eqb (get_or replacing k 0) 1) k times covered f (box_of sizes 4 0 p) (once k here q)
          (covers p w ∙ ap (λ S. not (eqb (combinations S q) 0)) (to-list.0.0.each k here).selected)
          ∙ ap₂ (λ b l. after b k times l) (noted k here) (listed p w) ∙ sym (indexes-next rs k q less)

      -- 6
      pub some-long : ((b : ℕ) → b < size_of sizes 4 → length (f b) ≤ list_limit) → some_overfull (eqb (get_or replacing k 0) 1) covered f (size_of sizes 4) ≡ long sheet_limits rs k
      unfolding some_overfull too_long
      some-long short =
          any_same (overfull (eqb (get_or replacing k 0) 1) covered f) (λ b. ltb list_limit (length (next b))) (from 0 (size_of sizes 4))
          (All-from _ 0 (size_of sizes 4) (λ b _ l. overfull-long (eqb (get_or replacing k 0) 1) k covered f b (short b (omega arith))))
          ∙ some-list rows sizes table rs lawful to-list.0.2.cut_by (suc k) next next-at (λ l. ltb list_limit (length l))
          ∙ ap (somewhere points) (λ i q. ltb list_limit (indexes-length rs (suc k) q less i))
