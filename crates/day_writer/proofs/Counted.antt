-- HOW MANY ITEMS A DAY'S RULES HAVE: each one those of the rows that it is laid over, so the counts of a form can carry all of them or none. Rests on how long
-- a row is.
use mathlib.Core.Path.{◌≡◌, refl, sym, ap, ◌∙◌}
use mathlib.Core.List.{List, [], ◌∷◌, map}
use mathlib.Core.Bool.{Bool, true, false, ◌&&◌, ◌||◌}
use Prim.Native.Nat.{ℕ, zero, suc, ◌+◌, ◌-◌, ◌≤◌, ◌<◌, ◌^◌}
use native.Mathlib.Omega.{arith}
use lib.Dec.{ltb}
use lib.ListN.{length, get_or, length-map}
use borrow.Author.Tests.{ltb-false, lt-ltb, le-ltb}
use Rattle.laws.specs.Lists.{All, any_of, from}
use Rattle.laws.proofs.Flags.{split-or, or_left}
use Rattle.laws.proofs.Lists.{any-all}
use Rattle.definition.specs.Rule.{months, operator_of, Rule}
use Rattle.definition.specs.Range.{Ends}
use Rattle.definition.specs.Sheet.{Form, most_items}
use Rattle.definition.specs.Point.{dimensions}
use Rattle.definition.specs.Day.{Day}
use Rattle.definition.specs.Group.{as_rule}
use Rattle.definition.specs.Fold.{item_counts, many_items}
use Rattle.item_writer.specs.Written.{years_from, weeks_from, days_from}
use Rattle.rule_writer.proofs.Rows.{row-length}
use Rattle.tables.specs.Days.{Carried}
use Rattle.tables.specs.Items.{FewItems, row_place, row, over_items, rows_below}
use Rattle.day_writer.specs.Rules.{Countable, many_counted, entry_rules, day_in, Whole}
use Rattle.tables.specs.Pages.{day_rules}
use Rattle.day_writer.proofs.Entries.{this_entry, entry_left}
use Rattle.day_writer.proofs.Laid.{entries-day, left_rules}

-- ## Sort by sort
module _ (most : ℕ) (counts : List ℕ) where
  abbrev many : ℕ → Bool
  many sort = ltb (most) (get_or counts sort 0)

  -- some sort from one on has too many items
  abbrev pub many_from : ℕ → Bool
  many_from sort = any_of many (from sort (4 - sort))

  -- this one or a later one
  many-next : (sort : ℕ) → sort < 4 → many_from sort ≡ many sort || many_from (sort + 1)
  unfolding any_of from
  many-next sort l =
      let left : 4 - sort ≡ suc (4 - (sort + 1)) = omega arith in
      let next : suc sort ≡ sort + 1 = omega arith in
      ap (λ n. any_of many (from sort n)) left ∙ ap (λ s. many sort || any_of many (from s (4 - (sort + 1)))) next

  pub many-here : (sort : ℕ) → sort < 4 → most < get_or counts sort 0 → many_from sort ≡ true
  many-here sort l h = many-next sort l ∙ or_left _ _ (lt-ltb (most) (get_or counts sort 0) h)

  pub many-later : (sort : ℕ) → sort < 4 → get_or counts sort 0 ≤ most → many_from sort ≡ many_from (sort + 1)
  many-later sort l h = many-next sort l ∙ ap (λ b. b || many_from (sort + 1)) (le-ltb (most) (get_or counts sort 0) h)

  pub many-ends : (sort : ℕ) → 4 ≤ sort → many_from sort ≡ false
  unfolding any_of from
  many-ends sort l = let none : 4 - sort ≡ 0 = omega arith in ap (λ n. any_of many (from sort n)) none

-- from the first one on, it is what the form is asked
pub many-asked : (form : Form) (most : ℕ) (counts : List ℕ) → most ≡ most_items form → many_from most counts 0 ≡ many_counted form counts
many-asked form most counts e = ap (λ m. many_from m counts 0) e

-- ## Rule by rule
module _ (form : Form) (ends counts : List ℕ) (inside : row_place counts 4 ≤ length ends) where
  abbrev E : List (List Ends)
  E = rows_below ends counts 4

  over-counts : (r : Rule) → item_counts (over_items dimensions E r) ≡ get_or counts 0 0 ∷ get_or counts 1 0 ∷ get_or counts 2 0 ∷ get_or counts 3 0 ∷ length r.spans ∷ []
  unfolding over_items rows_below
  over-counts r = λ i.
      long 0 (omega arith) (λ e. years_from e.0 e.1) i ∷ long 1 (omega arith) (λ e. months e.0 e.1) i
      ∷ long 2 (omega arith) (λ e. weeks_from e.0 e.1) i ∷ long 3 (omega arith) (λ e. days_from e.0 e.1) i ∷ length r.spans ∷ []
    where
      long : {A : Type 0} (sort : ℕ) → sort < 4 → (make : Ends → A) → length (map make (row ends counts sort)) ≡ get_or counts sort 0
      long sort l make = length-map (row ends counts sort) make ∙ row-length ends counts sort l inside

  -- one that the form can count has few items of each sort
  few-counted : (r : Rule) → many_items form (over_items dimensions E r) ≡ false → FewItems form counts
  unfolding many_items
  few-counted r h sort l =
      let k = any-all (ltb (most_items form)) _ (sym (ap (any_of (ltb (most_items form))) (over-counts r)) ∙ h) in
      go sort l k
    where
      go : (sort : ℕ) → sort < 4 → All (λ n. ltb (most_items form) n ≡ false) (get_or counts 0 0 ∷ get_or counts 1 0 ∷ get_or counts 2 0 ∷ get_or counts 3 0 ∷ length r.spans ∷ [])
          → get_or counts sort 0 ≤ most_items form
      go zero l k = ltb-false _ _ k.0
      go (suc zero) l k = ltb-false _ _ k.1.0
      go (suc (suc zero)) l k = ltb-false _ _ k.1.1.0
      go (suc (suc (suc zero))) l k = ltb-false _ _ k.1.1.1.0
      go (suc (suc (suc (suc n)))) l k = absurd (omega arith)

  -- whether it can is told by the rows alone, where the spans are few
  counted-rows : (r : Rule) → length r.spans ≤ most_items form → many_items form (over_items dimensions E r) ≡ many_counted form counts
  unfolding many_items any_of from
  counted-rows r l = ap (any_of (ltb (most_items form))) (over-counts r) ∙ rw (le-ltb (most_items form) (length r.spans) l) refl

  -- A DAY'S RULES: the form can't count some one where there is a rule and it can't count the rows
  entries-counted : 2 ^ 10 ≤ suc (most_items form) → (operator : ℕ) (d : Day) → All (Carried form) d
      → any_of (many_items form) (entry_rules operator E d) ≡ ltb 0 (length (entry_rules operator E d)) && many_counted form counts
  unfolding entry_rules any_of
  entries-counted wide operator [] c = refl
  entries-counted wide operator (e ∷ d) c =
      rw (counted-rows (as_rule (operator_of operator) e) (omega (arith, wide, c.0.few)), entries-counted wide 1 d c.1, lt-ltb 0 (suc (length (entry_rules 1 E d))) (omega arith))
      (go (many_counted form counts) (ltb 0 (length (entry_rules 1 E d))))
    where
      go : (b some : Bool) → b || some && b ≡ b
      go true some = refl
      go false true = refl
      go false false = refl

  module _ (wide : 2 ^ 10 ≤ suc (most_items form)) (d : Day) (c : All (Carried form) d) (rules : ℕ) (e : length (day_rules E d) ≡ rules) where
    day-counted : any_of (many_items form) (day_rules E d) ≡ ltb 0 rules && many_counted form counts
    day-counted =
        ap (any_of (many_items form)) (sym (entries-day E d)) ∙ entries-counted wide 0 d c ∙ ap (λ n. ltb 0 n && many_counted form counts) (ap length (entries-day E d) ∙ e)

    pub some-counted : 0 < rules → any_of (many_items form) (day_rules E d) ≡ many_counted form counts
    some-counted l = day-counted ∙ ap (λ b. b && many_counted form counts) (lt-ltb 0 rules l)

    pub none-counted : rules ≤ 0 → any_of (many_items form) (day_rules E d) ≡ false
    none-counted l = day-counted ∙ ap (λ b. b && many_counted form counts) (le-ltb 0 rules l)

  -- entry by entry, in words
  module _ (operator : ℕ) (words : List ℕ) (at : ℕ) (l : at < length words) (w : Whole form words at (length words - at))
      (h : Countable form (left_rules form ends counts words operator at)) where
    left-counted : FewItems form counts
        × Countable form (entry_rules 1 E (day_in words (at + 2 + get_or words (at + 1) 0) (length words - at - 2 - get_or words (at + 1) 0)))
    unfolding entry_rules any_of
    left-counted =
        let k = split-or _ _ (sym (ap (λ d. any_of (many_items form) (entry_rules operator E d)) (this_entry form words at l w).entry) ∙ h) in (few-counted _ k.0, k.1)

    pub left-few : FewItems form counts
    left-few = left-counted.0

    pub left-countable : Countable form (left_rules form ends counts words 1 (at + 2 + get_or words (at + 1) 0))
    left-countable =
        ap (λ n. any_of (many_items form) (entry_rules 1 E (day_in words (at + 2 + get_or words (at + 1) 0) n))) (sym (entry_left form words at l w))
        ∙ left-counted.1
