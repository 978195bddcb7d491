-- WHICH RESULTS PASS A FORM'S COUNTS: those with more rules than its rule count can carry, or with more items of a sort in some rule than a count of a rule
-- can. Rests on the definition's test, and on the law that what it lets through fits.
use mathlib.Core.Path.{◌≡◌, refl, sym, ◌∙◌}
use mathlib.Core.List.{List}
use mathlib.Core.Logic.{◌⊎◌, inl, inr}
use mathlib.Core.Bool.{Bool, true, false, true≢false}
use Prim.Native.Nat.{ℕ}
use lib.Dec.{ltb}
use lib.ListN.{length}
use borrow.Author.Tests.{ltb-true, lt-ltb}
use Rattle.laws.specs.Lists.{any_of, Mem}
use Rattle.laws.proofs.Flags.{or_left, or_right, not-true}
use Rattle.laws.proofs.Lists.{some-any, any_some}
use Rattle.definition.specs.Rule.{Rule}
use Rattle.definition.specs.Sheet.{Form, most_rules, most_items}
use Rattle.definition.specs.Fold.{item_counts, many_items, passes_counts}
use Rattle.definition.proofs.RuleCounts.{CountsFit, counts-kept, kept-counts}
use Rattle.promises.specs.Conditions.{Sort, year_items, monthday_items, week_items, weekday_items, span_items, count_of, MoreThan}

-- ## The counts of a rule are those of the five sorts
sort-counted : (r : Rule) (sort : Sort) → Mem (count_of sort r) (item_counts r)
unfolding Mem
sort-counted r year_items = inl refl
sort-counted r monthday_items = inr (inl refl)
sort-counted r week_items = inr (inr (inl refl))
sort-counted r weekday_items = inr (inr (inr (inl refl)))
sort-counted r span_items = inr (inr (inr (inr (inl refl))))

counted-sort : (r : Rule) (n : ℕ) → Mem n (item_counts r) → (sort : Sort) × (n ≡ count_of sort r)
unfolding Mem
counted-sort r n (inl e) = (year_items, e)
counted-sort r n (inr (inl e)) = (monthday_items, e)
counted-sort r n (inr (inr (inl e))) = (week_items, e)
counted-sort r n (inr (inr (inr (inl e)))) = (weekday_items, e)
counted-sort r n (inr (inr (inr (inr (inl e))))) = (span_items, e)
counted-sort r n (inr (inr (inr (inr (inr m))))) = absurd m

-- ## The test, of the rules that are to be written
module _ (form : Form) (ws : List Rule) where
  abbrev Past : Type 0
  Past = MoreThan (most_rules form) (most_items form) ws

  pub more-past : Past → passes_counts form ws ≡ true
  unfolding passes_counts many_items
  more-past (inl l) = or_left _ _ (lt-ltb (most_rules form) (length ws) l)
  more-past (inr (r, sort, m, l)) =
      let many = some-any (ltb (most_items form)) (count_of sort r) (item_counts r) (sort-counted r sort) (lt-ltb (most_items form) (count_of sort r) l) in
      or_right (ltb (most_rules form) (length ws)) (any_of (many_items form) ws) (some-any (many_items form) r ws m many)

  past_more : passes_counts form ws ≡ true → Past
  unfolding passes_counts many_items
  past_more h = go (ltb (most_rules form) (length ws)) refl
    where
      go : (b : Bool) → ltb (most_rules form) (length ws) ≡ b → Past
      go true e = inl (ltb-true (most_rules form) (length ws) e)
      go false e =
          let (r, m, many) = any_some (many_items form) ws (rw e at h) in
          let (n, k, l) = any_some (ltb (most_items form)) (item_counts r) many in
          let (sort, same) = counted-sort r n k in
          inr (r, sort, m, ltb-true (most_items form) (count_of sort r) (rw same at l))

  -- one or the other
  abbrev pub PastCases : Type 0
  PastCases = Past ⊎ (Past → ⊥)

  pub past_cases : PastCases
  past_cases = go (passes_counts form ws) refl
    where
      go : (b : Bool) → passes_counts form ws ≡ b → PastCases
      go true e = inl (past_more e)
      go false e = inr (λ h. true≢false (sym (more-past h) ∙ e))

  pub none-past : (Past → ⊥) → passes_counts form ws ≡ false
  none-past h = not-true (passes_counts form ws) (λ e. h (past_more e))

  -- WHAT DOESN'T PASS THEM FITS; and back
  pub none-fits : (Past → ⊥) → CountsFit form ws
  none-fits h = counts-kept form ws (none-past h)

  pub fits-none : CountsFit form ws → Past → ⊥
  fits-none k h = true≢false (sym (more-past h) ∙ kept-counts form ws k)
