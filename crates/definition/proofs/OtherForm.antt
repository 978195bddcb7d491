-- A RULE MOVES TO ANOTHER FORM: rules that a sheet of one form carries are carried by one of another whose counts can hold the limits, if its comments
-- have room there. Rests on what a rule that is carried keeps to.
use mathlib.Core.Path.{◌≡◌, refl}
use mathlib.Core.List.{List, [], ◌∷◌}
use mathlib.Core.Bool.{true}
use Prim.Native.Nat.{ℕ, ◌^◌, ◌≤◌, ◌<◌}
use native.Mathlib.Omega.{arith}
use lib.Dec.{ltb}
use lib.ListN.{length}
use borrow.Author.Tests.{lt-ltb, le-leb, eq-eqb}
use Rattle.laws.specs.Lists.{All}
use Rattle.laws.proofs.Flags.{split-and, both-and}
use Rattle.laws.proofs.Lists.{All-map₂, every-all, all-every}
use Rattle.definition.specs.Field.{field, counted, ◌then◌, via, tagged, several}
use Rattle.definition.specs.Rule.{operator_number, kind_number, Rule}
use Rattle.definition.specs.Sheet.{Form, Limits, form1, form2, sheet_limits, choice, head_of, title, counts, head, rule, opening, rules}
use Rattle.definition.proofs.Carried.{each-passes, head-carried, counts-carried}
use Rattle.definition.proofs.RuleCounts.{rule-count-fits}
use Rattle.definition.proofs.Lawful.{rules-each}

-- a form's mark stands in its bits, and its counts can hold the limits
pub record Holds (form : Form) (limits : Limits) : Type 0 where
  pub mark-held : form.mark < 2 ^ form.mark_width
  pub rules-held : limits.rules < 2 ^ form.rule_count
  pub items-held : limits.items < 2 ^ form.item_count
  pub spans-held : limits.spans < 2 ^ form.item_count

-- "Under 01's limits the counts always fit both forms", and under these
pub holds1 : Holds form1 sheet_limits
holds1 = omega arith

pub holds2 : Holds form2 sheet_limits
holds2 = omega arith

module _ (from to : Form) (limits : Limits) (held : Holds to limits) where
  count-moves : (limit n : ℕ) → limit < 2 ^ to.item_count → n ≤ limit → (counted to.item_count limit).fits n ≡ true
  unfolding field
  count-moves limit n h l = both-and _ _ (lt-ltb n (2 ^ to.item_count) (omega arith)) (le-leb n limit l)

  title-moves : (r : Rule) → (title from limits).fits (head_of r).0 ≡ true → r.state.comment < 2 ^ to.comment → (title to limits).fits (head_of r).0 ≡ true
  unfolding title via ◌then◌ field
  title-moves r f l =
      let operator = choice.fits (operator_number r.operator) in
      let kind = choice.fits (kind_number r.state.kind) in
      let k = each-passes (operator ∷ kind ∷ ltb r.state.comment (2 ^ from.comment) ∷ true ∷ []) f in
      both-and _ _ k.0 (both-and _ _ k.1.0 (both-and _ _ (lt-ltb r.state.comment (2 ^ to.comment) l) refl))

  pub rule-moves : (r : Rule) → (rule from limits).fits r ≡ true → r.state.comment < 2 ^ to.comment → (rule to limits).fits r ≡ true
  unfolding rule tagged head counts ◌then◌
  rule-moves r f l =
      let few = counts-carried from limits r f in
      let counted-moves = both-and _ _ (count-moves _ _ held.items-held few.years-few) (both-and _ _ (count-moves _ _ held.items-held few.monthdays-few)
      (both-and _ _ (count-moves _ _ held.items-held few.weeks-few)
      (both-and _ _ (count-moves _ _ held.items-held few.weekdays-few) (count-moves _ _ held.spans-held few.spans-few)))) in
      both-and _ _ (both-and _ _ (title-moves r (head-carried from limits r f).0 l) counted-moves) (split-and ((head from limits).fits (head_of r)) _ f).1

  pub rules-move : (rs : List Rule) → (rules from limits).fits rs ≡ true → All (λ r. r.state.comment < 2 ^ to.comment) rs → (rules to limits).fits rs ≡ true
  unfolding rules tagged opening via ◌then◌ field several
  rules-move rs f l =
      let n = length rs in
      let few = rule-count-fits from limits rs f in
      let each = all-every (rule to limits).fits rs (All-map₂ rule-moves rs (every-all _ (rule from limits).fits (λ r e. e) rs (rules-each from limits rs f)) l) in
      both-and _ _
      (both-and _ _ (both-and _ _ (lt-ltb to.mark (2 ^ to.mark_width) held.mark-held) (eq-eqb to.mark to.mark refl))
      (both-and _ _ (lt-ltb n (2 ^ to.rule_count) (omega (arith, few, held.rules-held))) (le-leb n limits.rules few)))
      (both-and _ _ (eq-eqb n n refl) each)
