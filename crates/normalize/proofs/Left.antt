-- THE RULES LEFT, where they stand: behind the drained rules, up to the end of all. Rests on the law of beginnings.
use mathlib.Core.Path.{◌≡◌, refl, sym, ap, ap₂, ◌∙◌, subst}
use mathlib.Core.Bool.{Bool, true, false, cond}
use mathlib.Core.List.{List, [], ◌∷◌, flat_map}
use Prim.Native.Nat.{ℕ, ◌-◌, ◌≤◌, ◌<◌}
use native.Mathlib.Omega.{arith}
use lib.Dec.{ltb}
use lib.ListN.{length, drop, get_or}
use borrow.Author.Tests.{ltb-true, ltb-false}
use Rattle.laws.proofs.Lists.{every-all}
use Rattle.definition.specs.Field.{sheet_bits}
use Rattle.definition.specs.Rule.{Rule}
use Rattle.definition.specs.Sheet.{Form, sheet_limits, rule, rules}
use Rattle.definition.specs.Stop.{drained, left, why}
use Rattle.definition.proofs.Bits.{Bytes}
use Rattle.definition.proofs.Faithful.{Stand, stand-taken}
use Rattle.definition.proofs.Drained.{left_behind}
use Rattle.definition.proofs.Carried.{comment-carried}
use Rattle.definition.proofs.FoldBox.{drained-all}
use Rattle.definition.proofs.Lawful.{rules-each}
use Rattle.definition.proofs.RuleCounts.{left-few-items}
use Rattle.definition.proofs.SheetRead.{encode-decoded}
use Rattle.sheet.proofs.Begins.{Begins, rules-begin, rules-end, rules-few}
use Rattle.tables.specs.Rules.{AllCommented}
use Rattle.sheet.specs.Parts.{SheetRead, Leaving}

empty : (qs : List Rule) → length qs ≤ 0 → qs ≡ []
empty [] h = refl
empty (q ∷ qs) h = absurd (omega arith)

module _ (form : Form) (sheet : List ℕ) (bytes : Bytes sheet) (begins : List ℕ) (rs : List Rule) (end : ℕ) (r : SheetRead form sheet begins rs end) where
  carried : (rules form sheet_limits).fits rs ≡ true
  carried = (encode-decoded form sheet_limits sheet bytes rs end r.read).0

  rules-limited : length rs ≤ sheet_limits.rules
  rules-limited = rules-few form sheet rs end bytes r.read

  first-left : length (drained rs) < length rs → Begins form (sheet_bits sheet) end rs (length (drained rs)) (get_or begins (length (drained rs)) 0)
  first-left h =
      subst (λ b. Begins form (sheet_bits sheet) end rs (length (drained rs)) (get_or b (length (drained rs)) 0)) (sym r.noted)
      (rules-begin form sheet rs end r.narrow bytes r.read r.before r.room (length (drained rs)) h)

  -- THE RULES LEFT from the first of them on; where none is left, from the end on
  leaving-at : (start : ℕ) → Stand (flat_map (rule form sheet_limits).write (left rs)) (sheet_bits sheet) start end
      → Leaving form sheet rs start end (length (drained rs)) (length rs - length (drained rs)) (why rs)
  leaving-at start s =
      let ws = flat_map (rule form sheet_limits).write (left rs) in
      let many : end - start ≡ length ws = omega (arith, s.ends) in
      let End-low = rules-end form sheet rs end r.narrow bytes r.read in
      record {
        ordered = omega (arith, s.ends);
        inside = End-low.0;
        low = End-low.1;
        stands = stand-taken ws (sheet_bits sheet) start end (end - start) s many;
        drained-many = refl;
        left-many = omega (arith, (left_behind rs).1);
        left-few = omega (arith, rules-limited);
        left-counted = left-few-items form sheet_limits rs carried;
        told = refl;
      }

  drained-leaving : (start : ℕ) → start ≡ cond (ltb (length (drained rs)) (length rs)) (get_or begins (length (drained rs)) 0) end
      → Leaving form sheet rs start end (length (drained rs)) (length rs - length (drained rs)) (why rs)
  unfolding flat_map
  drained-leaving start e = go (ltb (length (drained rs)) (length rs)) refl
    where
      go : (b : Bool) → ltb (length (drained rs)) (length rs) ≡ b → Leaving form sheet rs start end (length (drained rs)) (length rs - length (drained rs)) (why rs)
      go true l =
          let at : start ≡ get_or begins (length (drained rs)) 0 = e ∙ ap (λ b. cond b (get_or begins (length (drained rs)) 0) end) l in
          leaving-at start
          (subst (λ p. Stand (flat_map (rule form sheet_limits).write (left rs)) (sheet_bits sheet) p end) (sym at)
          (subst (λ qs. Stand (flat_map (rule form sheet_limits).write qs) (sheet_bits sheet) (get_or begins (length (drained rs)) 0) end) (left_behind rs).0
          (first-left (ltb-true (length (drained rs)) (length rs) l)).stands))
      go false l =
          let at : start ≡ end = e ∙ ap (λ b. cond b (get_or begins (length (drained rs)) 0) end) l in
          let none : left rs ≡ [] = empty (left rs) (omega (arith, ltb-false (length (drained rs)) (length rs) l, (left_behind rs).1)) in
          leaving-at start (subst (λ qs. Stand (flat_map (rule form sheet_limits).write qs) (sheet_bits sheet) start end) (sym none)
          (record { ends = omega (arith, at); stands = ap (λ p. drop p (sheet_bits sheet)) at }))

  -- told by how many rules were drained, of how many, and why the drain ended
  pub rules-leaving : (n many : ℕ) → n ≡ length (drained rs) → many ≡ length rs → (start stop rules k v : ℕ) → start ≡ cond (ltb n many) (get_or begins n 0) end → stop ≡ end
      → rules ≡ many - n → k ≡ n → v ≡ why rs → Leaving form sheet rs start stop k rules v
  rules-leaving n many en em start stop rules k v es ee er ek ev =
      subst (λ a. Leaving form sheet rs start a k rules v) (sym ee)
      (subst (λ a. Leaving form sheet rs start end a rules v) (sym (ek ∙ en))
      (subst (λ a. Leaving form sheet rs start end (length (drained rs)) a v) (sym (er ∙ ap₂ ◌-◌ em en))
      (subst (Leaving form sheet rs start end (length (drained rs)) (length rs - length (drained rs))) (sym ev)
      (drained-leaving start (es ∙ ap₂ (λ a b. cond (ltb a b) (get_or begins a 0) end) en em)))))

  -- the comments of drained rules have room in the form that they were read in
  pub rules-commented : AllCommented form (drained rs)
  rules-commented =
      drained-all _ rs (every-all _ (rule form sheet_limits).fits (comment-carried form sheet_limits) rs (rules-each form sheet_limits rs carried))
