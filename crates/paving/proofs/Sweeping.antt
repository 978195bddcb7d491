-- The invariant of the loop that pops groups: what was taken in and the groups left are all, whatever takes them in; and each round leaves
-- fewer cells of the class. Rests on grid's sweeps.
use mathlib.Core.Path.{◌≡◌, refl, sym, ap, ◌∙◌, subst}
use mathlib.Core.Bool.{Bool, true, false, cond}
use mathlib.Core.List.{List, [], ◌∷◌, ◌++◌, map}
use mathlib.Core.Option.{Option, some, none}
use Prim.Native.Nat.{ℕ, suc, ◌+◌, ◌≤◌, ◌<◌}
use native.Mathlib.Omega.{arith}
use lib.Dec.{eqb, ltb, leb}
use lib.ListN.{get_or}
use borrow.Author.Tests.{ne_eqb}
use Rattle.laws.specs.Lists.{OnSome}
use Rattle.laws.proofs.Tests.{exact-eqb}
use Rattle.grid.specs.Group.{Set, Map, Group, clear, take_out, sweep, groups}
use Rattle.grid.proofs.Value.{tally, pop-less}
use Rattle.grid.proofs.Steps.{sweep-unroll}
use Rattle.paving.specs.Grid.{axes, grid, lowest_class, in_class, pop_at, popped, marked, Cleared}
use Rattle.paving.specs.Sweep.{swept, classes_from, groups_from, emitted, left_after, left_from, mark_group, TakenOut}
use Rattle.paving.proofs.Room.{from_cons, from_end}

-- how many cells are of a class: the measure of the loop
unfoldable pub matching : List ℕ → List ℕ → List ℕ → ℕ → ℕ → ℕ
matching cells classes sizes k l = tally (in_class classes k) (axes sizes l) (grid cells sizes l 0)

pub emitted-append : {S : Type 0} (emit : S → Group ℕ ℕ → S) (s : S) (xs ys : List (Group ℕ ℕ))
    → emitted emit s (xs ++ ys) ≡ emitted emit (emitted emit s xs) ys
unfolding emitted
emitted-append emit s [] ys = refl
emitted-append emit s (x ∷ xs) ys = emitted-append emit (emit s x) xs ys

-- no class has the empty cell
pub empty-unmatched : (classes : List ℕ) (k : ℕ) → get_or classes 0 0 ≡ 0 → in_class classes k 0 ≡ false
unfolding in_class lowest_class
empty-unmatched classes k z = rw z (go (ltb k 3) (ltb k 5))
  where
    go : (a b : Bool) → cond (ltb 0 (cond a 1 (cond b 3 1))) false (leb 0 k) ≡ false
    go true b = refl
    go false true = refl
    go false false = refl

-- ## One class
module _ (cells classes sizes : List ℕ) (k l : ℕ) (z : get_or classes 0 0 ≡ 0) where
  unmatched : in_class classes k 0 ≡ false
  unmatched = empty-unmatched classes k z

  unroll : swept cells classes sizes k l
      ≡ take_out eqb eqb 0 (grid cells sizes l 0) (λ f. sweep eqb eqb 0 (in_class classes k) (axes sizes l) f) (pop_at cells classes sizes k l 0)
  unfolding swept pop_at
  unroll = sweep-unroll exact-eqb exact-eqb 0 (axes sizes l) (in_class classes k) unmatched (grid cells sizes l 0)

  swept_none : (f : Option ℕ) (S : Set ℕ) → popped f S ≡ pop_at cells classes sizes k l 0 → f ≡ none → swept cells classes sizes k l ≡ ([], grid cells sizes l 0)
  unfolding popped take_out
  swept_none f S h q = unroll ∙ ap (take_out eqb eqb 0 (grid cells sizes l 0) (λ f. sweep eqb eqb 0 (in_class classes k) (axes sizes l) f)) (sym (rw q at h))

  -- nothing popped: nothing more to take in, and the cells are what is left
  pub loop-end : {T : Type 0} (emit : T → Group ℕ ℕ → T) (f : Option ℕ) (S : Set ℕ) → popped f S ≡ pop_at cells classes sizes k l 0 → f ≡ none
      → (s r : T) (m : Map ℕ ℕ)
      → emitted emit s (swept cells classes sizes k l).0 ≡ r → (swept cells classes sizes k l).1 ≡ m → (s ≡ r) × (grid cells sizes l 0 ≡ m)
  unfolding emitted
  loop-end emit f S h q s r m g w =
      let e = sym (swept_none f S h q) in
      (ap (λ p. emitted emit s p.0) e ∙ g, ap (λ p. p.1) e ∙ w)

  module _ (after : List ℕ) (f : Option ℕ) (v : ℕ) (S : Set ℕ) (h : popped f S ≡ pop_at cells classes sizes k l 0) (q : f ≡ some v)
      (c : Cleared cells after sizes l 0 S) where
    one : pop_at cells classes sizes k l 0 ≡ some (v, S)
    unfolding popped
    one = sym (rw q at h)

    swept-some : swept cells classes sizes k l ≡ ((v, S) ∷ (swept after classes sizes k l).0, (swept after classes sizes k l).1)
    unfolding take_out swept
    swept-some =
        unroll ∙ ap (take_out eqb eqb 0 (grid cells sizes l 0) (λ f. sweep eqb eqb 0 (in_class classes k) (axes sizes l) f)) one
        ∙ ap (λ g. ((v, S) ∷ (sweep eqb eqb 0 (in_class classes k) (axes sizes l) g).0, (sweep eqb eqb 0 (in_class classes k) (axes sizes l) g).1)) (sym (c 0))

    pub matching-falls : matching after classes sizes k l < matching cells classes sizes k l
    unfolding matching pop_at
    matching-falls =
        subst (λ g. tally (in_class classes k) (axes sizes l) g < tally (in_class classes k) (axes sizes l) (grid cells sizes l 0)) (sym (c 0))
        (subst (OnSome (λ g. tally (in_class classes k) (axes sizes l) (clear eqb 0 g.1 (grid cells sizes l 0)) < tally (in_class classes k) (axes sizes l)
        (grid cells sizes l 0))) one
        (pop-less exact-eqb exact-eqb 0 (in_class classes k) (in_class classes k) (λ v e. e) unmatched (axes sizes l) (grid cells sizes l 0)))

    -- the group taken in: what is left to take in, and what is left in the end, is that of the cells without it
    pub loop-round : {T : Type 0} (emit : T → Group ℕ ℕ → T) (s s₁ r : T) (m : Map ℕ ℕ) → emitted emit s (swept cells classes sizes k l).0 ≡ r
        → (swept cells classes sizes k l).1 ≡ m
        → s₁ ≡ emit s (v, S) → (emitted emit s₁ (swept after classes sizes k l).0 ≡ r) × ((swept after classes sizes k l).1 ≡ m)
    unfolding emitted
    loop-round emit s s₁ r m g w a = (
      ap (λ u. emitted emit u (swept after classes sizes k l).0) a ∙ ap (λ p. emitted emit s p.0) (sym swept-some) ∙ g,
      ap (λ p. p.1) (sym swept-some) ∙ w,
    )

    pub marks-round : (marks marks₁ : List ℕ) → marks₁ ≡ marked sizes l 0 (pop_at cells classes sizes k l 0) marks → marks₁ ≡ mark_group sizes l marks (v, S)
    unfolding marked mark_group
    marks-round marks marks₁ e = e ∙ ap (λ o. marked sizes l 0 o marks) one

    pub elsewhere-round : (first : List ℕ) → ((d : ℕ) → 1 ≤ d → grid cells sizes l d ≡ grid first sizes l d) → (d : ℕ) → 1 ≤ d
        → grid after sizes l d ≡ grid first sizes l d
    elsewhere-round first e d h = c d ∙ ap (λ b. cond b (clear eqb 0 S (grid cells sizes l d)) (grid cells sizes l d)) (ne_eqb d 0 (omega arith)) ∙ e d h

-- ## Class after class
module _ (cells classes sizes : List ℕ) (last k l : ℕ) where
  pub groups-end : {T : Type 0} (emit : T → Group ℕ ℕ → T) (s : T) → last < k → s ≡ emitted emit s (groups_from cells classes sizes last k l)
  unfolding emitted groups_from classes_from groups
  groups-end emit s h = rw (from_end k (suc last) h)

  pub groups-step : {T : Type 0} (emit : T → Group ℕ ℕ → T) (after : List ℕ) (s s₁ r : T) → k ≤ last → s₁ ≡ emitted emit s (swept cells classes sizes k l).0
      → grid after sizes l 0 ≡ (swept cells classes sizes k l).1 → r ≡ emitted emit s₁ (groups_from after classes sizes last (k + 1) l)
      → r ≡ emitted emit s (groups_from cells classes sizes last k l)
  unfolding swept groups_from classes_from groups
  groups-step emit after s s₁ r h a c g = rw (from_cons k (suc last) (omega arith), emitted-append, ← a, ← c) g

  pub taken_none : (marks : List ℕ) → last < k
      → TakenOut sizes l cells marks cells marks (groups_from cells classes sizes last k l) (left_from cells classes sizes last k l)
  unfolding left_from left_after classes_from
  taken_none marks h = record { marked = groups-end (mark_group sizes l) marks h; left = rw (from_end k (suc last) h); elsewhere = λ d o. refl }

  pub taken_more : (marks cells₁ marks₁ cells₂ marks₂ : List ℕ) → k ≤ last
      → TakenOut sizes l cells marks cells₁ marks₁ (swept cells classes sizes k l).0 (swept cells classes sizes k l).1
      → TakenOut sizes l cells₁ marks₁ cells₂ marks₂ (groups_from cells₁ classes sizes last (k + 1) l) (left_from cells₁ classes sizes last (k + 1) l)
      → TakenOut sizes l cells marks cells₂ marks₂ (groups_from cells classes sizes last k l) (left_from cells classes sizes last k l)
  unfolding swept left_from left_after classes_from
  taken_more marks cells₁ marks₁ cells₂ marks₂ h a b = record {
    marked = groups-step (mark_group sizes l) cells₁ marks marks₁ marks₂ h a.marked a.left b.marked;
    left =
        b.left ∙ ap (left_after (classes_from classes last (k + 1)) (axes sizes l)) a.left
        ∙ sym (ap (λ ks. left_after (map (in_class classes) ks) (axes sizes l) (grid cells sizes l 0)) (from_cons k (suc last) (omega arith)));
    elsewhere = λ d o. b.elsewhere d o ∙ a.elsewhere d o;
  }
