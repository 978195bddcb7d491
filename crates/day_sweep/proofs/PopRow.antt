-- Popping along the one dimension of intervals: the first that matches, and what is left when its group is emptied.
-- Rests on grid's law of an emptied point.
use mathlib.Core.Path.{◌≡◌, refl, sym, ap, ◌∙◌}
use mathlib.Core.List.{List, [], ◌∷◌, ◌++◌}
use mathlib.Core.Logic.{◌⊎◌, inl, inr}
use mathlib.Core.Option.{none, some}
use mathlib.Core.Bool.{Bool, true, false, cond, true≢false}
use Rattle.laws.specs.Lists.{keep, any_of, All, Mem, first_of}
use Rattle.laws.specs.Tests.{Exact}
use Rattle.laws.proofs.Flags.{same_flag_lem, not-true, and-true}
use Rattle.laws.proofs.Lists.{All-map, Mem-keep, Mem-any, any-Mem}
use Rattle.laws.proofs.Tests.{exact-eqb, exact-pair}
use Rattle.grid.specs.Group.{Map, at, inside, agree, grow, pop, clear}
use Rattle.grid.specs.Cut.{Range, same_range}
use Rattle.grid.proofs.Value.{clear-value}
use Rattle.definition.specs.Rule.{State, closed, same_state}
use Rattle.definition.proofs.Same.{exact-state}

pub exact-range : Exact same_range
exact-range = exact-pair exact-eqb exact-eqb

module _ (ok : State → Bool) (f : Map Range State) where
  first-none : (E : List Range) → All (λ y. ok (f (y ∷ [])) ≡ false) E → first_of (λ x. pop same_state ok [] (at f x)) E ≡ none
  unfolding pop first_of
  first-none [] k = refl
  first-none (y ∷ E) k = rw (k.0, pop, first_of) (first-none E k.1)

  first_some : (pre : List Range) (x : Range) (post : List Range) → All (λ y. ok (f (y ∷ [])) ≡ false) pre → ok (f (x ∷ [])) ≡ true
      → first_of (λ y. pop same_state ok [] (at f y)) (pre ++ x ∷ post) ≡ some (f (x ∷ []), [])
  unfolding pop first_of
  first_some [] x post k e = rw (e, pop, first_of)
  first_some (y ∷ pre) x post k e = rw (k.0, pop, first_of) (first_some pre x post k.1 e)

  -- the coordinates with the value of x
  abbrev pub alike : Range → List Range → List Range
  alike x D = keep (λ y. agree same_state (f (x ∷ [])) [] (at f y)) D

  pub pop-none : (D : List Range) → All (λ y. ok (f (y ∷ [])) ≡ false) D → pop same_state ok (D ∷ []) f ≡ none
  unfolding pop grow
  pop-none D h = ap (grow same_state D f) (first-none D h)

  pub pop-some : (pre : List Range) (x : Range) (post : List Range) → All (λ y. ok (f (y ∷ [])) ≡ false) pre → ok (f (x ∷ [])) ≡ true
      → pop same_state ok ((pre ++ x ∷ post) ∷ []) f ≡ some (f (x ∷ []), alike x (pre ++ x ∷ post) ∷ [])
  unfolding pop grow
  pop-some pre x post h e = ap (grow same_state (pre ++ x ∷ post) f) (first_some pre x post h e)

  -- none before x has its value
  pub alike-pre : (pre : List Range) (x : Range) → All (λ y. ok (f (y ∷ [])) ≡ false) pre → ok (f (x ∷ [])) ≡ true
      → All (λ y. false ≡ agree same_state (f (x ∷ [])) [] (at f y)) pre
  unfolding agree
  alike-pre pre x h e = All-map
      (λ y k.
      sym (not-true (same_state (f (y ∷ [])) (f (x ∷ []))) (λ s. true≢false (sym e ∙ ap ok (sym (exact-state.equal (f (y ∷ [])) (f (x ∷ [])) s)) ∙ k))))
      pre h

Mem-keep-true : (t : Range → Bool) (x : Range) (D : List Range) → Mem x (keep t D) → t x ≡ true
unfolding Mem keep
Mem-keep-true t x [] m = absurd m
Mem-keep-true t x (y ∷ D) m = go (t y) refl m (Mem-keep-true t x D)
  where
    go : (b : Bool) → t y ≡ b → Mem x (keep t (y ∷ D)) → (Mem x (keep t D) → t x ≡ true) → t x ≡ true
    go true e k ih = pick (rw (e, keep) at k)
      where
        pick : (x ≡ y) ⊎ Mem x (keep t D) → t x ≡ true
        pick (inl q) = rw q e
        pick (inr n) = ih n
    go false e k ih = ih (rw (e, keep) at k)

-- a coordinate of D is among the kept ones where it passes
any-keep : (t : Range → Bool) (x : Range) (D : List Range) → Mem x D → any_of (same_range x) (keep t D) ≡ t x
any-keep t x D m = same_flag_lem _ _ (λ h. Mem-keep-true t x D (any-Mem exact-range x (keep t D) h)) (λ h. Mem-any exact-range x (keep t D) (Mem-keep t x D m h))

-- the value of a coordinate of D after the alike ones are emptied
pub alike-cleared : (f : Map Range State) (x y : Range) (D : List Range) → Mem y D
    → clear same_range closed (keep (λ y. agree same_state (f (x ∷ [])) [] (at f y)) D ∷ []) f (y ∷ [])
    ≡ cond (same_state (f (y ∷ [])) (f (x ∷ []))) closed (f (y ∷ []))
unfolding inside agree
alike-cleared f x y D m =
    clear-value same_range closed (keep (λ y. agree same_state (f (x ∷ [])) [] (at f y)) D ∷ []) f (y ∷ [])
    ∙ ap (λ b. cond b closed (f (y ∷ []))) (and-true _ ∙ any-keep (λ y. agree same_state (f (x ∷ [])) [] (at f y)) y D m)
