-- RULES DRAINED AGAIN: what becomes of the list at a point after rules that don't cover it, and after rules that all cover it once.
use mathlib.Core.Path.{◌≡◌, refl, sym, ap, ◌∙◌}
use mathlib.Core.List.{List, [], ◌∷◌, ◌++◌, append_assoc, append-nil}
use mathlib.Core.Bool.{Bool, true, false}
use Prim.Native.Nat.{ℕ}
use Rattle.laws.specs.Lists.{All}
use Rattle.definition.specs.Rule.{Rule}
use Rattle.definition.specs.Point.{dimensions, selector, combinations, replaces, after, list_from, list_at}

-- how often a rule covers a point
abbrev pub times : Rule → List ℕ → ℕ
times r p = combinations (selector dimensions r) p

-- a rule that doesn't cover the point leaves the list
after_none : (r : Rule) (l : List Rule) → after (replaces r) r 0 l ≡ l
after_none r l = go (replaces r) refl
  where
    go : (b : Bool) → replaces r ≡ b → after (replaces r) r 0 l ≡ l
    go true e = unfold after in rw (e, after)
    go false e = unfold after in rw (e, after) (append-nil l)

-- one that covers it once is the list where there was none
after_first : (r : Rule) → after (replaces r) r 1 [] ≡ r ∷ []
after_first r = go (replaces r) refl
  where
    go : (b : Bool) → replaces r ≡ b → after (replaces r) r 1 [] ≡ r ∷ []
    go true e = unfold after in rw (e, after)
    go false e = unfold after in rw (e, after)

-- one that doesn't replace comes behind
after_more : (r : Rule) (l : List Rule) → replaces r ≡ false → after (replaces r) r 1 l ≡ l ++ (r ∷ [])
unfolding after
after_more r l e = rw (e, after)

module _ (p : List ℕ) where
  pub list-out : (l rs : List Rule) → All (λ r. times r p ≡ 0) rs → list_from l rs p ≡ l
  unfolding list_from
  list-out l [] h = refl
  list-out l (r ∷ rs) h = ap (λ n. list_from (after (replaces r) r n l) rs p) h.0 ∙ ap (λ k. list_from k rs p) (after_none r l) ∙ list-out l rs h.1

  list-more : (l rs : List Rule) → All (λ r. (times r p ≡ 1) × (replaces r ≡ false)) rs → list_from l rs p ≡ l ++ rs
  unfolding list_from
  list-more l [] h = sym (append-nil l)
  list-more l (r ∷ rs) h =
      ap (λ n. list_from (after (replaces r) r n l) rs p) h.0.0 ∙ ap (λ k. list_from k rs p) (after_more r l h.0.1)
      ∙ list-more (l ++ (r ∷ [])) rs h.1 ∙ append_assoc l (r ∷ []) rs

  -- a first rule and others that don't replace, all covering the point once
  pub list-in : (r : Rule) (rs : List Rule) → times r p ≡ 1 → All (λ q. (times q p ≡ 1) × (replaces q ≡ false)) rs → list_at (r ∷ rs) p ≡ r ∷ rs
  unfolding list_from
  list-in r rs h k = ap (λ n. list_from (after (replaces r) r n []) rs p) h ∙ ap (λ l. list_from l rs p) (after_first r) ∙ list-more (r ∷ []) rs k
