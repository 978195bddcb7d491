-- 01's order of spans is total, so sorting what is sorted changes nothing.
use mathlib.Core.Path.{◌≡◌, refl, ap, ◌∙◌}
use mathlib.Core.List.{List, [], ◌∷◌}
use mathlib.Core.Bool.{Bool, true, false, ◌||◌, true≢false}
use Prim.Native.Nat.{ℕ}
use native.Mathlib.Omega.{arith}
use lib.Dec.{eqb, ltb}
use borrow.Author.Tests.{ltb-false, lt-ltb, eqb-true, eqb-false, eq-eqb}
use Rattle.definition.specs.Rule.{not_above, span_key, Span, insert_span, sorted}

-- of two keys one is not above the other
above_other : (xs ys : List ℕ) → not_above xs ys ≡ false → not_above ys xs ≡ true
unfolding not_above
above_other [] ys h = absurd (true≢false h)
above_other (x ∷ xs) [] h = refl
above_other (x ∷ xs) (y ∷ ys) h = go (ltb x y) refl (eqb x y) refl (above_other xs ys)
  where
    go : (a : Bool) → ltb x y ≡ a → (b : Bool) → eqb x y ≡ b → (not_above xs ys ≡ false → not_above ys xs ≡ true) → not_above (y ∷ ys) (x ∷ xs) ≡ true
    go true e b f ih = absurd (true≢false (rw e at h))
    go false e true f ih = rw (eq-eqb y x (omega (arith, eqb-true x y f)), ih (rw (e, f) at h)) (or-true (ltb y x))
      where
        or-true : (v : Bool) → v || true ≡ true
        or-true true = refl
        or-true false = refl
    go false e false f ih = rw (lt-ltb y x (omega (arith, ltb-false x y e, eqb-false x y f)))

-- each span not above the next
abbrev Below : Span → List Span → Type 0
Below s [] = Unit {0}
Below s (t ∷ ts) = not_above (span_key s) (span_key t) ≡ true

abbrev Ordered : List Span → Type 0
Ordered [] = Unit {0}
Ordered (s ∷ ss) = Below s ss × Ordered ss

below-insert : (r s : Span) (ss : List Span) → not_above (span_key r) (span_key s) ≡ true → Below r ss → Below r (insert_span s ss)
unfolding insert_span
below-insert r s [] h k = h
below-insert r s (t ∷ ss) h k = go (not_above (span_key s) (span_key t)) refl
  where
    go : (b : Bool) → not_above (span_key s) (span_key t) ≡ b → Below r (insert_span s (t ∷ ss))
    go true e = rw (e, insert_span) h
    go false e = rw (e, insert_span) k

insert-ordered : (s : Span) (ss : List Span) → Ordered ss → Ordered (insert_span s ss)
unfolding insert_span
insert-ordered s [] h = (tt, tt)
insert-ordered s (t ∷ ss) h = go (not_above (span_key s) (span_key t)) refl (insert-ordered s ss h.1)
  where
    go : (b : Bool) → not_above (span_key s) (span_key t) ≡ b → Ordered (insert_span s ss) → Ordered (insert_span s (t ∷ ss))
    go true e ih = rw (e, insert_span) (e, h)
    go false e ih = rw (e, insert_span) (below-insert t s ss (above_other (span_key s) (span_key t) e) h.0, ih)

sorted-ordered : (ss : List Span) → Ordered (sorted ss)
unfolding sorted
sorted-ordered [] = tt
sorted-ordered (s ∷ ss) = insert-ordered s (sorted ss) (sorted-ordered ss)

ordered-stays : (ss : List Span) → Ordered ss → sorted ss ≡ ss
unfolding sorted
ordered-stays [] h = refl
ordered-stays (s ∷ ss) h = ap (insert_span s) (ordered-stays ss h.1) ∙ first s ss h.0
  where
    first : (s : Span) (ss : List Span) → Below s ss → insert_span s ss ≡ s ∷ ss
    first s [] k = unfold insert_span in refl
    first s (t ∷ ss) k = unfold insert_span in rw (k, insert_span)

pub sorted-again : (ss : List Span) → sorted (sorted ss) ≡ sorted ss
sorted-again ss = ordered-stays (sorted ss) (sorted-ordered ss)
