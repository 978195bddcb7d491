-- OVERLAPS BY ENDS: two items share a value exactly where two of their ranges do, and two ranges exactly where each begins before the other
-- ends. So what is said over values can be computed over ends, wraps and touching ranges included. Rests on the bounds that lawful rules keep.
use mathlib.Core.Path.{◌≡◌, refl, sym, ap₂, ◌∙◌}
use mathlib.Core.Logic.{◌⊎◌, inl, inr}
use mathlib.Core.List.{List, [], ◌∷◌}
use mathlib.Core.Bool.{Bool, true, false, ◌&&◌, ◌||◌}
use Prim.Native.Nat.{ℕ, suc, ◌-◌, ◌≤◌, ◌<◌}
use native.Mathlib.Omega.{arith}
use lib.Dec.{ltb}
use borrow.Author.Tests.{lt-ltb, ltb-true}
use Rattle.laws.specs.Lists.{any_of, any_pair, All, Mem}
use Rattle.laws.proofs.Flags.{split-and, both-and, and-false, same_flag_lem}
use Rattle.laws.proofs.Lists.{All-map, All-Mem, any_some, some-any}
use Rattle.laws.proofs.Passing.{first-same}
use Rattle.laws.proofs.Pairs.{across, pair-spread, pair_same}
use Rattle.laws.proofs.Numbers.{at_most, Mem-from}
use Rattle.grid.specs.Cut.{Range, holds, coordinates}
use Rattle.grid.proofs.Cut.{Inside, holds-in, in-holds}
use Rattle.definition.specs.Rule.{Rule}
use Rattle.definition.specs.Range.{Ends, split, ranges}
use Rattle.definition.specs.Point.{Dimension, dimensions, selector}
use Rattle.definition.specs.Overlap.{share, overlaps, first_overlap}
use Rattle.definition.specs.OverBoxes.{meets, overlaps_over_ends, first_overlap_over_ends}
use Rattle.definition.proofs.Lawful.{Bounded, LawfulIn, Lawful, split-inside}

-- ## Two ranges
-- ranges with a common value meet
pub held-meets : (a c : Range) (x : ℕ) → holds x a ≡ true → holds x c ≡ true → meets a c ≡ true
held-meets a c x h k =
    let l = holds-in x a h in
    let m = holds-in x c k in
    both-and (ltb a.0 c.1) (ltb c.0 a.1) (lt-ltb a.0 c.1 (omega arith)) (lt-ltb c.0 a.1 (omega arith))

module _ (b : Range) where
  -- within the bounds, and not empty
  abbrev Filled : Range → Type 0
  Filled r = Inside b r × (r.0 < r.1)

  -- ranges that meet have a common value: the start of the later one
  meets-held : (a c : Range) → Filled a → Filled c → meets a c ≡ true → (x : ℕ) × Mem x (coordinates b) × (holds x a ≡ true) × (holds x c ≡ true)
  meets-held a c f g h = go (at_most a.0 c.0)
    where
      k : (a.0 < c.1) × (c.0 < a.1)
      k = let e = split-and (ltb a.0 c.1) (ltb c.0 a.1) h in (ltb-true a.0 c.1 e.0, ltb-true c.0 a.1 e.1)

      among : (x : ℕ) → b.0 ≤ x → x < b.1 → Mem x (coordinates b)
      among x l m = Mem-from x b.0 (b.1 - b.0) l (omega arith)

      go : (a.0 ≤ c.0) ⊎ (c.0 < a.0) → (x : ℕ) × Mem x (coordinates b) × (holds x a ≡ true) × (holds x c ≡ true)
      go (inl l) = (c.0, among c.0 (omega (arith, g.0)) (omega (arith, g.0, g.1)), in-holds c.0 a l k.1, in-holds c.0 c (omega arith) g.1)
      go (inr l) = (a.0, among a.0 (omega (arith, f.0)) (omega (arith, f.0, f.1)), in-holds a.0 a (omega arith) f.1, in-holds a.0 c (omega arith) k.0)

  -- ## Two items
  held_across : (R Q : List Range) → All Filled R → All Filled Q
      → any_of (λ x. any_of (holds x) R && any_of (holds x) Q) (coordinates b) ≡ across meets R Q
  held_across R Q f g = same_flag_lem (any_of _ (coordinates b)) (across meets R Q) to back
    where
      to : any_of (λ x. any_of (holds x) R && any_of (holds x) Q) (coordinates b) ≡ true → across meets R Q ≡ true
      to h =
          let v = any_some (λ x. any_of (holds x) R && any_of (holds x) Q) (coordinates b) h in
          let e = split-and (any_of (holds v.0) R) (any_of (holds v.0) Q) v.2 in
          let a = any_some (holds v.0) R e.0 in
          let c = any_some (holds v.0) Q e.1 in
          some-any (λ r. any_of (meets r) Q) a.0 R a.1 (some-any (meets a.0) c.0 Q c.1 (held-meets a.0 c.0 v.0 a.2 c.2))

      back : across meets R Q ≡ true → any_of (λ x. any_of (holds x) R && any_of (holds x) Q) (coordinates b) ≡ true
      back h =
          let a = any_some (λ r. any_of (meets r) Q) R h in
          let c = any_some (meets a.0) Q a.2 in
          let v = meets-held a.0 c.0 (All-Mem Filled R f a.0 a.1) (All-Mem Filled Q g c.0 c.1) c.2 in
          some-any (λ x. any_of (holds x) R && any_of (holds x) Q) v.0 (coordinates b) v.1
          (both-and _ _ (some-any (holds v.0) a.0 R a.1 v.2) (some-any (holds v.0) c.0 Q c.1 v.3))

  split-filled : (e : Ends) → Bounded b e → All Filled (split b e)
  unfolding split
  split-filled e h = go (ltb e.0 (suc e.1)) refl (split-inside b e h)
    where
      go : (t : Bool) → ltb e.0 (suc e.1) ≡ t → All (Inside b) (split b e) → All Filled (split b e)
      go true k i = let j = rw (k, split) at i in rw (k, split) ((j.0, ltb-true e.0 (suc e.1) k), tt)
      go false k i =
          let l = holds-in e.0 b h.0 in
          let m = holds-in e.1 b h.1 in
          let j = rw (k, split) at i in
          rw (k, split) ((j.0, omega arith), ((j.1.0, omega arith), tt))

  share-meets : (e f : Ends) → Bounded b e → Bounded b f → share b e f ≡ across meets (split b e) (split b f)
  unfolding share
  share-meets e f h k = held_across (split b e) (split b f) (split-filled e h) (split-filled f k)

  -- the two parts of an item that wraps never meet
  split-apart : (e : Ends) → any_pair meets (split b e) ≡ false
  unfolding split any_pair any_of
  split-apart e = go (ltb e.0 (suc e.1)) refl
    where
      go : (t : Bool) → ltb e.0 (suc e.1) ≡ t → any_pair meets (split b e) ≡ false
      go true k = rw (k, split) refl
      go false k = rw (k, split) (rw (k, and-false (ltb b.0 b.1)) refl)

  -- ## The items of one dimension
  items-meet : (es : List Ends) → All (Bounded b) es → any_pair (share b) es ≡ any_pair meets (ranges b es)
  unfolding ranges any_pair any_of
  items-meet [] h = refl
  items-meet (e ∷ es) h =
      pair_same (Bounded b) (share b) (λ x y. across meets (split b x) (split b y)) share-meets (e ∷ es) h
      ∙ sym (pair-spread meets (split b) (e ∷ es) (All-map (λ x k. split-apart x) (e ∷ es) h))

-- ## A rule
in-dimensions : (r : Rule) (ds : List Dimension) → All (LawfulIn r) ds
    → any_of (λ d. any_pair (share d.bounds) (d.items r)) ds ≡ any_of (any_pair meets) (selector ds r)
unfolding any_of selector
in-dimensions r [] h = refl
in-dimensions r (d ∷ ds) h = ap₂ ◌||◌ (items-meet d.bounds (d.items r) h.0) (in-dimensions r ds h.1)

-- THE SAME OVER ENDS
pub overlaps-ends : (r : Rule) → Lawful r → overlaps r ≡ overlaps_over_ends r
unfolding overlaps overlaps_over_ends
overlaps-ends r h = in-dimensions r dimensions h

pub first-overlap-ends : (rs : List Rule) → All Lawful rs → first_overlap rs ≡ first_overlap_over_ends rs
unfolding first_overlap first_overlap_over_ends
first-overlap-ends rs h = first-same overlaps overlaps_over_ends rs (All-map overlaps-ends rs h)
