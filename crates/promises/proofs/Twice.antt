-- WHICH RULE HAS DAYS TYPED TWICE: a rule overlaps exactly where items at two places of one selector have a common value; and some rule is the first,
-- or none does. Rests on the laws of pairs.
use mathlib.Core.Path.{◌≡◌, sym, ◌∙◌, subst}
use mathlib.Core.List.{List}
use mathlib.Core.Option.{none, some}
use mathlib.Core.Logic.{◌⊎◌, inl, inr}
use mathlib.Core.Bool.{true, false, ◌&&◌, true≢false}
use Prim.Native.Nat.{ℕ, ◌-◌, ◌<◌}
use native.Mathlib.Omega.{arith}
use lib.ListN.{length, get_or}
use Rattle.laws.specs.Lists.{any_pair, All}
use Rattle.laws.proofs.Flags.{split-and, both-and, not-true}
use Rattle.laws.proofs.Lists.{any_some, some-any}
use Rattle.laws.proofs.Passing.{index-first, index-none, Found, first_found}
use Rattle.laws.proofs.Pairs.{at_pair, pair-at}
use Rattle.laws.proofs.Numbers.{any-from, from-any, FirstBelow, first-cases}
use Rattle.grid.proofs.Cut.{holds-in, in-holds}
use Rattle.definition.specs.Rule.{Rule, no_rule}
use Rattle.definition.specs.Point.{dimensions}
use Rattle.definition.specs.Overlap.{has, share, overlaps, first_overlap}
use Rattle.promises.specs.Conditions.{Shares, FirstTwice, AllOnce}

-- ## A rule
overlaps-shares : (r : Rule) → overlaps r ≡ true → Shares r
unfolding overlaps share
overlaps-shares r h =
    let d = any_some (λ d. any_pair (share d.bounds) (d.items r)) dimensions h in
    let b = d.0.bounds in
    let p = pair-at (share b) (0, 0) (d.0.items r) d.2 in
    let one = get_or (d.0.items r) p.0 (0, 0) in
    let other = get_or (d.0.items r) p.1 (0, 0) in
    let v = any-from (λ x. has b one x && has b other x) b.0 (b.1 - b.0) p.2.2 in
    let both = split-and (has b one v.0) (has b other v.0) v.3 in
    record {
      dimension = d.0;
      one-of-four = d.1;
      first = p.0;
      second = p.1;
      value = v.0;
      in_order = p.2.0;
      there = p.2.1;
      lawful = in-holds v.0 b v.1 (omega (arith, v.1, v.2));
      first-has = both.0;
      second-has = both.1;
    }

shares-overlaps : (r : Rule) → Shares r → overlaps r ≡ true
unfolding overlaps share
shares-overlaps r s =
    let d = s.dimension in
    let b = d.bounds in
    let one = get_or (d.items r) s.first (0, 0) in
    let other = get_or (d.items r) s.second (0, 0) in
    let inside = holds-in s.value b s.lawful in
    let shared = from-any (λ x. has b one x && has b other x) b.0 (b.1 - b.0) s.value inside.0 (omega (arith, inside.1))
    (both-and (has b one s.value) (has b other s.value) s.first-has s.second-has) in
    some-any (λ d. any_pair (share d.bounds) (d.items r)) d dimensions s.one-of-four
    (at_pair (share b) (0, 0) (d.items r) s.first s.second (s.in_order, s.there, shared))

apart-shares : (r : Rule) → overlaps r ≡ false → Shares r → ⊥
apart-shares r h s = true≢false (sym (shares-overlaps r s) ∙ h)

shares-apart : (r : Rule) → (Shares r → ⊥) → overlaps r ≡ false
shares-apart r h = not-true (overlaps r) (λ e. h (overlaps-shares r e))

-- ## The first rule
module _ (ds : List Rule) where
  -- THE DEFINITION'S RULE IS THE FIRST
  pub first-twice : (k : ℕ) → FirstTwice ds k → first_overlap ds ≡ some k
  unfolding first_overlap
  first-twice k h = index-first overlaps no_rule ds k h.0 (shares-overlaps (get_or ds k no_rule) h.1) (λ j l. shares-apart (get_or ds j no_rule) (h.2 j l))

  pub none-twice : AllOnce ds → first_overlap ds ≡ none
  unfolding first_overlap
  none-twice h = index-none overlaps no_rule ds (λ j l. shares-apart (get_or ds j no_rule) (h j l))

  -- no rule overlaps
  pub all_apart : AllOnce ds → All (λ r. overlaps r ≡ false) ds
  unfolding first_overlap
  all_apart h = subst (Found overlaps ds) (none-twice h) (first_found overlaps ds)

  -- a first one, or none
  pub twice-cases : ((k : ℕ) × FirstTwice ds k) ⊎ AllOnce ds
  twice-cases = go (first-cases (λ k. overlaps (get_or ds k no_rule)) (length ds))
    where
      go : FirstBelow (λ k. overlaps (get_or ds k no_rule)) (length ds) ⊎ ((j : ℕ) → j < length ds → overlaps (get_or ds j no_rule) ≡ false)
          → ((k : ℕ) × FirstTwice ds k) ⊎ AllOnce ds
      go (inl k) = inl (k.0, (k.1, overlaps-shares (get_or ds k.0 no_rule) k.2, λ j l. apart-shares (get_or ds j no_rule) (k.3 j l)))
      go (inr h) = inr (λ j l. apart-shares (get_or ds j no_rule) (h j l))
