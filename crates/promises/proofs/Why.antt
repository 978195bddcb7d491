-- WHY THE FOLD STOPPED: the seventh number and the first stopper tell each other. Rests on the counts of an accepted fold and on the laws of reasons.
use mathlib.Core.Path.{◌≡◌, refl, sym, ap, ap₂, ◌∙◌}
use mathlib.Core.List.{List, [], ◌∷◌, ◌++◌, map}
use mathlib.Core.Logic.{inl, inr}
use mathlib.Core.Bool.{Bool, true, false, not, true≢false, false≢true}
use Prim.Native.Nat.{ℕ, suc, ◌≤◌, ◌<◌}
use native.Mathlib.Omega.{arith}
use native.Mathlib.Nat.{lt_of_not-le, le_of_suc-le-suc}
use lib.Dec.{eqb}
use lib.ListN.{length, drop}
use Rattle.laws.specs.Lists.{All, Mem}
use Rattle.definition.specs.Rule.{Rule}
use Rattle.definition.specs.Sheet.{Form, Limits, encode}
use Rattle.definition.specs.Stop.{stops, first_that_applies, reasons, reason, drained, left, why}
use Rattle.definition.specs.Group.{folded}
use Rattle.definition.proofs.Drained.{left_behind}
use Rattle.definition.proofs.Why.{stops-reason, why-none}
use Rattle.promises.specs.Why.{FirstReason, FirstStopper, until_reason, WhyTold, WhyNothing, AsBefore}
use Rattle.promises.proofs.Counts.{counted-rules}

-- ## A table of tests that are numbered from n on
numbered : ℕ → List Bool → List (ℕ × Bool)
numbered n [] = []
numbered n (b ∷ bs) = (n, b) ∷ numbered (suc n) bs

numbers-low : (bs : List Bool) (n j : ℕ) (b : Bool) → Mem (j, b) (numbered n bs) → n ≤ j
unfolding numbered Mem
numbers-low [] n j b m = absurd m
numbers-low (a ∷ bs) n j b (inl e) = let z : j ≡ n = ap (λ x. x.0) e in omega arith
numbers-low (a ∷ bs) n j b (inr m) = omega (arith, numbers-low bs (suc n) j b m)

-- where one applies, a number is given
some-given : (bs : List Bool) (n k : ℕ) → 0 < n → Mem (k, true) (numbered n bs) → first_that_applies (numbered n bs) ≡ 0 → ⊥
unfolding numbered Mem first_that_applies
some-given [] n k p m e = m
some-given (true ∷ bs) n k p m e = omega (arith, e)
some-given (false ∷ bs) n k p (inl z) e = true≢false (ap (λ x. x.1) z)
some-given (false ∷ bs) n k p (inr m) e = some-given bs (suc n) k (omega arith) m e

-- the number given applies, and none before it does
given-first : (bs : List Bool) (n k : ℕ) → first_that_applies (numbered n bs) ≡ k → (k ≡ 0 → ⊥)
    → Mem (k, true) (numbered n bs) × ((j : ℕ) → j < k → Mem (j, true) (numbered n bs) → ⊥)
unfolding numbered Mem first_that_applies
given-first [] n k e f = absurd (f (sym e))
given-first (true ∷ bs) n k e f = (inl (ap (λ i. (i, true)) (sym e)), λ j l m. absurd (omega (arith, e, numbers-low (true ∷ bs) n j true m)))
given-first (false ∷ bs) n k e f = let h = given-first bs (suc n) k e f in (inr h.0, λ j l m. later j l m h.1)
  where
    later : (j : ℕ) → j < k → Mem (j, true) (numbered n (false ∷ bs)) → ((j : ℕ) → j < k → Mem (j, true) (numbered (suc n) bs) → ⊥) → ⊥
    later j l (inl z) h = true≢false (ap (λ x. x.1) z)
    later j l (inr m) h = h j l m

not-less : {a b : ℕ} → (a < b → ⊥) → b ≤ a
not-less h = le_of_suc-le-suc (lt_of_not-le h)

-- ## The reason of a rule
module _ (r : Rule) where
  -- its tests are numbered from 1 on
  abbrev tests : List Bool
  tests = map (λ x. x.1) (reasons r)

  reason-first : (k : ℕ) → reason r ≡ k → (k ≡ 0 → ⊥) → FirstReason r k
  unfolding reason numbered
  reason-first k e f = given-first tests 1 k e f

  first-reason : (k : ℕ) → FirstReason r k → reason r ≡ k
  unfolding reason numbered
  first-reason k h =
      let first = reason-first (reason r) refl (some-given tests 1 k (omega arith) h.0) in
      omega (arith, not-less (λ (l : reason r < k). h.1 (reason r) l first.0), not-less (λ (l : k < reason r). first.1 k l h.0))

stopper-reason : (r : Rule) → stops r ≡ true → reason r ≡ 0 → ⊥
stopper-reason r s e = false≢true (ap (λ n. not (eqb n 0)) (sym e) ∙ sym (stops-reason r) ∙ s)

-- ## The first stopper is the first rule left
left-first : (rs : List Rule) (r : Rule) (after : List Rule) → left rs ≡ r ∷ after → FirstStopper rs r
unfolding left
left-first [] r after e = absurd (omega (arith, ap length e))
left-first (q ∷ rs) r after e = go (stops q) refl (left-first rs r after)
  where
    go : (b : Bool) → stops q ≡ b → (left rs ≡ r ∷ after → FirstStopper rs r) → FirstStopper (q ∷ rs) r
    go true s ih =
        let f : q ∷ rs ≡ r ∷ after = rw (s, left) at e in
        let same : q ≡ r = cc in
        record { before = []; after = after; stands = f; pass = tt; halts = ap stops (sym same) ∙ s }
    go false s ih =
        let f : left rs ≡ r ∷ after = rw (s, left) at e in
        let w = ih f in
        record { before = q ∷ w.before; after = w.after; stands = ap (q ∷◌) w.stands; pass = (s, w.pass); halts = w.halts }

first-left : (before : List Rule) (r : Rule) (after : List Rule) → All (λ q. stops q ≡ false) before → stops r ≡ true → left (before ++ r ∷ after) ≡ r ∷ after
unfolding left
first-left [] r after p s = rw (s, left) refl
first-left (q ∷ before) r after p s = rw (p.0, left) (first-left before r after p.1 s)

why-of : (rs : List Rule) (r : Rule) (after : List Rule) → left rs ≡ r ∷ after → why rs ≡ reason r
unfolding why
why-of rs r after e = rw (e, why) refl

-- ## Draining by reasons
until-drained : (rs : List Rule) → until_reason rs ≡ drained rs
unfolding until_reason drained
until-drained [] = refl
until-drained (r ∷ rs) = go (eqb (reason r) 0) refl (until-drained rs)
  where
    go : (b : Bool) → eqb (reason r) 0 ≡ b → until_reason rs ≡ drained rs → until_reason (r ∷ rs) ≡ drained (r ∷ rs)
    go true e ih = rw (e, stops-reason r ∙ ap not e, until_reason, drained) (ap (r ∷◌) ih)
    go false e ih = rw (e, stops-reason r ∙ ap not e, until_reason, drained) refl

-- ## What was left, and why
module _ (rs : List Rule) where
  told_none : length (left rs) ≡ 0 → why rs ≡ 0
  told_none h = why-none rs (omega (arith, h, (left_behind rs).1))

  first-told : (k : ℕ) → (k ≡ 0 → ⊥) → (qs : List Rule) → left rs ≡ qs → why rs ≡ k → (r : Rule) × FirstStopper rs r × FirstReason r k
  first-told k f [] l h = absurd (f (sym h ∙ told_none (ap length l)))
  first-told k f (r ∷ after) l h = (r, left-first rs r after l, reason-first r k (sym (why-of rs r after l) ∙ h) f)

  told-first : (k : ℕ) (r : Rule) → FirstStopper rs r → FirstReason r k → why rs ≡ k
  told-first k r w h = why-of rs r w.after (ap left w.stands ∙ first-left w.before r w.after w.pass w.halts) ∙ first-reason r k h

  none_told : (qs : List Rule) → left rs ≡ qs → why rs ≡ 0 → length (left rs) ≡ 0
  none_told [] l h = ap length l
  none_told (r ∷ after) l h = absurd (stopper-reason r (left-first rs r after l).halts (sym (why-of rs r after l) ∙ h))

module _ (form : Form) (limits : Limits) (room : ℕ) (sheet : List ℕ) where
  -- THE NUMBER, both ways
  pub why-told : WhyTold form limits room sheet
  why-told e rs a k f =
      let told = counted-rules form limits room sheet e rs a in
      record { only = λ h. first-told rs k f (left rs) refl (sym told.why-told ∙ h); always = λ h. told.why-told ∙ told-first rs k h.0 h.1 h.2 }

  -- NOTHING LEFT, NO REASON
  pub why-nothing : WhyNothing form limits room sheet
  why-nothing e rs a =
      let told = counted-rules form limits room sheet e rs a in
      record {
        only = λ h. told.left-counted ∙ none_told rs (left rs) refl (sym told.why-told ∙ h);
        always = λ h. told.why-told ∙ told_none rs (sym told.left-counted ∙ h);
      }

  -- DRAINED RULES AND BYTES AS BEFORE
  pub as_before : AsBefore form limits room sheet
  as_before e rs a =
      let told = counted-rules form limits room sheet e rs a in
      let same = sym (until-drained rs) in (
        told.drained-counted ∙ ap length same,
        told.written ∙ ap₂ (λ ds ls. encode form limits (folded ds ++ ls)) same (sym (left_behind rs).0 ∙ ap (λ ds. drop (length ds) rs) same),
      )
