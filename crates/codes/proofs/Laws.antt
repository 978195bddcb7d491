-- The code's tests on numbers are the definition's: when a span is simple, when it can't overlap with the next day, and a state's class.
use mathlib.Core.Path.{◌≡◌, refl, sym, ap₂, ◌∙◌}
use mathlib.Core.Bool.{Bool, true, false, ◌&&◌, not, cond}
use Prim.Native.Nat.{ℕ, ◌/◌, ◌%◌, ◌≤◌, ◌<◌}
use native.Mathlib.Omega.{arith}
use lib.Dec.{eqb, leb, ltb}
use borrow.Author.Tests.{ltb-true, ltb-false, leb-true, lt-ltb, le-ltb, eqb-true, eqb-false, eq-eqb, ne_eqb}
use Rattle.laws.proofs.Flags.{not-true, split-and, and-false}
use Rattle.definition.specs.Day.{simple, no_repeats, fixed_within_day, state_class}
use Rattle.definition.specs.Stop.{stays_today, span_stops}
use Rattle.codes.specs.Number.{state_coded, closed_number, time_at, repeats_at, span_at}

-- ## Spans
too-late : (b : ℕ) → 262144 ≤ b → leb b 1440 ≡ false
too-late b h = not-true (leb b 1440) (λ k. omega (arith, leb-true b 1440 k))

within-numbers : (a b : ℕ) → fixed_within_day (time_at a) (time_at b) ≡ ltb a b && leb b 1440
unfolding time_at
within-numbers a b = go (ltb a 262144) refl (ltb b 262144) refl
  where
    go : (s : Bool) → ltb a 262144 ≡ s → (t : Bool) → ltb b 262144 ≡ t → fixed_within_day (time_at a) (time_at b) ≡ ltb a b && leb b 1440
    go true p true q = rw (p, q)
    go true p false q = rw (p, q, lt-ltb a b (omega (arith, ltb-true a 262144 p, ltb-false b 262144 q))) (sym (too-late b (ltb-false b 262144 q)))
    go false p true q = rw (p, le-ltb a b (omega (arith, ltb-false a 262144 p, ltb-true b 262144 q)))
    go false p false q = rw (p, too-late b (ltb-false b 262144 q)) (sym (and-false (ltb a b)))

-- neither `open_end` nor repeats
plain-number : (n : ℕ) → not (eqb (n / 8192 % 2) 1) && no_repeats (repeats_at (n % 8192)) ≡ eqb (n % 16384) 0
unfolding repeats_at
plain-number n = go (eqb (n / 8192 % 2) 1) refl (eqb (n % 8192) 0) refl
  where
    go : (s : Bool) → eqb (n / 8192 % 2) 1 ≡ s → (t : Bool) → eqb (n % 8192) 0 ≡ t
        → not (eqb (n / 8192 % 2) 1) && no_repeats (repeats_at (n % 8192)) ≡ eqb (n % 16384) 0
    go true p t q = let e = eqb-true (n / 8192 % 2) 1 p in rw (p, ne_eqb (n % 16384) 0 (omega arith))
    go false p true q = let e = eqb-false (n / 8192 % 2) 1 p in let f = eqb-true (n % 8192) 0 q in rw (p, q, eq-eqb (n % 16384) 0 (omega arith))
    go false p false q = let f = eqb-false (n % 8192) 0 q in rw (p, q, ne_eqb (n % 16384) 0 (omega arith))

pub simple-number : (n : ℕ) → simple (span_at n) ≡ ltb (n / 8589934592) (n / 16384 % 524288) && leb (n / 16384 % 524288) 1440 && eqb (n % 16384) 0
unfolding simple span_at
simple-number n = ap₂ ◌&&◌ (within-numbers (n / 8589934592) (n / 16384 % 524288)) (plain-number n)

stays-numbers : (a b : ℕ) → stays_today (time_at a) (time_at b) ≡ cond (ltb a 262144) (ltb a b && leb b 1440) (eqb b 1440)
unfolding time_at
stays-numbers a b = go (ltb a 262144) refl (ltb b 262144) refl
  where
    go : (s : Bool) → ltb a 262144 ≡ s → (t : Bool) → ltb b 262144 ≡ t
        → stays_today (time_at a) (time_at b) ≡ cond (ltb a 262144) (ltb a b && leb b 1440) (eqb b 1440)
    go true p true q = rw (p, q)
    go true p false q = rw (p, q, lt-ltb a b (omega (arith, ltb-true a 262144 p, ltb-false b 262144 q))) (sym (too-late b (ltb-false b 262144 q)))
    go false p true q = rw (p, q)
    go false p false q = rw (p, q) (sym (ne_eqb b 1440 (omega (arith, ltb-false b 262144 q))))

pub today-number : (n : ℕ) → not (span_stops (span_at n))
    ≡ cond (ltb (n / 8589934592) 262144) (ltb (n / 8589934592) (n / 16384 % 524288) && leb (n / 16384 % 524288) 1440) (eqb (n / 16384 % 524288) 1440)
unfolding span_at
today-number n = not-not (stays_today (time_at (n / 8589934592)) (time_at (n / 16384 % 524288))) ∙ stays-numbers (n / 8589934592) (n / 16384 % 524288)
  where
    not-not : (v : Bool) → not (not v) ≡ v
    not-not true = refl
    not-not false = refl

-- a simple span lies within the day, by its number
pub simple-bounds : (n : ℕ) → simple (span_at n) ≡ true
    → (n / 8589934592 < n / 16384 % 524288) × (n / 16384 % 524288 ≤ 1440) × (n % 16384 ≡ 0)
simple-bounds n h =
    let k : ltb (n / 8589934592) (n / 16384 % 524288) && leb (n / 16384 % 524288) 1440 && eqb (n % 16384) 0 ≡ true = sym (simple-number n) ∙ h in
    let a = split-and (ltb (n / 8589934592) (n / 16384 % 524288) && leb (n / 16384 % 524288) 1440) (eqb (n % 16384) 0) k in
    let b = split-and (ltb (n / 8589934592) (n / 16384 % 524288)) (leb (n / 16384 % 524288) 1440) a.0 in
    (ltb-true (n / 8589934592) (n / 16384 % 524288) b.0, leb-true (n / 16384 % 524288) 1440 b.1, eqb-true (n % 16384) 0 a.1)

-- ## States
-- commented states
pub open-class : (n : ℕ) → 3 ≤ n → n % 3 ≡ 0 → 2 ≡ state_class (state_coded n)
unfolding state_coded
open-class n h k = rw (k, ne_eqb (n / 3) 0 (omega arith))

pub closed-class : (n : ℕ) → 3 ≤ n → n % 3 ≡ 1 → 5 ≡ state_class (state_coded n)
unfolding state_coded
closed-class n h k = rw (k, ne_eqb (n / 3) 0 (omega arith))

pub unknown-class : (n : ℕ) → 3 ≤ n → n % 3 ≡ 2 → 4 ≡ state_class (state_coded n)
unfolding state_coded
unknown-class n h k = rw (k, ne_eqb (n / 3) 0 (omega arith))

-- plain states
pub plain-open : (n : ℕ) → n ≡ 0 → 1 ≡ state_class (state_coded n)
unfolding state_coded
plain-open n e = rw e

pub plain_closed : (n : ℕ) → n ≡ closed_number → 0 ≡ state_class (state_coded n)
unfolding state_coded
plain_closed n e = rw e

pub plain-unknown : (n : ℕ) → n ≡ 2 → 3 ≡ state_class (state_coded n)
unfolding state_coded
plain-unknown n e = rw e
