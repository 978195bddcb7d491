-- Numbers and spans, numbers and states, one to one; and the order of the numbers is 01's order of spans.
use mathlib.Core.Path.{◌≡◌, refl, sym, ap, ap₂, ◌∙◌}
use mathlib.Core.Option.{Option, none, some}
use mathlib.Core.List.{List, [], ◌∷◌, ◌++◌, append_assoc}
use mathlib.Core.Bool.{Bool, true, false, ◌&&◌, ◌||◌, cond}
use Prim.Native.Nat.{ℕ, suc, ◌+◌, ◌*◌, ◌-◌, ◌/◌, ◌%◌, ◌<◌}
use native.Mathlib.Omega.{arith}
use lib.Dec.{eqb, leb, ltb}
use borrow.Author.Tests.{ltb-true, ltb-false, lt-ltb, le-ltb, eqb-true, eqb-false, eq-eqb, ne_eqb}
use Rattle.laws.proofs.Flags.{same_flag_lem, bit-flag}
use Rattle.definition.specs.Rule.{Kind, Open, Closed, Unknown, kind_number, kind_of, State, same_state, Time, fixed, variable, Span, by_size, time_key, repeats_key, span_key, not_above}
use Rattle.definition.proofs.Same.{exact-state}
use Rattle.codes.specs.Number.{state_number, state_coded, time_number, time_at, NumberedTime, parts_number, span_number, repeats_at, span_at, Numbered}
use Rattle.codes.proofs.Digits.{digit-step, not-above}

-- ## States
kind-below : (k : Kind) → kind_number k < 3
kind-below Open = omega arith
kind-below Closed = omega arith
kind-below Unknown = omega arith

kind-back : (k : Kind) → kind_of (kind_number k) ≡ k
kind-back Open = refl
kind-back Closed = refl
kind-back Unknown = refl

-- the kind is the lowest digit
pub kind-number : (n : ℕ) → kind_number (state_coded n).kind ≡ n % 3
unfolding state_coded
kind-number n = go (eqb (n % 3) 0) refl (eqb (n % 3) 1) refl
  where
    go : (s : Bool) → eqb (n % 3) 0 ≡ s → (t : Bool) → eqb (n % 3) 1 ≡ t → kind_number (state_coded n).kind ≡ n % 3
    go true p t q = rw p (sym (eqb-true (n % 3) 0 p))
    go false p true q = rw (p, q) (sym (eqb-true (n % 3) 1 q))
    go false p false q = rw (p, q) (omega (arith, eqb-false (n % 3) 0 p, eqb-false (n % 3) 1 q))

pub state-number : (n : ℕ) → state_number (state_coded n) ≡ n
unfolding state_number state_coded
state-number n = omega (arith, kind-number n)

pub number-state : (S : State) → state_coded (state_number S) ≡ S
unfolding state_number state_coded
number-state S =
    let below = kind-below S.kind in
    let kind : (S.comment * 3 + kind_number S.kind) % 3 ≡ kind_number S.kind = omega arith in
    let comment : (S.comment * 3 + kind_number S.kind) / 3 ≡ S.comment = omega arith in
    λ i. record { kind = (ap kind_of kind ∙ kind-back S.kind) i; comment = comment i }

-- equal numbers, equal states
pub same-states : (m n : ℕ) → same_state (state_coded m) (state_coded n) ≡ eqb m n
same-states m n = same_flag_lem _ _
    (λ h. eq-eqb m n (sym (state-number m) ∙ ap state_number (exact-state.equal (state_coded m) (state_coded n) h) ∙ state-number n))
    (λ h. rw (eqb-true m n h) (exact-state.self (state_coded n)))

-- ## Times

pub time-number : (n : ℕ) → time_number (time_at n) ≡ n
unfolding time_number time_at
time-number n = go (ltb n 262144) refl
  where
    go : (s : Bool) → ltb n 262144 ≡ s → time_number (time_at n) ≡ n
    go true p = rw p
    go false p = rw p (omega (arith, ltb-false n 262144 p))

pub number-time : (t : Time) → NumberedTime t → time_at (time_number t) ≡ t
unfolding time_number time_at
number-time (fixed m) h = rw (lt-ltb m 262144 h)
number-time (variable e o) h =
    let a : (262144 + e * 65536 + by_size o - 262144) / 65536 ≡ e = omega arith in
    let b : by_size ((262144 + e * 65536 + by_size o) % 65536) ≡ o = omega arith in
    rw (le-ltb (262144 + e * 65536 + by_size o) 262144 (omega arith)) (ap₂ variable a b)

numbered-time : (n : ℕ) → NumberedTime (time_at n)
unfolding time_at
numbered-time n = go (ltb n 262144) refl
  where
    go : (s : Bool) → ltb n 262144 ≡ s → NumberedTime (time_at n)
    go true p = rw p (ltb-true n 262144 p)
    go false p = rw p (omega arith)

-- a time before the rest of a key counts by its number
time-key : (t u : Time) → NumberedTime t → NumberedTime u → (ks ls : List ℕ)
    → not_above (time_key t ++ ks) (time_key u ++ ls) ≡ ltb (time_number t) (time_number u) || (eqb (time_number t) (time_number u) && not_above ks ls)
unfolding time_number not_above
time-key (fixed m) (fixed n) h k ks ls = refl
time-key (fixed m) (variable e o) h k ks ls = rw (lt-ltb m (262144 + e * 65536 + by_size o) (omega arith))
time-key (variable e o) (fixed n) h k ks ls =
    rw (le-ltb (262144 + e * 65536 + by_size o) n (omega arith), ne_eqb (262144 + e * 65536 + by_size o) n (omega arith))
time-key (variable e o) (variable f p) h k ks ls =
    sym (ap₂ (λ a b. a || (b && not_above ks ls)) less same ∙ digit-step 65536 e f (by_size o) (by_size p) (not_above ks ls) (omega arith) (omega arith))
  where
    less : ltb (262144 + e * 65536 + by_size o) (262144 + f * 65536 + by_size p) ≡ ltb (e * 65536 + by_size o) (f * 65536 + by_size p)
    less = same_flag_lem _ _
        (λ h.
        let m = ltb-true (262144 + e * 65536 + by_size o) (262144 + f * 65536 + by_size p) h in
        lt-ltb (e * 65536 + by_size o) (f * 65536 + by_size p) (omega arith))
        (λ h.
        let m = ltb-true (e * 65536 + by_size o) (f * 65536 + by_size p) h in
        lt-ltb (262144 + e * 65536 + by_size o) (262144 + f * 65536 + by_size p) (omega arith))

    same : eqb (262144 + e * 65536 + by_size o) (262144 + f * 65536 + by_size p) ≡ eqb (e * 65536 + by_size o) (f * 65536 + by_size p)
    same = same_flag_lem _ _
        (λ h.
        let m = eqb-true (262144 + e * 65536 + by_size o) (262144 + f * 65536 + by_size p) h in
        eq-eqb (e * 65536 + by_size o) (f * 65536 + by_size p) (omega arith))
        (λ h.
        let m = eqb-true (e * 65536 + by_size o) (f * 65536 + by_size p) h in
        eq-eqb (262144 + e * 65536 + by_size o) (262144 + f * 65536 + by_size p) (omega arith))

-- ## Spans
repeats-number : (k : ℕ) → repeats_key (repeats_at k) ≡ k
unfolding repeats_at
repeats-number k = go (eqb k 0) refl
  where
    go : (b : Bool) → eqb k 0 ≡ b → repeats_key (repeats_at k) ≡ k
    go true p = rw p (sym (eqb-true k 0 p))
    go false p = rw p (omega (arith, eqb-false k 0 p))

number-repeats : (r : Option ℕ) → repeats_at (repeats_key r) ≡ r
unfolding repeats_at
number-repeats none = refl
number-repeats (some n) = rw (ne_eqb (suc n) 0 (omega arith)) (let e : suc n - 1 ≡ n = omega arith in ap some e)

pub flag-number : (n : ℕ) → cond (eqb (n % 2) 1) 1 0 ≡ n % 2
flag-number n = go (eqb (n % 2) 1) refl
  where
    go : (b : Bool) → eqb (n % 2) 1 ≡ b → cond b 1 0 ≡ n % 2
    go true p = sym (eqb-true (n % 2) 1 p)
    go false p = omega (arith, eqb-false (n % 2) 1 p)

flag-below : (v : Bool) → cond v 1 0 < 2
flag-below true = omega arith
flag-below false = omega arith

pub span-number : (n : ℕ) → span_number (span_at n) ≡ n
unfolding span_number span_at parts_number
span-number n =
    rw (time-number (n / 8589934592), time-number (n / 16384 % 524288), flag-number (n / 8192), repeats-number (n % 8192)) (omega arith)

pub numbered-at : (n : ℕ) → Numbered (span_at n)
unfolding span_at
numbered-at n = record {
  starts = numbered-time (n / 8589934592);
  ends = numbered-time (n / 16384 % 524288);
  early = rw (time-number (n / 16384 % 524288)) (omega arith);
  few = rw (repeats-number (n % 8192)) (omega arith);
}

pub number-span : (s : Span) → Numbered s → span_at (span_number s) ≡ s
unfolding span_number span_at parts_number
number-span s h =
    let o = flag-below s.open_end in
    let early : time_number s.end < 524288 = h.early in
    let few : repeats_key s.repeats < 8192 = h.few in
    let n : ℕ = ((time_number s.start * 524288 + time_number s.end) * 2 + cond s.open_end 1 0) * 8192 + repeats_key s.repeats in
    let p : n / 8589934592 ≡ time_number s.start = omega arith in
    let q : n / 16384 % 524288 ≡ time_number s.end = omega arith in
    let f : n / 8192 % 2 ≡ cond s.open_end 1 0 = omega arith in
    let r : n % 8192 ≡ repeats_key s.repeats = omega arith in
    λ i. record {
      start = (ap time_at p ∙ number-time s.start h.starts) i;
      end = (ap time_at q ∙ number-time s.end h.ends) i;
      open_end = (ap (λ v. eqb v 1) f ∙ bit-flag s.open_end) i;
      repeats = (ap repeats_at r ∙ number-repeats s.repeats) i;
    }

-- THE ORDER OF THE NUMBERS IS THAT OF THE SPANS
pub span-order : (s t : Span) → Numbered s → Numbered t → not_above (span_key s) (span_key t) ≡ leb (span_number s) (span_number t)
unfolding span_number parts_number not_above
span-order s t h k =
    ap₂ not_above (append_assoc (time_key s.start) (time_key s.end) (o ∷ r ∷ [])) (append_assoc (time_key t.start) (time_key t.end) (p ∷ q ∷ []))
    ∙ time-key s.start t.start h.starts k.starts (time_key s.end ++ o ∷ r ∷ []) (time_key t.end ++ p ∷ q ∷ [])
    ∙ ap (λ rest. ltb a c || (eqb a c && rest)) (time-key s.end t.end h.ends k.ends (o ∷ r ∷ []) (p ∷ q ∷ []))
    ∙ sym (not-above ((((a * 524288 + b) * 2 + o) * 8192) + r) ((((c * 524288 + d) * 2 + p) * 8192) + q)
    ∙ digit-step 8192 ((a * 524288 + b) * 2 + o) ((c * 524288 + d) * 2 + p) r q true h.few k.few
    ∙ digit-step 2 (a * 524288 + b) (c * 524288 + d) o p _ (flag-below s.open_end) (flag-below t.open_end)
    ∙ digit-step 524288 a c b d _ h.early k.early)
  where
    a : ℕ
    a = time_number s.start

    b : ℕ
    b = time_number s.end

    o : ℕ
    o = cond s.open_end 1 0

    r : ℕ
    r = repeats_key s.repeats

    c : ℕ
    c = time_number t.start

    d : ℕ
    d = time_number t.end

    p : ℕ
    p = cond t.open_end 1 0

    q : ℕ
    q = repeats_key t.repeats

pub number-order : (m n : ℕ) → not_above (span_key (span_at m)) (span_key (span_at n)) ≡ leb m n
number-order m n = span-order (span_at m) (span_at n) (numbered-at m) (numbered-at n) ∙ ap₂ leb (span-number m) (span-number n)
