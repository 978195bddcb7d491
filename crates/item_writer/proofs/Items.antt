-- The bits of weekdays; the bits of a time, of repeats and of a span, by their numbers; and that the parts of a lawful one fit their fields.
use mathlib.Core.Path.{◌≡◌, sym, ap, ◌∙◌}
use mathlib.Core.List.{◌++◌, append_assoc, append-nil}
use mathlib.Core.Bool.{true, ◌&&◌}
use Prim.Native.Nat.{ℕ, ◌+◌, ◌-◌, ◌*◌, ◌/◌, ◌%◌, ◌^◌, ◌≤◌, ◌<◌}
use native.Mathlib.Omega.{arith}
use lib.Dec.{eqb, leb, ltb}
use borrow.Author.Tests.{ltb-true, lt-ltb, le-ltb, ne_eqb}
use Rattle.laws.proofs.Flags.{split-and}
use Rattle.definition.specs.Field.{bits, field, plain, no_bits, ◌then◌, via, tagged}
use Rattle.definition.specs.Day.{simple}
use Rattle.definition.specs.Rule.{by_size}
use Rattle.definition.specs.Sheet.{weekday_of, week_day_range, time_of, time, repeats_of, flag_bit, repeats_layout, span}
use Rattle.codes.specs.Number.{time_at, repeats_at, span_at}
use Rattle.codes.proofs.Numbers.{flag-number}
use Rattle.codes.proofs.Laws.{simple-bounds}
use Rattle.writer.proofs.Bytes.{bits-joined}
use Rattle.item_writer.specs.Written.{days_from}

-- a number behind a flag that is 0
flagged : (width n : ℕ) → n < 2 ^ width → bits 1 0 ++ bits width n ≡ bits (1 + width) n
flagged width n h =
    let same : 0 * 2 ^ width + n ≡ n = omega arith in
    bits-joined 1 width 0 n (omega arith) h ∙ ap (bits (1 + width)) same

-- ## Weekdays
pub days-bits : (a b : ℕ) → week_day_range.write (days_from a b) ≡ (bits 1 0 ++ (bits 3 a ++ bits 3 b)) ++ (bits 16 0 ++ (bits 5 31 ++ bits 5 31))
unfolding week_day_range weekday_of tagged via ◌then◌ field
days-bits a b =
    let rest = bits 16 0 ++ (bits 5 31 ++ bits 5 31) in
    sym (append_assoc (bits 1 0) (bits 3 a ++ bits 3 b) rest ∙ ap (bits 1 0 ++◌) (append_assoc (bits 3 a) (bits 3 b) rest))

-- in three parts
pub days-joined : (a b : ℕ) → week_day_range.write (days_from a b) ≡ (bits 1 0 ++ (bits 3 a ++ bits 3 b)) ++ (bits 16 0 ++ bits 10 1023)
unfolding bits
days-joined a b = days-bits a b

-- ## Times
module _ (n : ℕ) (early : n < 262144) where
  pub fixed-bits : time.write (time_at n) ≡ bits 1 0 ++ bits 12 n
  unfolding time_at time time_of tagged via field
  fixed-bits = rw (lt-ltb n 262144 early)

  pub fixed-low : time.fits (time_at n) ≡ true → n < 2 ^ 12
  unfolding time_at time time_of tagged via field
  fixed-low h =
      let k : ltb n (2 ^ 12) && leb n 2880 ≡ true = rw (lt-ltb n 262144 early) at h in
      ltb-true n (2 ^ 12) (split-and (ltb n (2 ^ 12)) (leb n 2880) k).0

module _ (n : ℕ) (late : 262144 ≤ n) where
  pub variable-bits : time.write (time_at n) ≡ bits 1 1 ++ (bits 2 ((n - 262144) / 65536) ++ bits 16 (by_size (n % 65536)))
  unfolding time_at time time_of tagged via ◌then◌ field
  variable-bits = rw (le-ltb n 262144 late)

  pub variable-low : time.fits (time_at n) ≡ true → (n - 262144) / 65536 < 2 ^ 2
  unfolding time_at time time_of tagged via ◌then◌ field
  variable-low h =
      let k : (ltb ((n - 262144) / 65536) (2 ^ 2) && true) && (ltb (by_size (n % 65536)) (2 ^ 16) && true) ≡ true = rw (le-ltb n 262144 late) at h in
      ltb-true ((n - 262144) / 65536) (2 ^ 2)
      (split-and (ltb ((n - 262144) / 65536) (2 ^ 2)) true (split-and (ltb ((n - 262144) / 65536) (2 ^ 2) && true) _ k).0).0

-- ## Repeats
pub no-repeats : (n : ℕ) → n ≡ 0 → repeats_layout.write (repeats_at n) ≡ bits 1 0
unfolding repeats_at repeats_layout repeats_of tagged no_bits field
no-repeats n e = rw e (append-nil (bits 1 0))

module _ (n : ℕ) (some : n ≡ 0 → ⊥) where
  pub repeats-bits : repeats_layout.write (repeats_at n) ≡ bits 1 1 ++ bits 12 (n - 1)
  unfolding repeats_at repeats_layout repeats_of tagged via field
  repeats-bits = rw (ne_eqb n 0 some)

  pub repeats-low : repeats_layout.fits (repeats_at n) ≡ true → n - 1 < 2 ^ 12
  unfolding repeats_at repeats_layout repeats_of tagged via field
  repeats-low h =
      let k : ltb (n - 1) (2 ^ 12) && true ≡ true = rw (ne_eqb n 0 some) at h in
      ltb-true (n - 1) (2 ^ 12) (split-and (ltb (n - 1) (2 ^ 12)) true k).0

-- ## Spans
module _ (n s e : ℕ) (starts : s ≡ n / 8589934592) (ends : e ≡ n / 16384 % 524288) where
  pub span-bits : span.write (span_at n)
      ≡ time.write (time_at s) ++ (time.write (time_at e) ++ (bits 1 (n / 8192 % 2) ++ repeats_layout.write (repeats_at (n % 8192))))
  unfolding span_at span via ◌then◌ field
  span-bits = rw (starts, ends, flag-number (n / 8192))

  pub span-parts : span.fits (span_at n) ≡ true
      → (time.fits (time_at s) ≡ true) × (time.fits (time_at e) ≡ true) × (repeats_layout.fits (repeats_at (n % 8192)) ≡ true)
  unfolding span_at span via ◌then◌ field
  span-parts h =
      let first = split-and (time.fits (time_at (n / 8589934592))) _ h in
      let second = split-and (time.fits (time_at (n / 16384 % 524288))) _ first.1 in (
        rw starts first.0,
        rw ends second.0,
        (split-and ((plain 1).fits (flag_bit (eqb (n / 8192 % 2) 1))) (repeats_layout.fits (repeats_at (n % 8192))) second.1).1,
      )

  -- a simple span: two times whose tags are 0, and two flags that are 0
  pub simple-bits : simple (span_at n) ≡ true → span.write (span_at n) ≡ bits 13 s ++ (bits 13 e ++ bits 2 0)
  simple-bits h =
      let within = simple-bounds n h in
      let timed : (t : ℕ) → t ≤ 1440 → time.write (time_at t) ≡ bits 13 t =
      λ t l. fixed-bits t (omega arith) ∙ flagged 12 t (omega arith) in
      let shut : n / 8192 % 2 ≡ 0 = omega (arith, within) in
      span-bits
      ∙ rw (timed s (omega (arith, within, starts, ends)), timed e (omega (arith, within, ends)), shut, no-repeats (n % 8192) (omega (arith, within)), flagged 1 0 (omega arith))
