-- States and spans as numbers. 01, "Part taken": "spans ordered by start, end, `open_end` (false first), repeats (none first, then by minutes);
-- fixed times before variable ones; variable times by event, then offset". The number of a span has these parts as digits, the first one
-- highest, so the order of the numbers is that of the spans. A time has 19 bits: fixed, its minutes; variable, a high bit, the event and the
-- offset by size. A span has 52: start, end, `open_end`, and 0 for no repeats or else one more than their minutes. Every number stands for some
-- span and for some state, so no function over them requires a lawful one.
use Rattle.std.proofs.Math.Option.{Option, none, some}
use Rattle.std.specs.Prelude.{cond, ℕ, ◌+◌, ◌*◌, ◌-◌, ◌/◌, ◌%◌, ◌<◌, eqb, ltb}
use Rattle.definition.specs.Rule.{Kind, kind_number, kind_of, State, Time, fixed, variable, Span, by_size, repeats_key}

-- ## States
-- the kind is the lowest digit and the comment all above it, so that every state has a number of its own, however many comments there are;
-- plain Open, Closed and Unknown are 0, 1 and 2
unfoldable pub state_number : State → ℕ
state_number S = S.comment * 3 + kind_number S.kind

abbrev pub state_of : Kind → ℕ → State
state_of k c = record { kind = k; comment = c }

unfoldable pub state_coded : ℕ → State
state_coded n = state_of (kind_of (n % 3)) (n / 3)

-- plain Closed
abbrev pub closed_number : ℕ
closed_number = 1

-- ## Times
unfoldable pub time_number : Time → ℕ
time_number (fixed m) = m
time_number (variable e o) = 262144 + e * 65536 + by_size o

unfoldable pub time_at : ℕ → Time
time_at n = cond (ltb n 262144) (fixed n) (variable ((n - 262144) / 65536) (by_size (n % 65536)))

abbrev pub NumberedTime : Time → Type 0
NumberedTime (fixed m) = m < 262144
NumberedTime (variable e o) = o < 65536

-- ## Spans
-- the number of a span's four parts, as digits
unfoldable pub parts_number : ℕ → ℕ → ℕ → ℕ → ℕ
parts_number start end open_end repeats = ((start * 524288 + end) * 2 + open_end) * 8192 + repeats

unfoldable pub span_number : Span → ℕ
span_number s = parts_number (time_number s.start) (time_number s.end) (cond s.open_end 1 0) (repeats_key s.repeats)

unfoldable pub repeats_at : ℕ → Option ℕ
repeats_at k = cond (eqb k 0) none (some (k - 1))

unfoldable pub span_at : ℕ → Span
span_at n = record {
  start = time_at (n / 8589934592);
  end = time_at (n / 16384 % 524288);
  open_end = eqb (n / 8192 % 2) 1;
  repeats = repeats_at (n % 8192);
}

-- the spans that have a number of their own: every one that a sheet can carry
pub record Numbered (s : Span) : Type 0 where
  pub starts : NumberedTime s.start
  pub ends : NumberedTime s.end
  pub early : time_number s.end < 524288
  pub few : repeats_key s.repeats < 8192
