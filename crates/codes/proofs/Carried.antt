-- What a sheet carries of a rule's spans; and every span that it can carry has a number of its own. Rests on the layouts' tests.
use mathlib.Core.Path.{◌≡◌}
use mathlib.Core.Option.{Option, none, some}
use mathlib.Core.Bool.{true, ◌&&◌}
use Prim.Native.Nat.{ℕ, ◌<◌, ◌^◌}
use native.Mathlib.Omega.{arith}
use lib.Dec.{leb, ltb}
use borrow.Author.Tests.{ltb-true}
use Rattle.laws.proofs.Flags.{split-and}
use Rattle.definition.specs.Field.{field, ◌then◌, via, tagged}
use Rattle.definition.specs.Rule.{Time, fixed, variable, Span, repeats_key}
use Rattle.definition.specs.Sheet.{time_of, time, repeats_of, repeats_layout, span, flag_bit}
use Rattle.codes.specs.Number.{time_number, NumberedTime, Numbered}
use Rattle.codes.specs.Carried.{CarriedTime, CarriedSpan}

pub time-carried : (t : Time) → time.fits t ≡ true → CarriedTime t
unfolding time tagged time_of via ◌then◌ field
time-carried (fixed m) f = ltb-true m 4096 (split-and (ltb m 4096) (leb m 2880) (split-and true (ltb m 4096 && leb m 2880) f).1).0
time-carried (variable e o) f =
    let k = split-and (ltb e 4 && true) (ltb o 65536 && true) (split-and true (ltb e 4 && true && (ltb o 65536 && true)) f).1 in
    (ltb-true e 4 (split-and (ltb e 4) true k.0).0, ltb-true o 65536 (split-and (ltb o 65536) true k.1).0)

pub time-below : (t : Time) → CarriedTime t → time_number t < 524288
unfolding time_number
time-below (fixed m) h = omega arith
time-below (variable e o) h = omega arith

time-numbered : (t : Time) → CarriedTime t → NumberedTime t
time-numbered (fixed m) h = omega arith
time-numbered (variable e o) h = h.1

repeats-few : (r : Option ℕ) → repeats_layout.fits r ≡ true → repeats_key r < 8192
unfolding repeats_layout tagged repeats_of via field
repeats-few none f = omega arith
repeats-few (some n) f = let l = ltb-true n 4096 (split-and (ltb n 4096) true (split-and true (ltb n 4096 && true) f).1).0 in omega (arith, l)

pub span-carried : (x : Span) → span.fits x ≡ true → CarriedSpan x
unfolding span via ◌then◌ field
span-carried x f =
    let flag = ltb (flag_bit x.open_end) (2 ^ 1) && true in
    let a = split-and (time.fits x.start) (time.fits x.end && (flag && repeats_layout.fits x.repeats)) f in
    let b = split-and (time.fits x.end) (flag && repeats_layout.fits x.repeats) a.1 in
    record {
      starts = time-carried x.start a.0;
      ends = time-carried x.end b.0;
      few = repeats-few x.repeats (split-and flag (repeats_layout.fits x.repeats) b.1).1;
    }

pub span-numbered : (x : Span) → CarriedSpan x → Numbered x
span-numbered x h = record {
  starts = time-numbered x.start h.starts;
  ends = time-numbered x.end h.ends;
  early = time-below x.end h.ends;
  few = h.few;
}
