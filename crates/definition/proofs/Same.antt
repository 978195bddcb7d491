-- The tests of equality of states, spans and days are exact. Rests on the tests' laws.
use mathlib.Core.Path.{◌≡◌, refl, sym, ap, ap₂, ◌∙◌}
use mathlib.Core.Bool.{true, ◌&&◌, false≢true}
use lib.Dec.{eqb}
use Rattle.laws.specs.Tests.{Exact, same_flag, same_option}
use Rattle.laws.proofs.Flags.{split-and, both-and}
use Rattle.laws.proofs.Tests.{exact-eqb, exact-list, exact-pair, exact-option, exact-flag}
use Rattle.definition.specs.Rule.{Kind, Open, Closed, Unknown, kind_number, kind_of, same_state, Time, fixed, variable, same_time, Span, same_span}
use Rattle.definition.specs.Group.{same_day}

kind-equal : (j k : Kind) → kind_number j ≡ kind_number k → j ≡ k
kind-equal j k e = sym (back j) ∙ ap kind_of e ∙ back k
  where
    back : (l : Kind) → kind_of (kind_number l) ≡ l
    back Open = refl
    back Closed = refl
    back Unknown = refl

pub exact-state : Exact same_state
exact-state = record {
  self = λ s.
      both-and (eqb (kind_number s.kind) (kind_number s.kind)) (eqb s.comment s.comment) (exact-eqb.self (kind_number s.kind))
      (exact-eqb.self s.comment);
  equal = λ s t h. let e = split-and (eqb (kind_number s.kind) (kind_number t.kind)) (eqb s.comment t.comment) h in
      λ i. record { kind = kind-equal s.kind t.kind (exact-eqb.equal _ _ e.0) i; comment = exact-eqb.equal s.comment t.comment e.1 i };
}

exact-time : Exact same_time
unfolding same_time
exact-time = record { self = s; equal = e }
  where
    s : (x : Time) → same_time x x ≡ true
    s (fixed a) = exact-eqb.self a
    s (variable v o) = both-and (eqb v v) (eqb o o) (exact-eqb.self v) (exact-eqb.self o)

    e : (x y : Time) → same_time x y ≡ true → x ≡ y
    e (fixed a) (fixed b) h = ap fixed (exact-eqb.equal a b h)
    e (fixed a) (variable w p) h = absurd (false≢true h)
    e (variable v o) (fixed b) h = absurd (false≢true h)
    e (variable v o) (variable w p) h = let k = split-and (eqb v w) (eqb o p) h in ap₂ variable (exact-eqb.equal v w k.0) (exact-eqb.equal o p k.1)

pub exact-span : Exact same_span
exact-span = record { self = s; equal = e }
  where
    s : (x : Span) → same_span x x ≡ true
    s x = rw (exact-time.self x.start, exact-time.self x.end, exact-flag.self x.open_end) ((exact-option exact-eqb).self x.repeats)

    e : (x y : Span) → same_span x y ≡ true → x ≡ y
    e x y h =
        let last = same_option eqb x.repeats y.repeats in
        let open' = same_flag x.open_end y.open_end in
        let a = split-and (same_time x.start y.start) (same_time x.end y.end && (open' && last)) h in
        let b = split-and (same_time x.end y.end) (open' && last) a.1 in
        let c = split-and open' last b.1 in
        λ i. record {
          start = exact-time.equal x.start y.start a.0 i;
          end = exact-time.equal x.end y.end b.0 i;
          open_end = exact-flag.equal x.open_end y.open_end c.0 i;
          repeats = (exact-option exact-eqb).equal x.repeats y.repeats c.1 i;
        }

pub exact-day : Exact same_day
exact-day = exact-list (exact-pair exact-state (exact-list exact-span))
