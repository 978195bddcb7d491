-- `draining::span::load_spans` meets its contract.
use mathlib.Core.Path.{◌≡◌, sym, ap₂, subst}
use Prim.Native.Nat.{ℕ, ◌+◌, ◌-◌, ◌≤◌}
use native.Mathlib.Omega.{arith}
use Rattle.definition.specs.Field.{sheet_bits}
use Rattle.draining.proofs.SpanReturns.{SpansOwed, number_short, spans-none, spans-refused, spans-halt, spans-go}
use Rattle.draining.proofs.span.load_spans.Goals as goal

pub loop-i-init : goal.loop-i-init
loop-i-init c =
    let a = c.args in
    let same : ◌≡◌ {A = ℕ × ℕ} (a.place + 0, a.count - 0) (a.place, a.count) = ap₂ (λ x y. (x, y)) (omega arith) (omega arith) in record {
      near = omega arith;
      owed = λ r after o. subst (λ v. SpansOwed (sheet_bits a.sheet.now) a.at r after v.0 a.spans.now v.1) same o;
    }

pub number_at-requires : goal.number_at-requires
number_at-requires c = omega (arith, c.loop-i.invariant.near, c.requires.0)

pub returns-in_default : goal.returns-in_default
returns-in_default c = c.loop-i.invariant.owed _ _ (spans-refused _ _ _ _ _ (λ z. omega arith) (sym c.in_default.ensures))

pub returns-then-not-no_overlap_with_next_day : goal.returns-then-not-no_overlap_with_next_day
returns-then-not-no_overlap_with_next_day c =
    c.loop-i.invariant.owed _ _
    (spans-halt _ _ _ _ _ _ _ _ (λ z. omega arith) (sym c.in-Some.ensures) c.no_overlap_with_next_day.ensures c.if-not-no_overlap_with_next_day.true)

pub loop-i-preserved : goal.loop-i-preserved
loop-i-preserved c =
    let old = c.loop-i in
    let number = sym c.in-Some.ensures in
    let short : c.in-Some.next ≤ old.from + 52 = number_short _ _ _ _ number in record {
      near = omega (arith, short, old.invariant.near);
      owed = λ r after o. old.invariant.owed r after
          (spans-go _ _ _ _ _ _ _ _ _ _ _ _ (omega arith) number c.no_overlap_with_next_day.ensures c.if-not-no_overlap_with_next_day.false (omega arith) o);
    }

pub returns : goal.returns
returns c = c.loop-i.invariant.owed _ _ (spans-none _ _ _ _ _ (omega arith))
