-- `draining::drain` meets its contract.
use mathlib.Core.Path.{refl}
use Prim.Native.Nat.{◌+◌, ◌*◌, ◌≤◌}
use native.Mathlib.Omega.{arith}
use lib.ListN.{length}
use Rattle.field.proofs.Bytes.{known_bytes}
use Rattle.tables.proofs.Ranges.{part_length}
use Rattle.draining.proofs.Tabling.{drain-first, drain-next, drain-halts, drain-ends}
use Rattle.draining.proofs.drain.Goals as goal

pub loop-i-init : goal.loop-i-init
loop-i-init c = drain-first _ _ _ _ _ _ _ _ _ _

pub drain_rule-requires : goal.drain_rule-requires
drain_rule-requires c =
    let loop = c.loop-i in
    let counts : loop.i * 4 + 4 ≤ length loop.range_counts = omega (arith, c.requires.count_in_bounds_2.0) in
    let ranges : loop.i * 256 + 256 ≤ length loop.ranges = omega (arith, c.requires.count_in_bounds_2.1) in
    let room = c.requires.count_in_bounds in
    let begin = c.requires.all_begin loop.i (omega arith) in record {
      readable = begin.0;
      at_bound = (begin.1, omega (arith, room), omega (arith, room), omega (arith, room), omega (arith, room));
      in_bounds = (
        omega (arith, part_length loop.ranges (loop.i * 256) (loop.i * 256 + 256) (omega arith) ranges),
        omega (arith, part_length loop.range_counts (loop.i * 4) (loop.i * 4 + 4) (omega arith) counts),
      );
    }

pub reason_at-requires : goal.reason_at-requires
reason_at-requires c = let begin = c.requires.all_begin c.loop-i.i (omega arith) in record { readable = begin.0; at_bound = begin.1 }

pub returns-then-drain_rule : goal.returns-then-drain_rule
returns-then-drain_rule c =
    let loop = c.loop-i in
    let counts : loop.i * 4 + 4 ≤ length loop.range_counts = omega (arith, c.requires.count_in_bounds_2.0) in
    let ranges : loop.i * 256 + 256 ≤ length loop.ranges = omega (arith, c.requires.count_in_bounds_2.1) in
    let sheet = c.args.sheet.now in
    let bytes = known_bytes sheet (λ j. omega (arith, c.type_inv.sheet j)) in
    let drain = c.drain_rule.ensures in
    drain-halts _ sheet bytes _ _ _ _ _ _ _ _ _ (omega arith) loop.invariant _ _ _ _ drain.1 _ drain.0 counts
    ranges _ _ drain.2 drain.3 c.if-drain_rule.true _ c.reason_at.ensures

pub loop-i-preserved : goal.loop-i-preserved
loop-i-preserved c =
    let loop = c.loop-i in
    let counts : loop.i * 4 + 4 ≤ length loop.range_counts = omega (arith, c.requires.count_in_bounds_2.0) in
    let ranges : loop.i * 256 + 256 ≤ length loop.ranges = omega (arith, c.requires.count_in_bounds_2.1) in
    let sheet = c.args.sheet.now in
    let bytes = known_bytes sheet (λ j. omega (arith, c.type_inv.sheet j)) in
    let room = c.requires.count_in_bounds in
    let i = loop.i in
    let begin = c.requires.all_begin i (omega arith) in
    let drain = c.drain_rule.ensures in
    let kept = c.drain_rule.auto in
    let four = part_length loop.range_counts (i * 4) (i * 4 + 4) (omega arith) counts in
    let whole = part_length loop.ranges (i * 256) (i * 256 + 256) (omega arith) ranges in
    drain-next _ sheet bytes _ _ _ _ _ _ _ _ _ (omega arith) loop.invariant _ _ _ _ drain.1 _ drain.0 counts ranges _ _ drain.2 drain.3
    c.if-drain_rule.false begin.0 begin.1 (omega (arith, room)) (omega (arith, room)) (omega (arith, room))
    (omega (arith, room)) (omega (arith, kept.range_counts, four)) (omega (arith, kept.ranges, whole)) _ refl

pub returns : goal.returns
returns c = drain-ends _ _ _ _ _ _ _ _ _ _ _ (omega arith) c.loop-i.invariant
