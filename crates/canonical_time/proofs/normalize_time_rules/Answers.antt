-- `canonical_time::normalize_time_rules` meets its contract.
use Rattle.std.proofs.Common.{sym, arith}
use Rattle.std.proofs.lemmas.List.{length-take, length-take-le}
use Rattle.canonical_time.proofs.FoldReturns.{few-strokes, cuts-bounded, painted-laid, grouped-laid}
use Rattle.canonical_time.proofs.normalize_time_rules.Goals as goal

pub slice_bounds-write_day-end : goal.slice_bounds-write_day-end
slice_bounds-write_day-end c =
    let few = few-strokes _ _ _ _ _ c.write_strokes-k.ensures.1 c.flatten-n.ensures.3 in
    omega (arith, few, c.requires.list_len_bound, c.write_strokes-k.auto.strokes)

pub slice_bounds-write_day-end-2 : goal.slice_bounds-write_day-end-2
slice_bounds-write_day-end-2 c =
    let few = few-strokes _ _ _ _ _ c.write_strokes-k.ensures.1 c.flatten-n.ensures.3 in
    sym (length-take-le c.write_strokes-k.result c.write_strokes-k.new.strokes (omega (arith, few, c.requires.list_len_bound, c.write_strokes-k.auto.strokes)))

pub write_day-m-requires : goal.write_day-m-requires
write_day-m-requires c =
    let room = c.requires.list_len_bound in
    let few = few-strokes _ _ _ _ _ c.write_strokes-k.ensures.1 c.flatten-n.ensures.3 in
    let front = length-take c.write_strokes-k.result c.write_strokes-k.new.strokes in
    (omega (arith, few, room, front), omega (arith, few, room, front), omega (arith, few, room, front))

pub slice_bounds-sweep_classes-end : goal.slice_bounds-sweep_classes-end
slice_bounds-sweep_classes-end c =
    let few = few-strokes _ _ _ _ _ c.write_strokes-k.ensures.1 c.flatten-n.ensures.3 in
    omega (arith, few, c.requires.list_len_bound, c.write_day-m.ensures.1, length-take c.write_strokes-k.result c.write_strokes-k.new.strokes, c.write_day-m.auto.states)

pub slice_bounds-sweep_classes-end-2 : goal.slice_bounds-sweep_classes-end-2
slice_bounds-sweep_classes-end-2 c =
    let few = few-strokes _ _ _ _ _ c.write_strokes-k.ensures.1 c.flatten-n.ensures.3 in
    let front = length-take c.write_strokes-k.result c.write_strokes-k.new.strokes in
    sym (length-take-le c.write_day-m.result c.write_day-m.new.states (omega (arith, few, c.requires.list_len_bound, c.write_day-m.ensures.1, front, c.write_day-m.auto.states)))

pub sweep_classes-at-requires-clause-in_bounds : goal.sweep_classes-at-requires-clause-in_bounds
sweep_classes-at-requires-clause-in_bounds c =
    let room = c.requires.list_len_bound in
    let few = few-strokes _ _ _ _ _ c.write_strokes-k.ensures.1 c.flatten-n.ensures.3 in
    let size = c.write_day-m.ensures.1 in
    let front = length-take c.write_strokes-k.result c.write_strokes-k.new.strokes in
    let cut = length-take c.write_day-m.result c.write_day-m.new.states in (
      omega (arith, few, room, size, front, cut),
      omega (arith, few, room, size, front, cut, c.write_strokes-k.auto.strokes),
      omega (arith, few, room, size, front, cut, c.write_day-m.auto.starts),
    )

pub sweep_classes-at-requires-clause-by_index : goal.sweep_classes-at-requires-clause-by_index
sweep_classes-at-requires-clause-by_index c =
    λ j l. cuts-bounded _ _ _ _ c.write_day-m.ensures.0 j (omega (arith, l, length-take c.write_day-m.result c.write_day-m.new.states))

pub returns-then-k-n : goal.returns-then-k-n
returns-then-k-n c =
    let room = c.requires.list_len_bound in
    painted-laid _ _ _ _ _ _ _ _ _ _ _ _ _ _ _ _ _ _ _ c.flatten-n.ensures c.write_strokes-k.ensures c.write_day-m.ensures
    (c.sweep_classes-at.ensures.0, c.sweep_classes-at.ensures.1) (room.1, room.2, room.3, omega (arith, room.5, c.write_day-m.auto.states)) (omega arith)

pub returns : goal.returns
returns c =
    let room = c.requires.list_len_bound in
    grouped-laid _ _ _ _ _ _ _ _ _ _ _ _ _ _ _ _ _ _ _ c.flatten-n.ensures c.write_strokes-k.ensures c.write_day-m.ensures
    (c.sweep_classes-at.ensures.0, c.sweep_classes-at.ensures.1) (room.1, room.2, room.3, omega (arith, room.5, c.write_day-m.auto.states)) _ _ c.groups.ensures
