-- `list_store::draw` meets its contract: the box was drawn already, or gets a list that the rule made already or makes now, or its list is full.
-- `low`: the box's number is one of before the rule; `few`: and so is its key; `old`: the rule has made no list of it yet; `next`: its number fits.
use mathlib.Core.Path.{sym, ap, ◌∙◌}
use mathlib.Core.Bool.{cond}
use Prim.Native.Nat.{◌+◌, ◌≤◌, ◌<◌}
use native.Mathlib.Omega.{arith}
use lib.ListN.{get_or}
use borrow.Author.Tests.{ltb-true, ltb-false}
use Rattle.list_store.proofs.OneBox.{key-low, walked-again, room-left, walked-full, walked-met, walked-new}
use Rattle.list_store.proofs.Making.{number-left}
use Rattle.list_store.proofs.draw.Goals as goal

pub returns-then-number-before : goal.returns-then-number-before
returns-then-number-before c =
    walked-again c.requires.making _ c.requires.box_index_in_bounds (omega (arith, c.if-number-before.true, c.from-number.ensures))

pub offset_bounds-memo-key : goal.offset_bounds-memo-key
offset_bounds-memo-key c =
    let low : get_or c.args.cells.now c.args.box_index 0 ≤ c.args.before = omega (arith, c.if-number-before.false, c.from-number.ensures) in
    let keyed = c.key_of-key.ensures ∙ ap (cond c.args.replaces 0) c.from-number.ensures in
    let few = key-low c.args.replaces _ _ _ keyed low in
    omega (arith, few, c.requires.making.few)

pub bounds-memo-key : goal.bounds-memo-key
bounds-memo-key c =
    let low : get_or c.args.cells.now c.args.box_index 0 ≤ c.args.before = omega (arith, c.if-number-before.false, c.from-number.ensures) in
    let keyed = c.key_of-key.ensures ∙ ap (cond c.args.replaces 0) c.from-number.ensures in
    let few = key-low c.args.replaces _ _ _ keyed low in
    omega (arith, few, c.requires.making.made.many)

pub returns-then-from-before : goal.returns-then-from-before
returns-then-from-before c =
    let low : get_or c.args.cells.now c.args.box_index 0 ≤ c.args.before = omega (arith, c.if-number-before.false, c.from-number.ensures) in
    let keyed = c.key_of-key.ensures ∙ ap (cond c.args.replaces 0) c.from-number.ensures in
    walked-met c.requires.making _ c.requires.box_index_in_bounds _ low _ keyed (omega (arith, c.if-from-before.true, c.from.ensures))

pub has_room-requires : goal.has_room-requires
has_room-requires c =
    let low : get_or c.args.cells.now c.args.box_index 0 ≤ c.args.before = omega (arith, c.if-number-before.false, c.from-number.ensures) in
    let keyed = c.key_of-key.ensures ∙ ap (cond c.args.replaces 0) c.from-number.ensures in
    let few = key-low c.args.replaces _ _ _ keyed low in
    omega (arith, few, c.requires.making.room 0 (omega arith) (omega arith))

pub append-requires : goal.append-requires
append-requires c =
    let low : get_or c.args.cells.now c.args.box_index 0 ≤ c.args.before = omega (arith, c.if-number-before.false, c.from-number.ensures) in
    let keyed = c.key_of-key.ensures ∙ ap (cond c.args.replaces 0) c.from-number.ensures in
    let few = key-low c.args.replaces _ _ _ keyed low in
    let old : get_or c.args.memo.now c.key_of-key.result 0 ≤ c.args.before = omega (arith, c.if-from-before.false, c.from.ensures) in
    let pre = c.requires in (
      omega (arith, few, pre.making.made.grown),
      room-left pre.making _ pre.box_index_in_bounds low _ few old,
      ltb-true _ _ (sym c.has_room.ensures ∙ c.if-has_room.true),
    )

pub overflow_add-memo : goal.overflow_add-memo
overflow_add-memo c =
    let low : get_or c.args.cells.now c.args.box_index 0 ≤ c.args.before = omega (arith, c.if-number-before.false, c.from-number.ensures) in
    let keyed = c.key_of-key.ensures ∙ ap (cond c.args.replaces 0) c.from-number.ensures in
    let few = key-low c.args.replaces _ _ _ keyed low in
    let old : get_or c.args.memo.now c.key_of-key.result 0 ≤ c.args.before = omega (arith, c.if-from-before.false, c.from.ensures) in
    let next : c.args.drawn.used + 1 < 65536 = omega (arith, number-left c.requires.making.made _ few old, c.requires.making.few) in
    omega (arith, next)

pub overflow_cast-memo : goal.overflow_cast-memo
overflow_cast-memo c =
    let low : get_or c.args.cells.now c.args.box_index 0 ≤ c.args.before = omega (arith, c.if-number-before.false, c.from-number.ensures) in
    let keyed = c.key_of-key.ensures ∙ ap (cond c.args.replaces 0) c.from-number.ensures in
    let few = key-low c.args.replaces _ _ _ keyed low in
    let old : get_or c.args.memo.now c.key_of-key.result 0 ≤ c.args.before = omega (arith, c.if-from-before.false, c.from.ensures) in
    let next : c.args.drawn.used + 1 < 65536 = omega (arith, number-left c.requires.making.made _ few old, c.requires.making.few) in
    omega (arith, next)

pub offset_bounds-memo-key-then-has_room : goal.offset_bounds-memo-key-then-has_room
offset_bounds-memo-key-then-has_room c =
    let low : get_or c.args.cells.now c.args.box_index 0 ≤ c.args.before = omega (arith, c.if-number-before.false, c.from-number.ensures) in
    let keyed = c.key_of-key.ensures ∙ ap (cond c.args.replaces 0) c.from-number.ensures in
    let few = key-low c.args.replaces _ _ _ keyed low in
    omega (arith, few, c.requires.making.few)

pub bounds-memo-key-then-has_room : goal.bounds-memo-key-then-has_room
bounds-memo-key-then-has_room c =
    let low : get_or c.args.cells.now c.args.box_index 0 ≤ c.args.before = omega (arith, c.if-number-before.false, c.from-number.ensures) in
    let keyed = c.key_of-key.ensures ∙ ap (cond c.args.replaces 0) c.from-number.ensures in
    let few = key-low c.args.replaces _ _ _ keyed low in
    omega (arith, few, c.requires.making.made.many)

pub overflow_add-cells : goal.overflow_add-cells
overflow_add-cells c =
    let low : get_or c.args.cells.now c.args.box_index 0 ≤ c.args.before = omega (arith, c.if-number-before.false, c.from-number.ensures) in
    let keyed = c.key_of-key.ensures ∙ ap (cond c.args.replaces 0) c.from-number.ensures in
    let few = key-low c.args.replaces _ _ _ keyed low in
    let old : get_or c.args.memo.now c.key_of-key.result 0 ≤ c.args.before = omega (arith, c.if-from-before.false, c.from.ensures) in
    let next : c.args.drawn.used + 1 < 65536 = omega (arith, number-left c.requires.making.made _ few old, c.requires.making.few) in
    omega (arith, next)

pub overflow_cast-cells : goal.overflow_cast-cells
overflow_cast-cells c =
    let low : get_or c.args.cells.now c.args.box_index 0 ≤ c.args.before = omega (arith, c.if-number-before.false, c.from-number.ensures) in
    let keyed = c.key_of-key.ensures ∙ ap (cond c.args.replaces 0) c.from-number.ensures in
    let few = key-low c.args.replaces _ _ _ keyed low in
    let old : get_or c.args.memo.now c.key_of-key.result 0 ≤ c.args.before = omega (arith, c.if-from-before.false, c.from.ensures) in
    let next : c.args.drawn.used + 1 < 65536 = omega (arith, number-left c.requires.making.made _ few old, c.requires.making.few) in
    omega (arith, next)

pub overflow_add-result : goal.overflow_add-result
overflow_add-result c =
    let low : get_or c.args.cells.now c.args.box_index 0 ≤ c.args.before = omega (arith, c.if-number-before.false, c.from-number.ensures) in
    let keyed = c.key_of-key.ensures ∙ ap (cond c.args.replaces 0) c.from-number.ensures in
    let few = key-low c.args.replaces _ _ _ keyed low in
    let old : get_or c.args.memo.now c.key_of-key.result 0 ≤ c.args.before = omega (arith, c.if-from-before.false, c.from.ensures) in
    let next : c.args.drawn.used + 1 < 65536 = omega (arith, number-left c.requires.making.made _ few old, c.requires.making.few) in
    omega (arith, next)

pub returns-then-has_room : goal.returns-then-has_room
returns-then-has_room c =
    let low : get_or c.args.cells.now c.args.box_index 0 ≤ c.args.before = omega (arith, c.if-number-before.false, c.from-number.ensures) in
    let keyed = c.key_of-key.ensures ∙ ap (cond c.args.replaces 0) c.from-number.ensures in
    let old : get_or c.args.memo.now c.key_of-key.result 0 ≤ c.args.before = omega (arith, c.if-from-before.false, c.from.ensures) in
    let pre = c.requires in
    walked-new pre.making _ pre.box_index_in_bounds _ low _ keyed _ c.append.auto.lists old
    (ltb-true _ _ (sym c.has_room.ensures ∙ c.if-has_room.true)) c.append.ensures

pub returns : goal.returns
returns c =
    let low : get_or c.args.cells.now c.args.box_index 0 ≤ c.args.before = omega (arith, c.if-number-before.false, c.from-number.ensures) in
    let keyed = c.key_of-key.ensures ∙ ap (cond c.args.replaces 0) c.from-number.ensures in
    walked-full c.requires.making _ c.requires.box_index_in_bounds _ low _ keyed (ltb-false _ _ (sym c.has_room.ensures ∙ c.if-has_room.false))
