-- `paving_pages::put_sorts` meets its contract. The loop's invariant: the sorts before one are laid.
use mathlib.Core.Path.{refl}
use Prim.Native.Nat.{◌-◌}
use native.Mathlib.Omega.{arith}
use lib.ListN.{get_or}
use Rattle.date_items.proofs.Returns.{items-half}
use Rattle.paving_pages.proofs.Writing.{row-cuts, laid-begin, base_there, sort-room, laid_more, laid_end}
use Rattle.paving_pages.proofs.put_sorts.Goals as goal

pub width_of-base-requires : goal.width_of-base-requires
width_of-base-requires c =
    (c.requires.cut_rows.all-sizes, omega (arith, c.requires.dims_left_in_bounds.0, c.well_formed))

pub loop-sort-init : goal.loop-sort-init
loop-sort-init c =
    laid-begin _ _ _ _ _ _ _ _ _ c.width_of-base.ensures

pub overflow_sub-base : goal.overflow_sub-base
overflow_sub-base c =
    let a = c.args in
    let row = get_or a.row_starts.now c.loop-sort.sort 0 in
    omega (arith, base_there _ _ _ _ _ _ _ _ _ _ _ _ _ row c.loop-sort.invariant c.loop-sort-test.true c.from-width.ensures refl)

pub put_items-item_count-requires : goal.put_items-item_count-requires
put_items-item_count-requires c =
    let pre = c.requires in
    let to = c.loop-sort.invariant in
    let lt = c.loop-sort-test.true in
    let en = c.from-width.ensures in
    let er = c.from.ensures in
    record {
      width_in_bounds = omega (arith, base_there _ _ _ _ _ _ _ _ _ _ _ _ _ _ to lt en er, to.place, pre.dims_left_in_bounds.0);
      cuts = row-cuts lt pre.cut_rows er en;
      row_in_bounds = sort-room _ _ _ _ _ _ _ _ _ _ _ _ _ _ to lt en er pre.dims_left_in_bounds_2;
    }

pub overflow_cast-pages : goal.overflow_cast-pages
overflow_cast-pages c =
    let a = c.args in
    omega (
      arith,
      items-half a.marks.now (c.loop-sort.base - c.from-width.result) c.from-width.result a.cuts.now c.from.result,
      c.put_items-item_count.ensures.0,
    )

pub overflow_mul-next : goal.overflow_mul-next
overflow_mul-next c =
    omega (arith, overflow_cast-pages c)

pub overflow_add-next : goal.overflow_add-next
overflow_add-next c =
    let room = sort-room _ _ _ _ _ _ _ _ _ _ _ _ _ _ c.loop-sort.invariant c.loop-sort-test.true c.from-width.ensures c.from.ensures
    c.requires.dims_left_in_bounds_2 in
    omega (arith, room, c.put_items-item_count.ensures.0, c.loop-sort.invariant.long, c.well_formed)

pub loop-sort-preserved : goal.loop-sort-preserved
loop-sort-preserved c =
    laid_more _ _ _ _ _ _ _ _ _ _ _ _ _ _ c.loop-sort.invariant c.loop-sort-test.true c.from-width.ensures c.from.ensures _ _
    c.requires.dims_left_in_bounds.1 c.put_items-item_count.auto.ends c.put_items-item_count.ensures

pub returns : goal.returns
returns c =
    laid_end _ _ _ _ _ _ _ _ _ _ _ _ c.loop-sort.invariant c.loop-sort-test.false
