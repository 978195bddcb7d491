-- `paving_pages::put_page` meets its contract: the value, then the sorts.
use mathlib.Core.Path.{◌∙◌}
use native.Mathlib.Omega.{arith}
use lib.ListN.{length, length-set}
use Rattle.paving_pages.proofs.Writing.{page-room, put-page}
use Rattle.paving_pages.proofs.put_page.Goals as goal

pub bounds-pages-at : goal.bounds-pages-at
bounds-pages-at c =
    let a = c.args in
    let room = page-room a.row_starts.now a.cuts.now a.sizes.now a.marks.now a.value a.at a.dims_left (length a.pages.now) in
    omega (arith, room c.requires.dims_left_in_bounds_2)

pub overflow_add-at-3 : goal.overflow_add-at-3
overflow_add-at-3 c =
    let a = c.args in
    let room = page-room a.row_starts.now a.cuts.now a.sizes.now a.marks.now a.value a.at a.dims_left (length a.pages.now) in
    omega (arith, room c.requires.dims_left_in_bounds_2, c.well_formed)

pub overflow_add-at : goal.overflow_add-at
overflow_add-at c =
    omega (arith, overflow_add-at-3 c)

pub overflow_add-at-2 : goal.overflow_add-at-2
overflow_add-at-2 c =
    omega (arith, overflow_add-at-3 c)

pub put_sorts-requires : goal.put_sorts-requires
put_sorts-requires c =
    let a = c.args in
    let room = page-room a.row_starts.now a.cuts.now a.sizes.now a.marks.now a.value a.at a.dims_left (length a.pages.now) in
    record {
      cut_rows = c.requires.cut_rows;
      dims_left_in_bounds = (c.requires.dims_left_in_bounds, omega arith);
      dims_left_in_bounds_2 = omega (arith, room c.requires.dims_left_in_bounds_2, length-set a.pages.now a.at a.value);
    }

pub shape_of-pages : goal.shape_of-pages
shape_of-pages c =
    let a = c.args in c.put_sorts.auto.pages ∙ length-set a.pages.now a.at a.value

pub returns : goal.returns
returns c =
    put-page _ _ _ _ _ _ _ _ _ _ c.put_sorts.ensures
