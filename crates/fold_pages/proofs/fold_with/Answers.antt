-- `fold_pages::fold_with` meets its contract: the lists can be folded, the cells are those that popping requires, and the pages in the buffer
-- are those of the folded rules.
use mathlib.Core.Path.{◌∙◌}
use Prim.Native.Nat.{ℕ}
use native.Mathlib.Omega.{arith}
use lib.ListN.{length-replicate}
use Rattle.tables.proofs.Stored.{store-names}
use Rattle.paved.proofs.Ready.{list-ready, rows_cut}
use Rattle.paved.proofs.Numbered.{empty-class}
use Rattle.paved.proofs.Paging.{pages-end, pages-folded}
use Rattle.fold_pages.proofs.fold_with.Goals as goal

pub number_lists-requires : goal.number_lists-requires
number_lists-requires g c =
    let a = c.args in
    let given = c.requires.rule_times in
    let room = c.requires.used_in_bounds in record {
      all_ready = list-ready a.rules.states.now a.rules.span_counts.now a.rules.spans.now given.0 given.1 a.cuts.row_starts.now a.cuts.sizes.now a.cuts.cuts.now
          a.cells.now a.lists.now a.used (store-names _ _ _ _ _ _ _ given.2);
      numbering_room = record { hashed = room.3; numbered = room.0; classed = omega (arith, room.1, length-replicate {A = ℕ} g.row.CLASSES 0); few = omega (arith, given.2.stored.few) };
    }

pub rename-requires : goal.rename-requires
rename-requires g c =
    λ box. omega (arith, c.requires.rule_times.2.stored.store.names box, c.requires.used_in_bounds.0, c.number_lists.auto.numbers)

pub pop_groups-stop-requires : goal.pop_groups-stop-requires
pop_groups-stop-requires g c =
    let numbered = c.number_lists in
    let a = c.args in
    let given = c.requires.rule_times in
    let cut = given.2.cut in
    let one_cell = c.rename.auto.cells ∙ given.2.one_cell in record {
      cells_len = (one_cell, given.2.few-boxes, record { dims = omega (arith, cut.four); filled = cut.filled; below = omega (arith, one_cell) });
      cut_rows = rows_cut a.rules.states.now a.rules.span_counts.now a.rules.spans.now given.0 given.1 a.cuts.row_starts.now a.cuts.sizes.now a.cuts.cuts.now
          a.cells.now a.lists.now a.used (store-names _ _ _ _ _ _ _ given.2);
      classes_value = (
        empty-class a.rules.states.now a.rules.span_counts.now a.rules.spans.now a.cuts.row_starts.now a.cuts.sizes.now a.cuts.cuts.now a.lists.now
            a.cells.now _ _ _ a.used given.0 given.1 (store-names _ _ _ _ _ _ _ given.2) numbered.ensures c.rename.ensures,
        omega (arith, c.requires.used_in_bounds.4, numbered.auto.hashes),
      );
    }

pub count_pages-requires : goal.count_pages-requires
count_pages-requires g c =
    let popped = c.pop_groups-stop in
    let numbered = c.number_lists in
    let a = c.args in
    let given = c.requires.rule_times in
    let ended = pages-end a.rules.states.now a.rules.span_counts.now a.rules.spans.now a.cuts.row_starts.now a.cuts.sizes.now a.cuts.cuts.now a.lists.now
    a.cells.now _ _ _ a.used given.0 given.1 (store-names _ _ _ _ _ _ _ given.2) numbered.ensures c.rename.ensures numbered.new.hashes _
    (omega (arith, c.requires.used_in_bounds.4, numbered.auto.hashes)) popped.ensures.1 _ popped.ensures.0 in
    record { by_index = ended.0; stop_in_bounds = omega (arith, ended.1, popped.auto.pages) }

pub returns : goal.returns
returns g c =
    let popped = c.pop_groups-stop in
    let numbered = c.number_lists in
    let a = c.args in
    λ rs form tables boxed commented. pages-folded a.rules.states.now a.rules.span_counts.now a.rules.spans.now a.cuts.row_starts.now a.cuts.sizes.now a.cuts.cuts.now
    a.lists.now a.cells.now _ _ _ a.used rs tables (store-names _ _ _ _ _ _ _ boxed) numbered.ensures c.rename.ensures numbered.new.hashes _
    (omega (arith, c.requires.used_in_bounds.4, numbered.auto.hashes)) popped.ensures.1 _ popped.ensures.0 form commented _ c.count_pages.ensures
