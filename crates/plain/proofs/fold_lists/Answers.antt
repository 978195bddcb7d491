-- `plain::fold_lists` meets its contract: the lists can be folded, the numbers behind the first are the boxes', and the pages in the buffer are those of the
-- folded rules.
use mathlib.Core.Path.{◌≡◌}
use Prim.Native.Nat.{◌+◌, ◌-◌}
use native.Mathlib.Omega.{arith}
use lib.ListN.{length}
use Rattle.plain.proofs.Folding.{own-numbered, own-popped, own-ended, own-folded}
use Rattle.plain.proofs.fold_lists.Goals as goal

pub size_of-boxes-requires : goal.size_of-boxes-requires
size_of-boxes-requires c =
    let given = c.requires.rule_times.2 in
    (omega (arith, given.cut.four), given.cut.filled, omega (arith, given.few-boxes))

pub number_lists-requires : goal.number_lists-requires
number_lists-requires c =
    let a = c.args in
    let given = c.requires.rule_times in
    let numbered = own-numbered a.states.now a.span_counts.now a.spans.now a.row_starts.now a.sizes.now a.cuts.now a.lists.now given.0 given.1 given.2 _ _ _ _
    c.size_of-boxes.ensures c.requires.sizes_in_bounds.1 c.requires.sizes_in_bounds.0 c.zeros-classes.ensures in
    record { all_ready = numbered.0; numbering_room = numbered.1 }

pub pop_pages-stop-requires : goal.pop_pages-stop-requires
pop_pages-stop-requires c =
    let a = c.args in
    let given = c.requires.rule_times in
    let n = c.size_of-boxes.result in
    let whole : n + 1 - 1 ≡ n = omega arith in
    let popped = own-popped a.states.now a.span_counts.now a.spans.now a.row_starts.now a.sizes.now a.cuts.now a.lists.now given.0 given.1 given.2
    c.number_lists.new.numbers c.number_lists.new.classes _ _ c.size_of-boxes.ensures whole
    (omega (arith, c.requires.sizes_in_bounds.0, c.number_lists.auto.numbers)) c.number_lists.ensures (length c.zeros-marks.result) (length c.number_lists.new.hashes)
    (omega (arith, given.2.few-boxes, c.zeros-marks.ensures)) (omega (arith, c.requires.sizes_in_bounds.1, c.number_lists.auto.hashes)) in
    record { room = popped.0; cut_rows = popped.1.0; classes_value = popped.1.1 }

pub count_pages-requires : goal.count_pages-requires
count_pages-requires c =
    let a = c.args in
    let given = c.requires.rule_times in
    let n = c.size_of-boxes.result in
    let whole : n + 1 - 1 ≡ n = omega arith in
    let ended = own-ended a.states.now a.span_counts.now a.spans.now a.row_starts.now a.sizes.now a.cuts.now a.lists.now given.0 given.1 given.2
    c.number_lists.new.numbers c.number_lists.new.classes _ _ c.size_of-boxes.ensures whole
    (omega (arith, c.requires.sizes_in_bounds.0, c.number_lists.auto.numbers)) c.number_lists.ensures c.number_lists.new.hashes _
    (omega (arith, c.requires.sizes_in_bounds.1, c.number_lists.auto.hashes)) c.pop_pages-stop.ensures.1 _ c.pop_pages-stop.ensures.0 in
    record { by_index = ended.0; stop_in_bounds = omega (arith, ended.1, c.pop_pages-stop.auto.pages) }

pub returns : goal.returns
returns c =
    let a = c.args in
    let n = c.size_of-boxes.result in
    let whole : n + 1 - 1 ≡ n = omega arith in
    λ rs form times given commented. own-folded a.states.now a.span_counts.now a.spans.now a.row_starts.now a.sizes.now a.cuts.now a.lists.now rs times given
    c.number_lists.new.numbers c.number_lists.new.classes _ _ c.size_of-boxes.ensures whole
    (omega (arith, c.requires.sizes_in_bounds.0, c.number_lists.auto.numbers)) c.number_lists.ensures c.number_lists.new.hashes _
    (omega (arith, c.requires.sizes_in_bounds.1, c.number_lists.auto.hashes)) c.pop_pages-stop.ensures.1 _ c.pop_pages-stop.ensures.0 form commented _
    c.count_pages.ensures
