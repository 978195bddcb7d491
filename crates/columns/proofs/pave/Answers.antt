-- `columns::pave` meets its contract: where lists are too long or too many it refuses; else the pages are those of the folded rules.
use native.Mathlib.Omega.{arith}
use Rattle.draw_rules.proofs.Told.{listing-refused, listing-held, held-few}
use Rattle.paved.proofs.Told.{paves-passed, paves-pages}
use Rattle.columns.proofs.pave.Goals as goal

pub draw_rules-requires : goal.draw_rules-requires
draw_rules-requires c =
    let given = c.requires.to_draw.1 in
    record { to_list = (_, (given.drawable, given.passed.apart)); no_lists = c.requires.no_lists.0 }

pub returns-in_err-used : goal.returns-in_err-used
returns-in_err-used c =
    λ rs given. paves-passed _ _ _ _ _ rs _ _ c.from_residual.ensures.1
    (listing-refused _ _ _ _ _ rs _ (c.draw_rules.ensures rs (given.drawable, given.passed.apart)) _ c.in_err-used.was)

pub fold_pages-count-requires-clause-rule_times : goal.fold_pages-count-requires-clause-rule_times
fold_pages-count-requires-clause-rule_times c =
    let given = c.requires.to_draw.1 in
    let held = listing-held _ _ _ _ _ _ _ (c.draw_rules.ensures _ (given.drawable, given.passed.apart)) _ c.in_ok-used.was in
    (_, given.times, held.1)

pub fold_pages-count-requires-clause-used_in_bounds : goal.fold_pages-count-requires-clause-used_in_bounds
fold_pages-count-requires-clause-used_in_bounds c =
    let pre = c.requires in
    let given = pre.to_draw.1 in
    let held = listing-held _ _ _ _ _ _ _ (c.draw_rules.ensures _ (given.drawable, given.passed.apart)) _ c.in_ok-used.was in
    let few = held-few _ _ _ _ _ _ _ _ _ _ pre.no_lists.0 held.1 in
    (omega (arith, few, c.draw_rules.auto.memo), omega (arith, held.1.few-lists, pre.no_lists.1), pre.no_lists.1)

pub returns : goal.returns
returns c =
    λ rs given.
    let held = listing-held _ _ _ _ _ rs _ (c.draw_rules.ensures rs (given.drawable, given.passed.apart)) _ c.in_ok-used.was in
    paves-pages _ _ _ _ _ rs _ held.0 (λ form commented. c.fold_pages-count.ensures rs form given.times held.1 commented)
