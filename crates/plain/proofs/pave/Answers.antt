-- `plain::pave` meets its contract: where lists are too long or too many it refuses; else the pages are those of the folded rules.
use Rattle.plain_lists.proofs.Told.{listing-refused, listing-held}
use Rattle.paved.proofs.Told.{paves-passed, paves-pages}
use Rattle.plain.proofs.pave.Goals as goal

pub list_rules-requires : goal.list_rules-requires
list_rules-requires c =
    let given = c.requires.to_draw.1 in
    let room = c.requires.plain_room in
    record { to_list = (_, (given.drawable, given.passed.apart)); sizes_bound = (given.passed.few-boxes, room.listed, room.empty) }

pub returns-in_err-list_rules : goal.returns-in_err-list_rules
returns-in_err-list_rules c =
    λ rs given. paves-passed _ _ _ _ _ rs _ _ c.from_residual.ensures.1
    (listing-refused _ _ _ _ rs _ (c.list_rules.ensures rs (given.drawable, given.passed.apart)) _ c.in_err-list_rules.was)

pub fold_lists-count-requires : goal.fold_lists-count-requires
fold_lists-count-requires c =
    let given = c.requires.to_draw.1 in
    let room = c.requires.plain_room in
    let held = listing-held _ _ _ _ _ _ (c.list_rules.ensures _ (given.drawable, given.passed.apart)) _ c.in_ok-list_rules.was in
    record { rule_times = (_, given.times, held.1); sizes_in_bounds = (room.numbered, room.paged) }

pub returns : goal.returns
returns c =
    λ rs given.
    let held = listing-held _ _ _ _ rs _ (c.list_rules.ensures rs (given.drawable, given.passed.apart)) _ c.in_ok-list_rules.was in
    paves-pages _ _ _ _ _ rs _ held.0 (λ form commented. c.fold_lists-count.ensures rs form given.times held.1 commented)
