-- `number_lists::number_in` meets its contract: before the first list only the empty list is numbered.
use Rattle.std.proofs.Common.{subst, arith}
use Rattle.std.proofs.lemmas.List.{length-take-le, length-set}
use Rattle.tables.specs.Days.{box_words}
use Rattle.number_lists.specs.Numbered.{DayAt}
use Rattle.number_lists.proofs.OneMore.{numbered-none, list-more}
use Rattle.number_lists.proofs.number_in.Goals as goal

pub loop-place-init : goal.loop-place-init
loop-place-init c =
    let a = c.args in
    let given = c.requires.numbering_room in (
      λ i l. absurd (omega arith),
      numbered-none (box_words a.states.now a.span_counts.now a.spans.now a.lists.now) a.numbers.now a.classes.now (omega (arith, given.numbered)) (omega (arith, given.classed)),
    )

pub loop-place-preserved : goal.loop-place-preserved
loop-place-preserved c =
    let a = c.args in
    let held = c.loop-place in
    let found = c.day_at-day.result in
    let W = box_words a.states.now a.span_counts.now a.spans.now a.lists.now in
    let given = c.requires.numbering_room in
    list-more W held.hashes held.numbers held.classes held.place found held.invariant
    (subst (λ n. DayAt W n found) (length-take-le held.place held.hashes (omega arith)) c.day_at-day.ensures)
    (omega arith) (omega (arith, length-set a.numbers.now 0 0)) (omega (arith, length-set a.classes.now 0 0))
