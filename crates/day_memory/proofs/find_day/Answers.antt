-- `day_memory::find_day` meets its contract.
use Rattle.std.proofs.Common.{◌∙◌, sym}
use Rattle.std.proofs.Common.{length}
use Rattle.std.proofs.lemmas.Bool.{eqb-true, eqb-false}
use Rattle.tables.specs.Days.{box_words}
use Rattle.day_memory.proofs.Searching.{no_words, day-found, day-new, hash-passed, words-passed}
use Rattle.day_memory.proofs.find_day.Goals.{else-hash-day_hash-via-then-hash-day_hash+else-same_day, else-hash-day_hash-via-else-hash-day_hash}
use Rattle.day_memory.proofs.find_day.Goals as goal

pub returns-then-is_empty : goal.returns-then-is_empty
returns-then-is_empty c =
    let a = c.args in
    no_words (box_words a.states.now a.span_counts.now a.spans.now a.lists.now) _ _ c.requires.words_value.0 (eqb-true _ 0 (sym c.is_empty.ensures ∙ c.if-is_empty.true))

pub returns-then-same_day : goal.returns-then-same_day
returns-then-same_day c =
    let a = c.args in
    day-found (box_words a.states.now a.span_counts.now a.spans.now a.lists.now) a.words.now (length a.hashes.now) c.requires.words_value.0
    (eqb-false _ 0 (sym c.is_empty.ensures ∙ c.if-is_empty.false)) _ c.loop-before.invariant (sym c.if-same_day.true ∙ c.same_day.ensures)

pub loop-before-preserved : goal.loop-before-preserved
loop-before-preserved c =
    let a = c.args in
    let W = box_words a.states.now a.span_counts.now a.spans.now a.lists.now in
    let known = c.requires.words_value in
    elim c.else-hash-day_hash.branch [
      | else-hash-day_hash-via-then-hash-day_hash+else-same_day w ↦ words-passed W a.words.now (length a.hashes.now) known.0 c.loop-before.before c.loop-before.invariant c.loop-before-test.true
          (sym w.if-same_day.false ∙ w.same_day.ensures)
      | else-hash-day_hash-via-else-hash-day_hash w ↦ hash-passed W a.words.now (length a.hashes.now) known.0 c.loop-before.before c.loop-before.invariant c.loop-before-test.true
          a.hashes.now a.day_hash known.1 known.2 w.if-hash-day_hash.false
    ]

pub returns : goal.returns
returns c =
    let a = c.args in
    day-new (box_words a.states.now a.span_counts.now a.spans.now a.lists.now) a.words.now (length a.hashes.now) c.requires.words_value.0
    (eqb-false _ 0 (sym c.is_empty.ensures ∙ c.if-is_empty.false)) _ c.loop-before.invariant c.loop-before-test.false
