-- `day_book::fetch` meets its contract: the day is in the book, or it is folded behind what is filled, and noted or not.
use Rattle.std.proofs.Common.{◌≡◌, ◌∙◌, ap, List, ℕ, suc, ◌-◌, ◌≤◌, arith}
use Rattle.std.proofs.lemmas.List.{length-drop}
use Rattle.tables.specs.Days.{words_of, number_words}
use Rattle.day_book.proofs.Keeping.{day-folded, day-noted}
use Rattle.day_book.proofs.fetch.Goals as goal

-- a number's words are those of the list before it
own-words : (W : ℕ → List ℕ) (number : ℕ) → 1 ≤ number → W (number - 1) ≡ words_of W number
unfolding words_of
own-words W number l = let e : suc (number - 1) ≡ number = omega arith in ap (words_of W) e

pub returns-then-noted-notes-2 : goal.returns-then-noted-notes-2
returns-then-noted-notes-2 c =
    let a = c.args in
    let folded = c.fold_box-count in
    day-noted (number_words a.states.now a.span_counts.now a.spans.now a.lists.now) a.notes.now a.book.now a.room a.filled a.number c.requires.fact folded.new.words
    (omega (arith, folded.auto.words, length-drop a.filled a.book.now)) folded.result (omega (arith, folded.ensures.1, c.requires.le_number.2.wordy))
    (folded.ensures.0 ∙ own-words _ a.number c.requires.le_number.0) (omega arith) (omega arith)

pub returns : goal.returns
returns c =
    let a = c.args in
    let folded = c.fold_box-count in
    day-folded (number_words a.states.now a.span_counts.now a.spans.now a.lists.now) a.notes.now a.book.now a.room a.filled a.number c.requires.fact folded.new.words
    (omega (arith, folded.auto.words, length-drop a.filled a.book.now)) folded.result (omega (arith, folded.ensures.1, c.requires.le_number.2.wordy))
    (folded.ensures.0 ∙ own-words _ a.number c.requires.le_number.0)
