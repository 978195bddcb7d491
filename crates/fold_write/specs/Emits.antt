-- What the writer of a fold's result takes and answers: pages of the drained ones of some rules, the rules left of them, and the answer with the buffer.
use Rattle.std.specs.Prelude.{◌≡◌, List, ℕ, length}
use Rattle.definition.specs.Rule.{Rule}
use Rattle.definition.specs.Sheet.{Form}
use Rattle.definition.specs.Stop.{drained}
use Rattle.definition.specs.Fold.{numbers, buffer}
use Rattle.answers.specs.declared.Folded.{Folded}
use Rattle.answers.specs.Numbers.{fold_numbers}
use Rattle.sheet.specs.Parts.{Leaving}
use Rattle.tables.specs.Pages.{Paged}
use Rattle.page_writer.specs.declared.paged.PagedRules.{PagedRules}
use Rattle.fold_write.specs.declared.Left.{Left}
use Rattle.fold_write.specs.Emission.{emission}

abbrev pub PagesOf : Form → PagedRules → List Rule → Type 0
PagesOf form p rs = Paged form p.states.now p.span_counts.now p.spans.now p.lists.now p.pages.now p.count (drained rs)

abbrev pub LeftOf : Form → List ℕ → PagedRules → Left → List Rule → Type 0
LeftOf form sheet p left rs = Leaving form sheet rs left.start left.end (length p.states.now) left.rules left.why

abbrev pub Emits : Form → List ℕ → List Rule → Folded → List ℕ → Type 0
Emits form old rs folded new =
    (fold_numbers folded ≡ numbers (emission form (length old) rs)) × (new ≡ buffer (emission form (length old) rs).result old)
