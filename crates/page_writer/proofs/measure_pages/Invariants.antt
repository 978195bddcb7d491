use Prim.Native.Nat.{◌-◌}
use Rattle.forms.specs.Form.{as_form}
use Rattle.day_book.specs.Book.{Open}
use Rattle.page_writer.specs.Paged.{day_words}
use Rattle.page_writer.proofs.Walking.{Measured}
use Rattle.page_writer.proofs.measure_pages.Given as goal

abbrev pub invariant-loop-page : goal.invariant-loop-page
invariant-loop-page l = record {
  measured : Measured (as_form l.form) l.paged.states.now l.paged.span_counts.now l.paged.spans.now l.paged.lists.now l.paged.pages.now l.room l.paged.count (l.paged.count - l._page) l.here l.rules l.bits l.past;
  opened : Open (day_words l.paged) l.notes l.book l.room l.filled;
}
