use Prim.Native.Nat.{◌-◌}
use Rattle.forms.specs.Form.{as_form}
use Rattle.day_book.specs.Book.{Open}
use Rattle.page_writer.specs.Paged.{day_words}
use Rattle.page_writer.proofs.Walking.{Writing}
use Rattle.page_writer.proofs.write_pages.Given as goal

abbrev pub invariant-loop-page : goal.invariant-loop-page
invariant-loop-page l = record {
  writing : Writing (as_form l.form) l.paged.states.now l.paged.span_counts.now l.paged.spans.now l.paged.lists.now l.paged.pages.now l.room l.paged.count l.initial.out l.place (l.paged.count - l._page) l.here l.out l.next;
  opened : Open (day_words l.paged) l.notes l.book l.room l.full;
}
