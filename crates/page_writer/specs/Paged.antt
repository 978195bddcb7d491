-- The pages of a fold, by what they are read from: the words of their days, the rules that they stand for, and that they are ready.
use Rattle.std.specs.Prelude.{List, ℕ}
use Rattle.definition.specs.Rule.{Rule}
use Rattle.definition.specs.Sheet.{Form}
use Rattle.tables.specs.Days.{box_words, number_words}
use Rattle.tables.specs.Pages as tables
use Rattle.tables.specs.Pages.{page_at, page_rules, paged_rules}
use Rattle.page_writer.specs.declared.paged.PagedRules.{PagedRules}

-- the words of each day's number
abbrev pub day_words : PagedRules → ℕ → List ℕ
day_words p = number_words p.states.now p.span_counts.now p.spans.now p.lists.now

-- the rules of a page, and of all pages
abbrev pub rules_of_page : PagedRules → List ℕ → List Rule
rules_of_page p page = page_rules (box_words p.states.now p.span_counts.now p.spans.now p.lists.now) (page_at page 0)

abbrev pub rules_of_pages : PagedRules → List Rule
rules_of_pages p = paged_rules p.states.now p.span_counts.now p.spans.now p.lists.now p.pages.now p.count

-- a page, and all pages, with days that have room in so many words
abbrev pub PageReady : Form → PagedRules → List ℕ → ℕ → Type 0
PageReady form p page room = tables.PageReady form p.states.now p.span_counts.now p.spans.now p.lists.now page room 0

abbrev pub PagesReady : Form → PagedRules → ℕ → Type 0
PagesReady form p room = tables.Pages form p.states.now p.span_counts.now p.spans.now p.lists.now p.pages.now room p.count 0
