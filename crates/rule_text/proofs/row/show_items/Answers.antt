-- `rule_text::row::show_items` meets its contract: a number says what the sort says that it names.
use mathlib.Core.Path.{sym, subst}
use Rattle.rule_text.proofs.Rows.{items-named}
use Rattle.text.specs.Put.{Within}
use Rattle.rule_text.specs.Tale.{Tale}
use Rattle.rule_text.proofs.Telling.{shows-as}
use Rattle.rule_text.proofs.row.show_items.Goals as goal

pub show_row-requires : goal.show_row-requires
show_row-requires c = (c.requires.0, subst (λ (x : Tale). Within c.args.place x.text) (sym (items-named _ _ c.from.ensures _ _ _)) c.requires.1)

pub returns : goal.returns
returns c = shows-as (items-named _ _ c.from.ensures _ _ _) c.show_row.ensures
