-- `rule_text::shown::show_item` meets its contract: a number says what the sort says that it names.
use mathlib.Core.Path.{sym, subst}
use Rattle.item.proofs.Sorts.{of-named}
use Rattle.text.specs.Put.{Within}
use Rattle.rule_text.specs.Tale.{Tale}
use Rattle.rule_text.proofs.Telling.{shows-as}
use Rattle.rule_text.proofs.shown.show_item.Goals as goal

pub show_one-requires : goal.show_one-requires
show_one-requires c = (c.requires.0, subst (λ (x : Tale). Within c.args.place x.text) (sym (of-named _ _ _ _ _ _ _ _ _ c.from.ensures)) c.requires.1)

pub returns : goal.returns
returns c = shows-as (of-named _ _ _ _ _ _ _ _ _ c.from.ensures) c.show_one.ensures
