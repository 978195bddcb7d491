-- `line::measure` meets its contract: what is put into the buffer of one byte is as long as the line.
use borrow.Author.Rules.{rules}
use Rattle.line.proofs.Answers.{lines-measured}
use Rattle.line.proofs.measure.Goals as goal

pub returns : goal.returns
returns c =
    lines-measured _ _ _ _ _ _ c.show_rules.result c.show_rules.ensures
