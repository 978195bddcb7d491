-- `calendar::new_year` meets its contract. The computed test: the table's 400 entries are `cycle`, which steps by the rule. The lemma:
-- `cycle-new-year`, that the cycle has every year's.
use Rattle.definition.specs.Date.{is_leap}
use Rattle.calendar.proofs.NewYear.{stepped, cycle, cycle-new-year}
use Rattle.calendar.proofs.new_year.Goals as goal

pub returns : goal.returns
unfolding cycle stepped is_leap
returns c = cycle-new-year c.args.year c.requires
