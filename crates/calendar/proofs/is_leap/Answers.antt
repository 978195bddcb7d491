-- `calendar::is_leap` meets its contract: the code's tests are those of `is_leap`, in its order.
use borrow.Author.Tests.{eq-eqb, ne_eqb}
use Rattle.definition.specs.Date.{is_leap}
use Rattle.calendar.proofs.is_leap.Goals as goal

pub returns-then-year-ne0 : goal.returns-then-year-ne0
unfolding is_leap
returns-then-year-ne0 c = simp (eq-eqb _ _ c.if-year-eq0.true, ne_eqb _ _ c.if-year-ne0.true)

pub returns-else-year-ne0 : goal.returns-else-year-ne0
unfolding is_leap
returns-else-year-ne0 c = simp (eq-eqb _ _ c.if-year-eq0.true, eq-eqb _ _ c.if-year-ne0.false)

pub returns-else-year-eq0 : goal.returns-else-year-eq0
unfolding is_leap
returns-else-year-eq0 c = simp (ne_eqb _ _ c.if-year-eq0.false)
