-- `stopping::part::number_at` meets its contract, sort by sort.
use mathlib.Core.Path.{sym, ap, ◌∙◌}
use Prim.Native.Nat.{ℕ}
use Rattle.answers.specs.Refusal.{read_as}
use Rattle.item.specs.Sort.{of_sort}
use Rattle.stopping.specs.Part.{found, reasoned, year_reason, monthday_reason, week_reason, weekday_reason, span_reason}
use Rattle.sheet.proofs.Ends.{fails_on}
use Rattle.stopping.proofs.part.number_at.Goals as goal

pub returns-in_err-years-in-Years : goal.returns-in_err-years-in-Years
unfolding of_sort
returns-in_err-years-in-Years c =
    fails_on (λ r. reasoned (λ n. n) c.args.at (read_as {A = ℕ} (λ n. n) r)) _ _ _ c.from_residual.ensures.1
    (sym (rw c.in-Years.is (ap (reasoned year_reason c.args.at) c.in_err-years-in-Years.ensures)))

pub returns-in_ok-years-in-Years : goal.returns-in_ok-years-in-Years
unfolding of_sort
returns-in_ok-years-in-Years c =
    ap (λ n. found n c.in_ok-years-in-Years.next) c.of_steps.ensures ∙ rw c.in-Years.is (ap (reasoned year_reason c.args.at) c.in_ok-years-in-Years.ensures)

pub returns-in_err-monthday-in-Monthdays : goal.returns-in_err-monthday-in-Monthdays
unfolding of_sort
returns-in_err-monthday-in-Monthdays c =
    fails_on (λ r. reasoned (λ n. n) c.args.at (read_as {A = ℕ} (λ n. n) r)) _ _ _ c.from_residual-in_err-monthday-in-Monthdays.ensures.1
    (sym (rw c.in-Monthdays.is (ap (reasoned monthday_reason c.args.at) c.in_err-monthday-in-Monthdays.ensures)))

pub returns-in_ok-monthday-in-Monthdays : goal.returns-in_ok-monthday-in-Monthdays
unfolding of_sort
returns-in_ok-monthday-in-Monthdays c =
    ap (λ n. found n c.in_ok-monthday-in-Monthdays.next) c.of_monthday.ensures ∙ rw c.in-Monthdays.is (ap (reasoned monthday_reason c.args.at) c.in_ok-monthday-in-Monthdays.ensures)

pub returns-in_err-weeks-in-Weeks : goal.returns-in_err-weeks-in-Weeks
unfolding of_sort
returns-in_err-weeks-in-Weeks c =
    fails_on (λ r. reasoned (λ n. n) c.args.at (read_as {A = ℕ} (λ n. n) r)) _ _ _ c.from_residual-in_err-weeks-in-Weeks.ensures.1
    (sym (rw c.in-Weeks.is (ap (reasoned week_reason c.args.at) c.in_err-weeks-in-Weeks.ensures)))

pub returns-in_ok-weeks-in-Weeks : goal.returns-in_ok-weeks-in-Weeks
unfolding of_sort
returns-in_ok-weeks-in-Weeks c =
    ap (λ n. found n c.in_ok-weeks-in-Weeks.next) c.of_steps-in-Weeks.ensures ∙ rw c.in-Weeks.is (ap (reasoned week_reason c.args.at) c.in_ok-weeks-in-Weeks.ensures)

pub returns-in_err-weekday-in-Weekdays : goal.returns-in_err-weekday-in-Weekdays
unfolding of_sort
returns-in_err-weekday-in-Weekdays c =
    fails_on (λ r. reasoned (λ n. n) c.args.at (read_as {A = ℕ} (λ n. n) r)) _ _ _ c.from_residual-in_err-weekday-in-Weekdays.ensures.1
    (sym (rw c.in-Weekdays.is (ap (reasoned weekday_reason c.args.at) c.in_err-weekday-in-Weekdays.ensures)))

pub returns-in_ok-weekday-in-Weekdays : goal.returns-in_ok-weekday-in-Weekdays
unfolding of_sort
returns-in_ok-weekday-in-Weekdays c =
    ap (λ n. found n c.in_ok-weekday-in-Weekdays.next) c.of_weekday.ensures ∙ rw c.in-Weekdays.is (ap (reasoned weekday_reason c.args.at) c.in_ok-weekday-in-Weekdays.ensures)

pub returns-in_err-span-in-Spans : goal.returns-in_err-span-in-Spans
unfolding of_sort
returns-in_err-span-in-Spans c =
    fails_on (λ r. reasoned (λ n. n) c.args.at (read_as {A = ℕ} (λ n. n) r)) _ _ _ c.from_residual-in_err-span-in-Spans.ensures.1
    (sym (rw c.in-Spans.is (ap (reasoned span_reason c.args.at) c.in_err-span-in-Spans.ensures)))

pub returns-in_ok-span-in-Spans : goal.returns-in_ok-span-in-Spans
unfolding of_sort
returns-in_ok-span-in-Spans c =
    ap (λ n. found n c.in_ok-span-in-Spans.next) c.of_span.ensures ∙ rw c.in-Spans.is (ap (reasoned span_reason c.args.at) c.in_ok-span-in-Spans.ensures)
