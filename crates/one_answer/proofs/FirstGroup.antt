-- A PROGRAM THAT EMITS THE FIRST GROUP ONLY IS SHUT OUT by P2, whose first group has one rule and whose fold has two.
use mathlib.Core.Path.{◌≡◌, refl, sym, ap, ◌∙◌}
use mathlib.Core.List.{List, flat_map}
use mathlib.Core.Bool.{true}
use Prim.Native.Nat.{ℕ, ◌<◌}
use native.Mathlib.Omega.{arith}
use borrow.Author.Tests.{ltb-true}
use lib.Dec.{ltb}
use lib.ListN.{length, take, get_or}
use Rattle.laws.proofs.Lists.{every-all}
use Rattle.laws.specs.Lists.{from, first_of, every, any_of, count, keep}
use Rattle.laws.specs.Tests.{same_list, same_option}
use Rattle.grid.specs.Group.{size, somewhere, agree, grow, pop, clear, take_out, sweep_for, sweep, groups}
use Rattle.grid.specs.Cut.{cut_at, cuts, between, intervals, boxes, glue, joined}
use Rattle.definition.specs.Field.{Read, got, refused, bits, number, sheet_bits, bytes, field_at, read_field, read_all, field, no_bits, ◌then◌, via, tagged, several}
use Rattle.definition.specs.Rule.{Rule, not_above, insert_span, sorted, same_time}
use Rattle.definition.specs.Sheet.{form1, sheet_limits, year_range, monthday_of, monthday_range, week_range, weekday_of, week_day_range, time_of, time, repeats_of, repeats_layout, span, title, counts, head, body, rule, opening, rules, first_set, ended, decode}
use Rattle.definition.specs.Range.{split, ranges}
use Rattle.definition.specs.Stop.{stops, drained}
use Rattle.definition.specs.Point.{selector, combinations, after, list_from}
use Rattle.definition.specs.Day.{simple, flattened, run_of, after_run, painting, join_group, by_state, grouped, last_over}
use Rattle.definition.specs.Group.{items_of, laid_over, rules_of, pages}
use Rattle.definition.specs.OverBoxes.{painted_over_intervals, day_over_intervals, pages_over_boxes}
use Rattle.definition.specs.Worked.{p2, room}
use Rattle.definition.proofs.Lawful.{Lawful, rules-lawful}
use Rattle.definition.proofs.SheetRead.{encode-decoded}
use Rattle.definition.proofs.FoldBox.{drained-all, pages-boxes}
use Rattle.definition.proofs.Worked.{worked}
use Rattle.promises.specs.Conditions.{Accepted}
use Rattle.promises.proofs.Counts.{accepted-counts}
use Rattle.one_answer.specs.ShutOut.{Program, KeepsPromise, FirstGroupOnly}
use Rattle.one_answer.proofs.ShutOut.{p2-answered}

-- how many rules the first group of a reading has, over boxes
abbrev first_group : Read (List Rule) → ℕ
first_group (got rs q) = length (flat_map rules_of (take 1 (pages_over_boxes (drained rs))))
first_group (refused c p) = 0

computed : first_group (decode form1 sheet_limits p2.sheet) ≡ 1
unfolding flat_map from first_of every any_of count keep same_list same_option size somewhere agree grow pop clear take_out sweep_for sweep groups
    cut_at cuts between intervals boxes glue joined bits number sheet_bits bytes field_at read_field read_all field no_bits ◌then◌ via tagged several
    not_above insert_span sorted same_time year_range monthday_of monthday_range week_range weekday_of week_day_range time_of time repeats_of repeats_layout span
    title counts head body rule opening rules first_set ended decode split ranges stops drained selector combinations after list_from
    simple flattened run_of after_run painting join_group by_state grouped last_over items_of laid_over rules_of painted_over_intervals day_over_intervals pages_over_boxes
computed = refl

p2-bytes : every (λ b. ltb b 256) p2.sheet ≡ true
unfolding every bits number bytes
p2-bytes = refl

-- over points
p2-first-group : (rs : List Rule) → Accepted form1 sheet_limits p2.sheet rs → length (flat_map rules_of (take 1 (pages (drained rs)))) ≡ 1
p2-first-group rs a =
    let are-bytes = every-all (λ b. b < 256) (λ b. ltb b 256) (λ b. ltb-true b 256) p2.sheet p2-bytes in
    let lawful = drained-all Lawful rs (rules-lawful form1 sheet_limits rs (encode-decoded form1 sheet_limits p2.sheet are-bytes rs a.0 a.1).0) in
    ap (λ gs. length (flat_map rules_of (take 1 gs))) (pages-boxes (drained rs) lawful) ∙ ap first_group (sym a.1) ∙ computed

pub no-first-group-only : (program : Program) (out : List ℕ) → length out ≡ room → KeepsPromise program out → FirstGroupOnly program → ⊥
no-first-group-only program out roomy kept h =
    let rules = accepted-counts form1 sheet_limits room p2.sheet (ap (λ l. get_or l 0 0) worked.1.0.0) in
    let two : (program p2.sheet).0.emitted ≡ 2 = ap (λ l. get_or l 2 0) (p2-answered program out roomy kept) in
    omega (arith, h p2.sheet rules.0 rules.1, p2-first-group rules.0 rules.1, two)
