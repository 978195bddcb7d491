-- THE WORKED DAYS AND OVERLAPS, over points: computed over boxes and ends, and carried to points by the law that both folds are the same.
use mathlib.Core.Path.{◌≡◌, refl, ap, ◌∙◌}
use mathlib.Core.List.{List, [], ◌∷◌, flat_map}
use mathlib.Core.Bool.{Bool, true, ◌&&◌}
use Prim.Native.Nat.{ℕ, ◌<◌}
use lib.Dec.{eqb, ltb}
use borrow.Author.Tests.{ltb-true}
use Rattle.laws.proofs.Flags.{split-and}
use Rattle.laws.proofs.Lists.{every-all}
use Rattle.laws.proofs.Tests.{exact-eqb, exact-list}
use Rattle.laws.specs.Lists.{All, from, first_of, every, any_of, any_pair, first_index, count, keep, distinct}
use Rattle.laws.specs.Tests.{same_list, same_option}
use Rattle.grid.specs.Group.{size, points_of, somewhere, agree, grow, pop, clear, take_out, sweep_for, sweep, groups}
use Rattle.grid.specs.Cut.{cut_at, cuts, between, intervals, boxes, glue, joined}
use Rattle.definition.specs.Field.{bits, number, sheet_bits, bytes, packed, field_at, read_field, read_all, field, no_bits, ◌then◌, via, tagged, several}
use Rattle.definition.specs.Rule.{not_above, insert_span, sorted, same_time}
use Rattle.definition.specs.Sheet.{year_range, monthday_of, monthday_range, week_range, weekday_of, week_day_range, time_of, time, repeats_of, repeats_layout, span, title, counts, head, body, rule, opening, rules, first_set, ended, decode, encode}
use Rattle.definition.specs.Range.{split, ranges}
use Rattle.definition.specs.Stop.{stops, first_that_applies, reason, drained, left, why}
use Rattle.definition.specs.Point.{selector, combinations, after, list_from}
use Rattle.definition.specs.Lists.{indexes_from, too_long}
use Rattle.definition.specs.Box.{box_count}
use Rattle.definition.specs.Day.{simple, flattened, run_of, after_run, painting, join_group, by_state, grouped, last_over}
use Rattle.definition.specs.Group.{items_of, laid_over, rules_of}
use Rattle.definition.specs.OverBoxes.{painted_over_intervals, day_over_intervals, overlaps_over_ends, first_overlap_over_ends, list_count_over_boxes, first_refused_over_boxes, drain_over_boxes, pages_over_boxes, folded_over_boxes, fold_over_boxes}
use Rattle.definition.specs.Sheet.{form1, sheet_limits}
use Rattle.definition.specs.Fold.{numbers, judged, many_items, passes_counts, fitted, carried, fold_rules}
use Rattle.definition.specs.Worked.{Case, cases, room, Worked}
use Rattle.definition.specs.WorkedOverlaps.{overlap_cases}
use Rattle.definition.proofs.Bits.{Bytes}
use Rattle.definition.proofs.FoldBox.{fold-boxes}

-- does the fold over boxes give what the case says, and is the sheet bytes?
agrees : Case → Bool
agrees c =
    let f = fold_over_boxes form1 sheet_limits room c.sheet in
    same_list eqb (numbers f) c.answer && (same_list eqb f.result c.written && every (λ b. ltb b 256) c.sheet)

computed : (every agrees cases ≡ true) × (every agrees overlap_cases ≡ true)
unfolding agrees flat_map from first_of every any_of any_pair first_index count keep distinct same_list same_option size points_of somewhere agree grow pop clear take_out sweep_for sweep groups
    cut_at cuts between intervals boxes glue joined bits number sheet_bits bytes packed field_at read_field read_all field no_bits ◌then◌ via tagged several
    not_above insert_span sorted same_time year_range monthday_of monthday_range week_range weekday_of week_day_range time_of time repeats_of repeats_layout span
    title counts head body rule opening rules first_set ended decode encode split ranges stops first_that_applies reason drained left why selector combinations after list_from indexes_from too_long box_count
    simple flattened run_of after_run painting join_group by_state grouped last_over items_of laid_over rules_of judged many_items passes_counts fitted carried fold_rules painted_over_intervals
    day_over_intervals overlaps_over_ends first_overlap_over_ends list_count_over_boxes first_refused_over_boxes drain_over_boxes pages_over_boxes folded_over_boxes fold_over_boxes
computed = (refl, refl)

pub are-bytes : (s : List ℕ) → every (λ b. ltb b 256) s ≡ true → Bytes s
are-bytes = every-all (λ b. b < 256) (λ b. ltb b 256) (λ b. ltb-true b 256)

each : (cs : List Case) → every agrees cs ≡ true → All Worked cs
unfolding every agrees
each [] h = tt
each (c ∷ cs) h =
    let f = fold_over_boxes form1 sheet_limits room c.sheet in
    let k = split-and (agrees c) (every agrees cs) h in
    let a = split-and (same_list eqb (numbers f) c.answer) (same_list eqb f.result c.written && every (λ b. ltb b 256) c.sheet) k.0 in
    let b = split-and (same_list eqb f.result c.written) (every (λ b. ltb b 256) c.sheet) a.1 in
    let e = fold-boxes form1 sheet_limits room c.sheet (are-bytes c.sheet b.1) in
    ((ap numbers e ∙ (exact-list exact-eqb).equal _ _ a.0, ap (λ g. g.result) e ∙ (exact-list exact-eqb).equal _ _ b.0), each cs k.1)

-- P
pub worked : All Worked cases
worked = each cases computed.0

-- and 02's overlaps
pub worked-overlaps : All Worked overlap_cases
worked-overlaps = each overlap_cases computed.1
