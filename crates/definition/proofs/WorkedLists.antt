-- THE WORKED LISTS, over points: computed over boxes and ends, and carried to points by the law that both judge alike.
use mathlib.Core.Path.{◌≡◌, refl, ◌∙◌}
use mathlib.Core.Bool.{true}
use mathlib.Core.List.{flat_map}
use Rattle.laws.specs.Lists.{All, from, first_of, every, any_of, any_pair, first_index, count, keep, distinct}
use Rattle.laws.specs.Tests.{same_list}
use Rattle.laws.proofs.Lists.{All-map}
use Rattle.grid.specs.Group.{points_of, somewhere}
use Rattle.grid.specs.Cut.{cut_at, cuts, between, intervals, boxes}
use Rattle.definition.specs.Field.{field, no_bits, ◌then◌, via, tagged, several}
use Rattle.definition.specs.Sheet.{form1, sheet_limits, weekday_of, week_day_range, time_of, time, repeats_of, repeats_layout, span, title, counts, head, body, rule, opening, rules}
use Rattle.definition.specs.Range.{split, ranges}
use Rattle.definition.specs.Point.{selector, combinations, after, list_from}
use Rattle.definition.specs.Lists.{indexes_from, too_long}
use Rattle.definition.specs.Box.{box_count}
use Rattle.definition.specs.Fold.{judged}
use Rattle.definition.specs.OverBoxes.{overlaps_over_ends, first_overlap_over_ends, list_count_over_boxes, first_refused_over_boxes, drain_over_boxes}
use Rattle.definition.specs.WorkedLists.{Case, Worked, cases, Limit}
use Rattle.definition.proofs.Lawful.{rules-lawful}
use Rattle.definition.proofs.FoldBox.{drain-boxes}

abbrev Computed : Case → Type 0
Computed c = (drain_over_boxes c.limits c.rules ≡ c.judgement) × ((rules form1 sheet_limits).fits c.rules ≡ true)

computed : All Computed cases
unfolding flat_map from first_of every any_of any_pair first_index count keep distinct same_list points_of somewhere cut_at cuts between intervals boxes field no_bits ◌then◌ via
    tagged several weekday_of week_day_range time_of time repeats_of repeats_layout span title counts head body rule opening rules split ranges selector combinations after list_from indexes_from too_long
    box_count judged overlaps_over_ends first_overlap_over_ends list_count_over_boxes first_refused_over_boxes drain_over_boxes
computed =
    ((refl, refl), ((refl, refl), ((refl, refl), ((refl, refl), ((refl, refl), ((refl, refl), ((refl, refl), ((refl, refl), ((refl, refl), ((refl, refl), ((refl, refl), ((refl, refl), ((refl, refl), ((refl, refl), ((refl, refl), ((refl, refl), tt))))))))))))))))

pub worked : All Worked cases
worked = All-map {P = Computed} (λ c k. drain-boxes c.rules (rules-lawful form1 sheet_limits c.rules k.1) c.limits ∙ k.0) cases computed

pub limit : Limit
limit = record { stands = λ k. refl; passed = λ k. refl }
