-- THE WORKED COUNTS, computed.
use mathlib.Core.Path.{refl}
use mathlib.Core.List.{flat_map}
use Rattle.laws.specs.Lists.{All, any_of}
use Rattle.definition.specs.Field.{bits, number, bytes, packed, field, ◌then◌, via, tagged, several}
use Rattle.definition.specs.Sheet.{year_range, title, counts, head, body, rule, opening, rules, encode}
use Rattle.definition.specs.Stop.{stops, drained, left}
use Rattle.definition.specs.Fold.{many_items, passes_counts, fitted, carried, fold_rules}
use Rattle.definition.specs.WorkedCounts.{Worked, cases, Answers}

pub worked : All Worked cases
unfolding any_of many_items passes_counts
worked = (refl, (refl, (refl, (refl, (refl, (refl, (refl, (refl, tt))))))))

pub answers : Answers
unfolding any_of flat_map bits number bytes packed field ◌then◌ via tagged several year_range title counts head body rule opening rules encode stops drained left
    many_items passes_counts fitted carried fold_rules
answers = record { items-past = refl; items-fit = refl; left-counted = refl }
