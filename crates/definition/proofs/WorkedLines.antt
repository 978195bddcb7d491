-- THE WORKED LINES, computed from bytes to bytes.
use mathlib.Core.Path.{◌≡◌, refl}
use mathlib.Core.List.{flat_map}
use mathlib.Core.Bool.{Bool, true, ◌&&◌}
use lib.Dec.{eqb}
use Rattle.laws.specs.Lists.{every, any_of, first_index, All}
use Rattle.laws.specs.Tests.{same_list}
use Rattle.laws.proofs.Flags.{split-and}
use Rattle.laws.proofs.Lists.{every-all}
use Rattle.laws.proofs.Tests.{exact-eqb, exact-list}
use Rattle.definition.specs.Field.{bits, number, sheet_bits, bytes, field_at, read_field, read_all, field, no_bits, ◌then◌ as ◌then_bits◌, via, tagged, several as several_bits}
use Rattle.definition.specs.Sheet.{form1, sheet_limits, year_range, monthday_of, monthday_range, week_range, weekday_of, week_day_range, time_of, time, repeats_of, repeats_layout, span, title, counts, head, body, rule, opening, rules, first_set, ended, decode}
use Rattle.definition.specs.Fold.{Written, written_numbers, written_into}
use Rattle.definition.specs.Text.{ascii, digits, decimal_in, word, padded, plain, named, ◌then◌, of, unless, only, several}
use Rattle.definition.specs.Line.{item, year_text, week_text, month_text, weekday_text, clock, span_text, state_text, part, rule_text, line_of, line}
use Rattle.definition.specs.Show.{wordless, first_wordless, show_rules, show_line}
use Rattle.definition.specs.WorkedLines.{Case, Worked, cases}

abbrev answer : Case → Written
answer c = show_line form1 sheet_limits c.room c.sheet

agrees : Case → Bool
agrees c = same_list eqb (written_numbers (answer c)) c.answer && same_list eqb (answer c).result c.shown

computed : every agrees cases ≡ true
unfolding agrees flat_map every any_of same_list bits number sheet_bits bytes field_at read_field read_all field no_bits ◌then_bits◌ via tagged several_bits
    year_range monthday_of monthday_range week_range weekday_of week_day_range time_of time repeats_of repeats_layout span title counts head body rule opening rules
    first_set ended decode
    ascii digits decimal_in word padded plain named ◌then◌ of unless only several
    item year_text week_text month_text weekday_text clock span_text state_text part rule_text line_of line first_index wordless first_wordless written_into
    show_rules show_line
computed = refl

-- each answer as its case says
pub worked : All Worked cases
unfolding agrees
worked = every-all Worked agrees each cases computed
  where
    each : (c : Case) → agrees c ≡ true → Worked c
    each c h =
        let k = split-and (same_list eqb (written_numbers (answer c)) c.answer) (same_list eqb (answer c).result c.shown) h in
        ((exact-list exact-eqb).equal _ _ k.0, (exact-list exact-eqb).equal _ _ k.1)
