-- THE WORKED FORMS, over points: computed, the fold over boxes and ends, and carried to points by the law that both folds are the same.
use mathlib.Core.Path.{◌≡◌, refl, ap, ◌∙◌}
use mathlib.Core.List.{List, flat_map}
use mathlib.Core.Option.{Option, none, some}
use mathlib.Core.Bool.{Bool, true, ◌&&◌}
use Prim.Native.Nat.{ℕ}
use lib.Dec.{eqb, ltb}
use Rattle.laws.proofs.Flags.{split-and}
use Rattle.laws.proofs.Lists.{every-all}
use Rattle.laws.proofs.Tests.{exact-eqb, exact-list, exact-pair}
use Rattle.laws.specs.Lists.{All, from, first_of, every, any_of, any_pair, first_index, count, keep, distinct}
use Rattle.laws.specs.Tests.{same_list, same_pair, same_option}
use Rattle.grid.specs.Group.{size, points_of, somewhere, agree, grow, pop, clear, take_out, sweep_for, sweep, groups}
use Rattle.grid.specs.Cut.{cut_at, cuts, between, intervals, boxes, glue, joined}
use Rattle.definition.specs.Field.{bits, number, sheet_bits, bytes, packed, unlawful, field_at, read_field, read_all, field, no_bits, ◌then◌ as ◌then_bits◌, via, tagged, several as several_bits}
use Rattle.definition.specs.Rule.{same_time}
use Rattle.definition.specs.Sheet.{Form, sheet_limits, weekday_of, week_day_range, time_of, time, repeats_of, repeats_layout, span, title, counts, head, body, rule, opening, rules, first_set, ended, decode, encode}
use Rattle.definition.specs.Range.{split, ranges}
use Rattle.definition.specs.Stop.{stops, drained, left, why}
use Rattle.definition.specs.Point.{selector, combinations, after, list_from}
use Rattle.definition.specs.Lists.{indexes_from, too_long}
use Rattle.definition.specs.Box.{box_count}
use Rattle.definition.specs.Day.{simple, flattened, painting, grouped, last_over}
use Rattle.definition.specs.Group.{items_of, laid_over, rules_of}
use Rattle.definition.specs.OverBoxes.{painted_over_intervals, day_over_intervals, overlaps_over_ends, first_overlap_over_ends, list_count_over_boxes, first_refused_over_boxes, drain_over_boxes, pages_over_boxes, folded_over_boxes, fold_over_boxes}
use Rattle.definition.specs.Fold.{Folded, numbers, refusal, written_into, judged, many_items, passes_counts, fitted, carried, fold_rules, fold, write_back}
use Rattle.definition.specs.Lookup.{lookup}
use Rattle.definition.specs.Text.{ascii, digits, decimal_in, word, padded, plain, named, ◌then◌, of, unless, only, several}
use Rattle.definition.specs.Line.{item, weekday_text, clock, span_text, state_text, part, rule_text, line_of, line}
use Rattle.definition.specs.Show.{wordless, first_wordless, show_rules, show_line}
use Rattle.definition.specs.Forms.{first_long_comment, convert_rules, convert, form_named, in_form, fold_in, write_back_in, show_line_in, lookup_in, convert_in}
use Rattle.definition.specs.Worked.{room}
use Rattle.definition.specs.WorkedForms.{Entry, folding, writing_back, showing, looking_up, converting, answered, Case, Worked, cases}
use Rattle.definition.proofs.Bits.{Bytes}
use Rattle.definition.proofs.FoldBox.{fold-boxes}
use Rattle.definition.proofs.Worked.{are-bytes}

-- ## The fold over boxes, by the caller's number
fold_in_boxes : ℕ → List ℕ → Folded
fold_in_boxes n sheet = in_form refusal (λ form. fold_over_boxes form sheet_limits room sheet) n

in-boxes : (n : ℕ) (sheet : List ℕ) → Bytes sheet → fold_in sheet_limits n room sheet ≡ fold_in_boxes n sheet
unfolding fold_in fold_in_boxes in_form
in-boxes n sheet whole = go (form_named n)
  where
    named-or : (Form → Folded) → Option Form → Folded
    named-or entry o = elim o [ none ↦ refusal unlawful 0 | some form ↦ entry form ]

    go : (o : Option Form) → named-or (λ form. fold form sheet_limits room sheet) o ≡ named-or (λ form. fold_over_boxes form sheet_limits room sheet) o
    go none = refl
    go (some form) = fold-boxes form sheet_limits room sheet whole

-- ## Computed
computes : Entry → ℕ → List ℕ → List ℕ × List ℕ
computes folding n sheet = let f = fold_in_boxes n sheet in (numbers f, f.result)
computes writing_back n sheet = answered writing_back n sheet
computes showing n sheet = answered showing n sheet
computes looking_up n sheet = answered looking_up n sheet
computes converting n sheet = answered converting n sheet

-- does it give what the case says, and is the sheet bytes?
agrees : Case → Bool
agrees c = same_pair (same_list eqb) (same_list eqb) (computes c.entry c.form c.sheet) (c.answer, c.written) && every (λ b. ltb b 256) c.sheet

computed : every agrees cases ≡ true
unfolding agrees computes fold_in_boxes flat_map from first_of every any_of any_pair first_index count keep distinct same_list same_option size points_of somewhere agree grow pop clear
    take_out sweep_for sweep groups cut_at cuts between intervals boxes glue joined bits number sheet_bits bytes packed field_at read_field read_all field no_bits
    ◌then_bits◌ via tagged several_bits same_time weekday_of week_day_range time_of time repeats_of repeats_layout span title counts head body rule opening rules
    first_set ended decode encode split ranges stops drained left why selector combinations after list_from indexes_from too_long box_count simple flattened painting grouped
    last_over items_of laid_over rules_of judged many_items passes_counts fitted carried fold_rules painted_over_intervals day_over_intervals overlaps_over_ends first_overlap_over_ends
    list_count_over_boxes first_refused_over_boxes drain_over_boxes pages_over_boxes folded_over_boxes fold_over_boxes ascii digits decimal_in word padded plain named ◌then◌ of unless only several item
    weekday_text clock span_text state_text part rule_text line_of line wordless first_wordless written_into show_rules show_line write_back lookup first_long_comment
    convert_rules convert form_named in_form write_back_in show_line_in lookup_in convert_in
computed = refl

-- ## Each answer as its case says
same_answer : (entry : Entry) (n : ℕ) (sheet : List ℕ) → Bytes sheet → answered entry n sheet ≡ computes entry n sheet
unfolding computes
same_answer folding n sheet whole = ap (λ f. (numbers f, f.result)) (in-boxes n sheet whole)
same_answer writing_back n sheet whole = refl
same_answer showing n sheet whole = refl
same_answer looking_up n sheet whole = refl
same_answer converting n sheet whole = refl

pub worked : All Worked cases
unfolding agrees
worked = every-all Worked agrees each cases computed
  where
    each : (c : Case) → agrees c ≡ true → Worked c
    each c h =
        let k = split-and (same_pair (same_list eqb) (same_list eqb) (computes c.entry c.form c.sheet) (c.answer, c.written)) _ h in
        same_answer c.entry c.form c.sheet (are-bytes c.sheet k.1)
        ∙ (exact-pair (exact-list exact-eqb) (exact-list exact-eqb)).equal _ _ k.0
