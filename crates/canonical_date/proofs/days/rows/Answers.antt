-- `canonical_date::days::rows` meets its contract.
use mathlib.Core.Path.{◌≡◌, ap, ◌∙◌}
use Prim.Native.Nat.{◌+◌, ◌*◌, ◌-◌, ◌≤◌}
use native.Mathlib.Omega.{arith}
use lib.ListN.{length}
use Rattle.definition.specs.Field.{sheet_bits}
use Rattle.definition.proofs.Reading.{field_end}
use Rattle.forms.specs.Form.{as_form}
use Rattle.forms.proofs.Numbers.{narrow}
use Rattle.field.proofs.Bytes.{known_bytes}
use Rattle.canonical_date.specs.Row.{flat, items_end, row_ranges}
use Rattle.canonical_date.specs.Days.{loaded, days_of}
use Rattle.canonical_date.proofs.Flat.{flat-length}
use Rattle.canonical_date.proofs.Saying.{ok-got, ok-refused}
use Rattle.canonical_date.proofs.DayRows.{answered-some, answered-none, items-short, row-few, count-few, rows-refused, rows_end, rows-stop, rows-go}
use Rattle.canonical_date.proofs.days.rows.Goals as goal

pub loop-sort-init : goal.loop-sort-init
loop-sort-init c = record { counted = omega arith; near = omega arith; loads = λ l k r o. o }

pub count_at-requires : goal.count_at-requires
count_at-requires c = omega (arith, c.loop-sort.invariant.counted, c.requires.0)

pub returns-in_err-count : goal.returns-in_err-count
returns-in_err-count c =
    let read = ok-refused (λ n. n) c.count_at.result c.count_at.ensures c.in_err-count.ensures.value in
    ap (λ r. loaded c.loop-sort.ranges c.loop-sort.range_counts (days_of r)) c.from_residual.ensures
    ∙ c.loop-sort.invariant.loads _ _ _ (rows-refused _ _ _ _ _ _ _ _ _ _ read.1.1)

pub row_at-requires : goal.row_at-requires
row_at-requires c =
    let few = count-few (as_form c.args.form) _ _ _ _ (ok-got (λ n. n) c.count_at.result _ _ c.count_at.ensures c.in_ok-count.ensures.value) in
    (omega (arith, c.loop-sort.invariant.near, c.requires.1), omega arith, few, omega (arith, c.requires.2))

pub returns-in_err-row : goal.returns-in_err-row
returns-in_err-row c =
    let old = c.loop-sort in
    ap (λ r. loaded c.row_at.new.ranges old.range_counts (days_of r)) c.from_residual-in_err-row.ensures
    ∙ old.invariant.loads _ _ _
    (rows-stop _ _ _ _ _ _ _ _ (3 - old.sort) _ _ _ (omega arith) (ok-got (λ n. n) c.count_at.result _ _ c.count_at.ensures c.in_ok-count.ensures.value)
    (answered-none _ _ c.in_err-row.ensures.0) c.in_err-row.ensures.1)

pub ranges_before-requires : goal.ranges_before-requires
ranges_before-requires c =
    let old = c.loop-sort in
    let s = c.args.sheet.now in
    let n = c.in_ok-count.count in
    let R = row_ranges old.sort n (sheet_bits s) old.at in
    let few = row-few old.sort s (known_bytes s (λ j. omega (arith, c.type_inv.sheet j))) n old.at
    (count-few (as_form c.args.form) _ _ _ _ (ok-got (λ n. n) c.count_at.result _ _ c.count_at.ensures c.in_ok-count.ensures.value)) in
    let place : c.in_ok-row.row.place ≡ old.sort * 64 + length (flat R) = (answered-some _ (items_end old.sort n (sheet_bits s) old.at) _ _ c.in_ok-row.ensures.0).1 in
    let double = flat-length R in
    (omega arith, omega (arith, place), omega (arith, place, few, double))

pub loop-sort-preserved : goal.loop-sort-preserved
loop-sort-preserved c =
    let old = c.loop-sort in
    let args = c.args in
    let s = args.sheet.now in
    let n = c.in_ok-count.count in
    let read = ok-got (λ n. n) c.count_at.result _ _ c.count_at.ensures c.in_ok-count.ensures.value in
    let few : n ≤ 16 = count-few (as_form args.form) _ _ _ _ read in
    let behind = field_end _ _ _ _ _ _ _ read in
    let answer = answered-some _ _ _ _ c.in_ok-row.ensures.0 in
    let short : c.in_ok-row.row.next ≤ old.at + n * 52 =
    items-short old.sort s (known_bytes s (λ j. omega (arith, c.type_inv.sheet j))) _ _ _ answer.0 in record {
      counted = omega (arith, old.invariant.counted, behind, (narrow args.form).head-narrow);
      near = omega (arith, old.invariant.near, short, few);
      loads = λ l k r o. old.invariant.loads l k r
          (rows-go _ _ _ _ _ _ _ _ _ _ _ _ _ _ _ _ _ _ (omega arith) read answer.0
          c.in_ok-row.ensures.1 answer.1 c.ranges_before.ensures o);
    }

pub count_at-requires-2 : goal.count_at-requires-2
count_at-requires-2 c = omega (arith, c.loop-sort.invariant.counted, c.requires.0)

pub returns-in_err-count-2 : goal.returns-in_err-count-2
returns-in_err-count-2 c =
    let read = ok-refused (λ n. n) c.count_at-2.result c.count_at-2.ensures c.in_err-count-2.ensures.value in
    ap (λ r. loaded c.loop-sort.ranges c.loop-sort.range_counts (days_of r)) c.from_residual-in_err-count-2.ensures
    ∙ c.loop-sort.invariant.loads _ _ _ (rows-refused _ _ _ _ _ _ _ _ _ _ read.1.1)

pub returns : goal.returns
returns c =
    c.loop-sort.invariant.loads _ _ _
    (rows_end _ _ _ _ _ _ _ _ _ _ (omega arith) (ok-got (λ n. n) c.count_at-2.result _ _ c.count_at-2.ensures c.in_ok-count-2.ensures.value))
