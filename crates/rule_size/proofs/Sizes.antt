-- How long what is written is: items of a sort, times, repeats, spans, rows and a whole rule.
use mathlib.Core.Path.{◌≡◌, refl, ap, ◌∙◌}
use mathlib.Core.List.{List, [], ◌∷◌, ◌++◌, map, flat_map}
use Prim.Native.Nat.{ℕ, ◌+◌, ◌*◌, ◌/◌, ◌%◌, ◌≤◌, ◌<◌, ◌^◌}
use native.Mathlib.Nat.{mul-le-mul_right}
use native.Mathlib.Omega.{arith}
use lib.ListN.{length, get_or, length-append}
use Rattle.definition.specs.Field.{bits, field, ◌then◌, via, tagged}
use Rattle.definition.specs.Range.{Ends}
use Rattle.definition.specs.Sheet.{year_range, monthday_of, monthday_range, week_range, time, repeats_layout, span, Form, sheet_limits, title_width, head_width, title, counts}
use Rattle.definition.proofs.Bits.{length-bits}
use Rattle.codes.specs.Number.{time_at, repeats_at, span_at}
use Rattle.item_writer.proofs.Items.{days-bits, fixed-bits, variable-bits, no-repeats, repeats-bits, span-bits}
use Rattle.rule_writer.specs.Rows.{item_bits, row_bits, rows_bits, title_of, counts_of}
use Rattle.tables.specs.Items.{ends_at, row_place}
use Rattle.rule_writer.specs.Written.{rule_bits}
use Rattle.rule_writer.proofs.Items.{as-years, as-months, as-weeks, as-weekdays}
use Rattle.rule_writer.proofs.Rows.{rows_none, rows_more, ends-length, row_inside, spans_from, spans-none, spans-more}
use Rattle.rule_writer.proofs.Laid.{rule-parts}

-- ## Fields
two : (u v a b : ℕ) → length (bits u a ++ bits v b) ≡ u + v
two u v a b = omega (arith, length-append (bits u a) (bits v b), length-bits u a, length-bits v b)

three : (u v w a b c : ℕ) → length (bits u a ++ (bits v b ++ bits w c)) ≡ u + v + w
three u v w a b c = omega (arith, length-append (bits u a) (bits v b ++ bits w c), length-bits u a, two v w b c)

-- ## Items
module _ (sort : ℕ) (e : Ends) where
  pub years-size : sort ≡ 0 → length (item_bits sort e) ≡ 44
  unfolding year_range via ◌then◌ field
  years-size k = ap length (as-years sort e k).0 ∙ three 14 14 16 e.0 e.1 1

  pub months-size : sort ≡ 1 → length (item_bits sort e) ≡ 10
  unfolding monthday_range monthday_of tagged via ◌then◌ field
  months-size k = ap length (as-months sort e k).0 ∙ three 2 4 4 0 e.0 e.1

  pub weeks-size : sort ≡ 2 → length (item_bits sort e) ≡ 20
  unfolding week_range via ◌then◌ field
  weeks-size k = ap length (as-weeks sort e k).0 ∙ three 6 6 8 e.0 e.1 1

  pub weekdays-size : 3 ≤ sort → length (item_bits sort e) ≡ 33
  weekdays-size k =
      ap length ((as-weekdays sort e k).0 ∙ days-bits e.0 e.1)
      ∙ omega (
        arith,
        length-append (bits 1 0 ++ (bits 3 e.0 ++ bits 3 e.1)) (bits 16 0 ++ (bits 5 31 ++ bits 5 31)),
        three 1 3 3 0 e.0 e.1,
        three 16 5 5 0 31 31,
      )

-- ## Rows
flat-size : {A B : Type 0} (f : A → List B) (n : ℕ) → ((x : A) → length (f x) ≡ n) → (xs : List A) → length (flat_map f xs) ≡ length xs * n
unfolding flat_map
flat-size f n h [] = let z : 0 ≡ 0 * n = omega arith in z
flat-size f n h (x ∷ xs) = omega (arith, length-append (f x) (flat_map f xs), h x, flat-size f n h xs)

-- a row's bits are few enough
pub row_low : (many n : ℕ) → many < 2 ^ 12 → n ≤ 44 → many * n ≤ 180224
row_low many n h k = let m : many ≤ 4096 = omega arith in omega (arith, mul-le-mul_right n m)

module _ (ends row_counts : List ℕ) where
  pub no_rows : (sort : ℕ) → sort ≡ 4 → length (rows_bits ends row_counts sort) ≡ 0
  no_rows sort e = ap length (rows_none ends row_counts sort e)

  pub rows-size : (sort many n behind : ℕ) → sort < 4 → row_place row_counts 4 ≤ length ends → many ≡ get_or row_counts sort 0
      → ((e : Ends) → length (item_bits sort e) ≡ n)
      → length (rows_bits ends row_counts (sort + 1)) ≡ behind → length (rows_bits ends row_counts sort) ≡ many * n + behind
  unfolding row_bits
  rows-size sort many n behind l h e k b =
      let es = ends_at ends (row_place row_counts sort) many in
      let inside : row_place row_counts sort + 2 * many ≤ length ends = omega (arith, row_inside ends row_counts sort l h) in
      let long : length es * n ≡ many * n = ap (◌* n) (ends-length many ends (row_place row_counts sort) inside) in
      ap length (rows_more ends row_counts sort many (row_place row_counts sort) l e refl)
      ∙ omega (arith, length-append (flat_map (item_bits sort) es) (rows_bits ends row_counts (sort + 1)), flat-size (item_bits sort) n k es, long, b)

-- ## Times and spans
module _ (n : ℕ) where
  pub fixed-size : n < 262144 → length (time.write (time_at n)) ≡ 13
  fixed-size h = ap length (fixed-bits n h) ∙ two 1 12 0 n

  pub variable-size : 262144 ≤ n → length (time.write (time_at n)) ≡ 19
  variable-size h = ap length (variable-bits n h) ∙ three 1 2 16 1 _ _

  no-repeats-size : n ≡ 0 → length (repeats_layout.write (repeats_at n)) ≡ 1
  no-repeats-size e = ap length (no-repeats n e) ∙ length-bits 1 0

  repeats-size : (n ≡ 0 → ⊥) → length (repeats_layout.write (repeats_at n)) ≡ 13
  repeats-size some = ap length (repeats-bits n some) ∙ two 1 12 1 _

module _ (n s e : ℕ) (starts : s ≡ n / 8589934592) (ends : e ≡ n / 16384 % 524288) (a b : ℕ) (first : length (time.write (time_at s)) ≡ a)
    (second : length (time.write (time_at e)) ≡ b) where
  span-size : (c : ℕ) → length (repeats_layout.write (repeats_at (n % 8192))) ≡ c → length (span.write (span_at n)) ≡ a + b + 1 + c
  span-size c k =
      ap length (span-bits n s e starts ends)
      ∙ omega (
        arith,
        length-append (time.write (time_at s)) (time.write (time_at e) ++ (bits 1 (n / 8192 % 2) ++ repeats_layout.write (repeats_at (n % 8192)))),
        length-append (time.write (time_at e)) (bits 1 (n / 8192 % 2) ++ repeats_layout.write (repeats_at (n % 8192))),
        length-append (bits 1 (n / 8192 % 2)) (repeats_layout.write (repeats_at (n % 8192))),
        length-bits 1 (n / 8192 % 2),
        first,
        second,
        k,
      )

  pub once-size : n % 8192 ≡ 0 → length (span.write (span_at n)) ≡ a + b + 1 + 1
  once-size k = span-size 1 (no-repeats-size (n % 8192) k)

  pub repeated-size : (n % 8192 ≡ 0 → ⊥) → length (span.write (span_at n)) ≡ a + b + 1 + 1 + 12
  repeated-size k = span-size 13 (repeats-size (n % 8192) k) ∙ omega arith

module _ (spans : List ℕ) (k : ℕ) where
  pub no-spans : length spans ≤ k → length (flat_map span.write (spans_from spans k)) ≡ 0
  no-spans l = ap length (spans-none spans k l)

  pub spans-size : k < length spans → (n : ℕ) → length (span.write (span_at (get_or spans k 0))) ≡ n
      → length (flat_map span.write (spans_from spans k)) ≡ n + length (flat_map span.write (spans_from spans (k + 1)))
  spans-size l n e =
      ap length (spans-more spans k l) ∙ omega (arith, length-append (span.write (span_at (get_or spans k 0))) (flat_map span.write (spans_from spans (k + 1))), e)

-- ## A rule
module _ (form : Form) where
  title-size : (operator state : ℕ) → length ((title form sheet_limits).write (title_of operator state)) ≡ title_width form
  unfolding title ◌then◌ via field
  title-size operator state = three 2 2 form.comment _ _ _

  counts-size : (row_counts : List ℕ) (many : ℕ) → length ((counts form sheet_limits).write (counts_of row_counts many)) ≡ 5 * form.item_count
  unfolding counts ◌then◌ field
  counts-size row_counts many =
      let w = form.item_count in
      let a = bits w (get_or row_counts 0 0) in
      let b = bits w (get_or row_counts 1 0) in
      let rest = bits w (get_or row_counts 2 0) ++ (bits w (get_or row_counts 3 0) ++ bits w many) in
      omega (
        arith,
        length-append a (b ++ rest),
        length-append b rest,
        length-bits w (get_or row_counts 0 0),
        length-bits w (get_or row_counts 1 0),
        three w w w (get_or row_counts 2 0) (get_or row_counts 3 0) many,
      )

  pub rule-size : (operator state : ℕ) (ends row_counts spans : List ℕ) (rows times : ℕ) → row_place row_counts 4 ≤ length ends
      → length (rows_bits ends row_counts 0) ≡ rows → length (flat_map span.write (map span_at spans)) ≡ times
      → length (rule_bits form operator state ends row_counts (map span_at spans)) ≡ head_width form + rows + times
  rule-size operator state ends row_counts spans rows times h r t =
      let all = flat_map span.write (map span_at spans) in
      let body = rows_bits ends row_counts 0 ++ all in
      let counted = (counts form sheet_limits).write (counts_of row_counts (length spans)) in
      ap length (rule-parts form operator state ends row_counts spans h)
      ∙ omega (
        arith,
        length-append ((title form sheet_limits).write (title_of operator state)) (counted ++ body),
        length-append counted body,
        length-append (rows_bits ends row_counts 0) all,
        title-size operator state,
        counts-size row_counts (length spans),
        r,
        t,
      )
