-- How far the reading of each item goes at most, from a time's 19 bits to a span's 52; how far a rule's; and how many digits a number has
-- in a line. Rests on the laws of readings.
use mathlib.Core.Path.{◌≡◌, refl, ap}
use mathlib.Core.List.{List}
use mathlib.Core.Option.{none}
use mathlib.Core.Bool.{Bool, true, false}
use Prim.Native.Nat.{ℕ, zero, suc, ◌+◌, ◌*◌, ◌%◌, ◌^◌, ◌≤◌}
use native.Mathlib.Omega.{arith}
use lib.Dec.{eqb, leb}
use lib.ListN.{length}
use borrow.Author.Tests.{leb-true}
use Rattle.definition.specs.Field.{got, Layout, no_bits}
use Rattle.definition.specs.Sheet.{year_range, months_layout, months_of_layout, monthday_of, monthday_range, week_range, holiday_layout, weekday_of, week_day_range, fixed_layout, time_of, time, repeats_of, repeats_layout, span, Form, sheet_limits, opening_width, title_width, head_width, Counts, Title, Head, title, counts, head, body, rule, opening}
use Rattle.definition.specs.Text.{digits}
use Rattle.definition.proofs.Reading.{then-parts, via-parts, tagged-parts, field-passed, Short, field_end, field-short, none-short, then-short, via-short, tagged-short, several-short}

-- what is short enough is shorter than more
less : {A : Type 0} (L : Layout A) (m n : ℕ) → m ≤ n → Short L m → Short L n
less L m n l a s p x q e = omega (arith, a s p x q e)

pub years-short : Short year_range 44
unfolding year_range
years-short = via-short _ _ _ 44 (then-short _ _ 14 30 (field-short _ _ 14) (then-short _ _ 14 16 (field-short _ _ 14) (field-short _ _ 16)))

pub weeks-short : Short week_range 20
unfolding week_range
weeks-short = via-short _ _ _ 20 (then-short _ _ 6 14 (field-short _ _ 6) (then-short _ _ 6 8 (field-short _ _ 6) (field-short _ _ 8)))

month-body : (t : ℕ) → Short (monthday_of t) 32
unfolding monthday_of
month-body t = go (eqb t 0) refl (eqb t 1) refl
  where
    go : (a : Bool) → eqb t 0 ≡ a → (b : Bool) → eqb t 1 ≡ b → Short (monthday_of t) 32
    go true e b f = rw e (less months_layout 8 32 (omega arith) (via-short _ _ _ 8 (then-short _ _ 4 4 (field-short _ _ 4) (field-short _ _ 4))))
    go false e true f = rw (e, f)
        (less months_of_layout 22 32 (omega arith)
        (via-short _ _ _ 22 (then-short _ _ 4 18 (field-short _ _ 4) (then-short _ _ 4 14 (field-short _ _ 4) (field-short _ _ 14)))))
    go false e false f = rw (e, f) (via-short _ _ _ 32 (field-short _ _ 32))

pub monthdays-short : Short monthday_range 34
unfolding monthday_range
monthdays-short = tagged-short _ _ _ 2 32 (field-short _ _ 2) month-body

weekday-body : (t : ℕ) → Short (weekday_of t) 32
unfolding weekday_of
weekday-body t = go (eqb t 0) refl
  where
    go : (a : Bool) → eqb t 0 ≡ a → Short (weekday_of t) 32
    go true e = rw e (via-short _ _ _ 32 (then-short _ _ 3 29 (field-short _ _ 3) (then-short _ _ 3 26 (field-short _ _ 3)
        (then-short _ _ 16 10 (field-short _ _ 16) (then-short _ _ 5 5 (field-short _ _ 5) (field-short _ _ 5))))))
    go false e = rw e (less holiday_layout 17 32 (omega arith) (via-short _ _ _ 17 (then-short _ _ 1 16 (field-short _ _ 1) (field-short _ _ 16))))

pub weekdays-short : Short week_day_range 33
unfolding week_day_range
weekdays-short = tagged-short _ _ _ 1 32 (field-short _ _ 1) weekday-body

time-body : (t : ℕ) → Short (time_of t) 18
unfolding time_of
time-body t = go (eqb t 0) refl
  where
    go : (a : Bool) → eqb t 0 ≡ a → Short (time_of t) 18
    go true e = rw e (less fixed_layout 12 18 (omega arith) (via-short _ _ _ 12 (field-short _ _ 12)))
    go false e = rw e (via-short _ _ _ 18 (then-short _ _ 2 16 (field-short _ _ 2) (field-short _ _ 16)))

pub time-short : Short time 19
unfolding time
time-short = tagged-short _ _ _ 1 18 (field-short _ _ 1) time-body

repeats-body : (t : ℕ) → Short (repeats_of t) 12
unfolding repeats_of
repeats-body t = go (eqb t 0) refl
  where
    go : (a : Bool) → eqb t 0 ≡ a → Short (repeats_of t) 12
    go true e = rw e (less (no_bits none) 0 12 (omega arith) (none-short none))
    go false e = rw e (via-short _ _ _ 12 (field-short _ _ 12))

pub span-short : Short span 52
unfolding span repeats_layout
span-short = via-short _ _ _ 52
    (then-short _ _ 19 33 time-short
    (then-short _ _ 19 14 time-short (then-short _ _ 1 13 (field-short _ _ 1) (tagged-short _ _ _ 1 12 (field-short _ _ 1) repeats-body))))

-- ## How far a sheet's opening and a rule go
module _ (form : Form) where
  -- a rule count keeps its limit, and the opening takes the bits of mark and count
  pub opening-low : (s : List ℕ) (p n q : ℕ) → (opening form sheet_limits).read s p ≡ got n q → (n ≤ sheet_limits.rules) × (q ≡ p + opening_width form)
  unfolding opening
  opening-low s p n q e =
      let v = via-parts _ _ _ s p n q e in
      let k = then-parts _ _ s p v.0 q v.1 in (
        omega (arith, v.2, leb-true v.0.1 sheet_limits.rules (field-passed _ (λ n. leb n sheet_limits.rules) _ s k.0 v.0.1 q k.2)),
        omega (arith, field_end _ _ form.mark_width s p v.0.0 k.0 k.1, field_end _ _ form.rule_count s k.0 v.0.1 q k.2),
      )

  -- counts keep their limit, and take as many bits as five of them
  pub counts-low : (s : List ℕ) (p : ℕ) (n : Counts) (q : ℕ) → (counts form sheet_limits).read s p ≡ got n q
      → (n.0 ≤ sheet_limits.items) × (n.1.0 ≤ sheet_limits.items) × (n.1.1.0 ≤ sheet_limits.items) × (n.1.1.1.0 ≤ sheet_limits.items) ×
      (n.1.1.1.1 ≤ sheet_limits.spans) × (q ≡ p + 5 * form.item_count)
  unfolding counts
  counts-low s p n q e =
      let w = form.item_count in
      let y = then-parts _ _ s p n q e in
      let m = then-parts _ _ s y.0 n.1 q y.2 in
      let k = then-parts _ _ s m.0 n.1.1 q m.2 in
      let d = then-parts _ _ s k.0 n.1.1.1 q k.2 in (
        leb-true _ _ (field-passed _ _ _ s p _ _ y.1),
        leb-true _ _ (field-passed _ _ _ s y.0 _ _ m.1),
        leb-true _ _ (field-passed _ _ _ s m.0 _ _ k.1),
        leb-true _ _ (field-passed _ _ _ s k.0 _ _ d.1),
        leb-true _ _ (field-passed _ _ _ s d.0 _ _ d.2),
        omega (
          arith,
          field_end _ _ w s p n.0 y.0 y.1,
          field_end _ _ w s y.0 n.1.0 m.0 m.1,
          field_end _ _ w s m.0 n.1.1.0 k.0 k.1,
          field_end _ _ w s k.0 n.1.1.1.0 d.0 d.1,
          field_end _ _ w s d.0 n.1.1.1.1 q d.2,
        ),
      )

  pub title-end : (s : List ℕ) (p : ℕ) (t : Title) (q : ℕ) → (title form sheet_limits).read s p ≡ got t q → q ≡ p + title_width form
  unfolding title
  title-end s p t q e =
      let o = then-parts _ _ s p t q e in
      let k = then-parts _ _ s o.0 t.1 q o.2 in
      let a = via-parts _ _ _ s p _ _ o.1 in
      let b = via-parts _ _ _ s o.0 _ _ k.1 in
      omega (
        arith,
        field_end _ _ 2 s p a.0 o.0 a.1,
        field_end _ _ 2 s o.0 b.0 k.0 b.1,
        field_end _ _ form.comment s k.0 t.1.1 q k.2,
      )

  body-short : (n : Counts) → Short (body n) (n.0 * 44 + (n.1.0 * 34 + (n.1.1.0 * 20 + (n.1.1.1.0 * 33 + n.1.1.1.1 * 52))))
  unfolding body
  body-short n =
      then-short _ _ _ _ (several-short _ 44 years-short n.0) (then-short _ _ _ _ (several-short _ 34 monthdays-short n.1.0)
      (then-short _ _ _ _ (several-short _ 20 weeks-short n.1.1.0)
      (then-short _ _ _ _ (several-short _ 33 weekdays-short n.1.1.1.0) (several-short _ 52 span-short n.1.1.1.1))))

  pub head-parts : (s : List ℕ) (p : ℕ) (h : Head) (q : ℕ) → (head form sheet_limits).read s p ≡ got h q
      → (j : ℕ) × ((title form sheet_limits).read s p ≡ got h.0 j) × ((counts form sheet_limits).read s j ≡ got h.1 q)
  unfolding head
  head-parts s p h q e = then-parts _ _ s p h q e

  -- "16 items of each sort, 16 spans": the head, then 183 bits sixteen times
  pub rule-short : Short (rule form sheet_limits) (head_width form + 2928)
  unfolding rule
  rule-short s p r q e =
      let w = tagged-parts _ _ _ s p r q e in
      let k = head-parts s p w.0 w.1 w.2 in
      let low = counts-low s k.0 w.0.1 w.1 k.2 in
      omega (
        arith,
        title-end s p w.0.0 k.0 k.1,
        low.0,
        low.1,
        low.2,
        low.3,
        low.4,
        low.5,
        via-short _ _ _ _ (body-short w.0.1) s w.1 r q w.3,
      )

-- ## Digits
pub length_digits : (w v : ℕ) → length (digits w v) ≡ w
unfolding digits
length_digits zero v = refl
length_digits (suc w) v = ap suc (length_digits w (v % 10 ^ w))
