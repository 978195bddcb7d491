-- Items within a wide number: what each reads as where its fields, parts of the number, are lawful. Rests on the laws of readings and of the parts
-- of a wide number.
use mathlib.Core.Path.{◌≡◌, refl, sym, ap, ◌∙◌, subst}
use mathlib.Core.List.{List}
use mathlib.Core.Bool.{Bool, true}
use mathlib.Core.Option.{Option, none}
use Prim.Native.Nat.{ℕ, ◌+◌, ◌-◌, ◌/◌, ◌%◌, ◌^◌, ◌≤◌, ◌<◌}
use native.Mathlib.Omega.{arith}
use borrow.Author.Tests.{le-leb, eq-eqb, ne_eqb, lt-ltb}
use Rattle.grid.specs.Cut.{Range, holds}
use Rattle.definition.specs.Field.{got, lawful, ◌then◌}
use Rattle.definition.specs.Rule.{month_bounds, weekday_bounds, months, dated, fixed_days, holiday}
use Rattle.definition.specs.Rule as Rule
use Rattle.definition.specs.Sheet.{step, monthday_range, week_day_range, time, repeats_layout, span_of, span}
use Rattle.definition.proofs.Reading.{then-goes, via-goes, tagged-goes}
use Rattle.field.specs.Wide.{Wide}
use Rattle.field.proofs.Wide.{wide-within, wide-field}
use Rattle.item.specs.Begins.{BeginsSome}
use Rattle.item.proofs.Bodies.{body, as-months, as-dated, as-fixed-days, as-holiday, as-fixed, as-variable}
use Rattle.item.proofs.Spans.{no-repeats, repeats-goes}

-- bounds that a part was found to keep
pub kept : (bounds : Range) {v x : ℕ} {r : Bool} → r ≡ holds v bounds → v ≡ x → r ≡ true → holds x bounds ≡ true
kept bounds e f t = ap (λ u. holds u bounds) (sym f) ∙ sym e ∙ t

-- ## Days
module _ {s : List ℕ} {p n : ℕ} (wide : Wide s p 56 n) where
  pub wide-steps : (w v lowest upper : ℕ) → w + (w + v) ≤ 56 → holds (n / 2 ^ (56 - w) % 2 ^ w) (lowest, upper) ≡ true
      → holds (n / 2 ^ (56 - w - w) % 2 ^ w) (lowest, upper) ≡ true → 0 < n / 2 ^ (56 - w - w - v) % 2 ^ v
      → (lawful w (λ x. holds x (lowest, upper)) then lawful w (λ x. holds x (lowest, upper)) then step v).read s p
      ≡ got (n / 2 ^ (56 - w) % 2 ^ w, (n / 2 ^ (56 - w - w) % 2 ^ w, n / 2 ^ (56 - w - w - v) % 2 ^ v)) (p + (w + (w + v)))
  wide-steps w v lowest upper l a b c =
      then-goes _ _ _ _ (wide-field wide 0 w (56 - w) (omega arith) _ _ p (p + w) (omega arith) refl a)
      (then-goes _ _ _ _ (wide-field wide w w (56 - w - w) (omega arith) _ _ (p + w) (p + w + w) refl refl b)
      (wide-field wide (w + w) v (56 - w - w - v) (omega arith) _ _ (p + w + w) (p + (w + (w + v))) (omega arith) (omega arith)
      (le-leb 1 (n / 2 ^ (56 - w - w - v) % 2 ^ v) c)))

  pub wide-months : n / 2 ^ 54 % 2 ^ 2 ≡ 0 → holds (n / 2 ^ 50 % 2 ^ 4) month_bounds ≡ true → holds (n / 2 ^ 46 % 2 ^ 4) month_bounds ≡ true
      → monthday_range.read s p ≡ got (months (n / 2 ^ 50 % 2 ^ 4) (n / 2 ^ 46 % 2 ^ 4)) (p + 10)
  unfolding monthday_range
  wide-months t a b =
      let tag = n / 2 ^ 54 % 2 ^ 2 in
      tagged-goes _ _ _ _ _ (wide-field wide 0 2 54 refl _ _ p (p + 2) (omega arith) refl (lt-ltb tag 3 (omega arith)))
      (body _ _ _ _ _ (as-months tag (eq-eqb tag 0 t))
      (sym (via-goes _ _ _ _ _ (then-goes _ _ _ _ (wide-field wide 2 4 50 refl _ _ (p + 2) (p + 6) refl (omega arith) a)
      (wide-field wide 6 4 46 refl _ _ (p + 6) (p + 10) refl (omega arith) b)))))

  pub wide-dated : n / 2 ^ 54 % 2 ^ 2 ≡ 2 → monthday_range.read s p ≡ got (dated (n / 2 ^ 22 % 2 ^ 32)) (p + 34)
  unfolding monthday_range
  wide-dated t =
      let tag = n / 2 ^ 54 % 2 ^ 2 in
      tagged-goes _ _ _ _ _ (wide-field wide 0 2 54 refl _ _ p (p + 2) (omega arith) refl (lt-ltb tag 3 (omega arith)))
      (body _ _ _ _ _ (as-dated tag (ne_eqb tag 0 (λ e. omega arith)) (ne_eqb tag 1 (λ e. omega arith)))
      (sym (via-goes _ _ _ _ _ (wide-field wide 2 32 22 refl _ _ (p + 2) (p + 34) refl (omega arith) refl))))

  pub wide-weekdays : n / 2 ^ 55 % 2 ^ 1 ≡ 0 → holds (n / 2 ^ 52 % 2 ^ 3) weekday_bounds ≡ true → holds (n / 2 ^ 49 % 2 ^ 3) weekday_bounds ≡ true
      → week_day_range.read s p ≡ got (fixed_days (n / 2 ^ 52 % 2 ^ 3) (n / 2 ^ 49 % 2 ^ 3) (n / 2 ^ 33 % 2 ^ 16) (n / 2 ^ 28 % 2 ^ 5) (n / 2 ^ 23 % 2 ^ 5)) (p + 33)
  unfolding week_day_range
  wide-weekdays t a b =
      let tag = n / 2 ^ 55 % 2 ^ 1 in
      tagged-goes _ _ _ _ _ (wide-field wide 0 1 55 refl _ _ p (p + 1) (omega arith) refl refl)
      (body _ _ _ _ _ (as-fixed-days tag (eq-eqb tag 0 t))
      (sym (via-goes _ _ _ _ _ (then-goes _ _ _ _ (wide-field wide 1 3 52 refl _ _ (p + 1) (p + 4) refl (omega arith) a)
      (then-goes _ _ _ _ (wide-field wide 4 3 49 refl _ _ (p + 4) (p + 7) refl (omega arith) b)
      (then-goes _ _ _ _ (wide-field wide 7 16 33 refl _ _ (p + 7) (p + 23) refl (omega arith) refl)
      (then-goes _ _ _ _ (wide-field wide 23 5 28 refl _ _ (p + 23) (p + 28) refl (omega arith) refl)
      (wide-field wide 28 5 23 refl _ _ (p + 28) (p + 33) refl (omega arith) refl))))))))

  pub wide-holiday : (n / 2 ^ 55 % 2 ^ 1 ≡ 0 → ⊥) → week_day_range.read s p ≡ got (holiday (n / 2 ^ 54 % 2 ^ 1) (n / 2 ^ 38 % 2 ^ 16)) (p + 18)
  unfolding week_day_range
  wide-holiday t =
      let tag = n / 2 ^ 55 % 2 ^ 1 in
      tagged-goes _ _ _ _ _ (wide-field wide 0 1 55 refl _ _ p (p + 1) (omega arith) refl refl)
      (body _ _ _ _ _ (as-holiday tag (ne_eqb tag 0 t))
      (sym (via-goes _ _ _ _ _ (then-goes _ _ _ _ (wide-field wide 1 1 54 refl _ _ (p + 1) (p + 2) refl (omega arith) refl)
      (wide-field wide 2 16 38 refl _ _ (p + 2) (p + 18) refl (omega arith) refl)))))

-- ## Times
-- a fixed time within a wide number
pub wide-minutes : {s : List ℕ} {p w n : ℕ} → Wide s p w n → (before behind at : ℕ) → before + (13 + behind) ≡ w → at ≡ p + before
    → n / 2 ^ (12 + behind) % 2 ^ 1 ≡ 0 → n / 2 ^ behind % 2 ^ 12 ≤ 2880 → time.read s at ≡ got (Rule.fixed (n / 2 ^ behind % 2 ^ 12)) (at + 13)
unfolding time
wide-minutes {s} {p} {w} {n} wide before behind at e f t a =
    let tag = n / 2 ^ (12 + behind) % 2 ^ 1 in
    tagged-goes _ _ _ _ _ (wide-field wide before 1 (12 + behind) (omega arith) _ _ at (at + 1) f refl refl)
    (body _ _ _ _ _ (as-fixed tag (eq-eqb tag 0 t))
    (sym (via-goes _ _ _ _ _
    (wide-field wide (before + 1) 12 behind (omega arith) _ _ (at + 1) (at + 13) (omega arith) (omega arith) (le-leb (n / 2 ^ behind % 2 ^ 12) 2880 a)))))

module _ {s : List ℕ} {p n : ℕ} (wide : Wide s p 19 n) where
  pub wide-fixed : n / 2 ^ 18 % 2 ^ 1 ≡ 0 → n / 2 ^ 6 % 2 ^ 12 ≤ 2880 → (t : Rule.Time) × (time.read s p ≡ got t (p + 13))
  wide-fixed t a = (_, wide-minutes wide 0 6 p refl (omega arith) t a)

  pub wide-variable : (n / 2 ^ 18 % 2 ^ 1 ≡ 0 → ⊥) → (t : Rule.Time) × (time.read s p ≡ got t (p + 19))
  unfolding time
  wide-variable t =
      let tag = n / 2 ^ 18 % 2 ^ 1 in (
        Rule.variable (n / 2 ^ 16 % 2 ^ 2) (n / 2 ^ 0 % 2 ^ 16),
        tagged-goes _ _ _ _ _ (wide-field wide 0 1 18 refl _ _ p (p + 1) (omega arith) refl refl)
            (body _ _ _ _ _ (as-variable tag (ne_eqb tag 0 t))
            (sym (via-goes _ _ _ _ _ (then-goes _ _ _ _ (wide-field wide 1 2 16 refl _ _ (p + 1) (p + 3) refl (omega arith) refl)
            (wide-field wide 3 16 0 refl _ _ (p + 3) (p + 19) refl (omega arith) refl))))),
      )

-- ## Spans
pub wide-simple : {s : List ℕ} {p n : ℕ} → Wide s p 56 n → n / 2 ^ 55 % 2 ^ 1 ≡ 0 → n / 2 ^ 42 % 2 ^ 1 ≡ 0 → n / 2 ^ 28 % 2 ^ 1 ≡ 0
    → n / 2 ^ 43 % 2 ^ 12 ≤ 2880 → n / 2 ^ 30 % 2 ^ 12 ≤ 2880
    → span.read s p ≡ got (span_of (Rule.fixed (n / 2 ^ 43 % 2 ^ 12), (Rule.fixed (n / 2 ^ 30 % 2 ^ 12), (n / 2 ^ 29 % 2 ^ 1, none)))) (p + 28)
unfolding span repeats_layout
wide-simple {s} {p} {n} wide t u f a b =
    let flag = n / 2 ^ 28 % 2 ^ 1 in
    via-goes _ _ _ _ _
    (then-goes _ _ _ _ (wide-minutes wide 0 43 p refl (omega arith) t a)
    (then-goes _ _ _ _ (wide-minutes wide 13 30 (p + 13) refl refl u b)
    (then-goes _ _ _ _ (wide-field wide 26 1 29 refl _ _ (p + 13 + 13) (p + 27) (omega arith) (omega arith) refl)
    (tagged-goes _ _ _ _ _ (wide-field wide 27 1 28 refl _ _ (p + 27) (p + 28) refl (omega arith) refl)
    (no-repeats flag s (p + 28) (eq-eqb flag 0 f))))))

-- times of a and b bits, which the numbers x and y begin with
module _ {s : List ℕ} {p n : ℕ} (wide : Wide s p 56 n) (a b : ℕ) (few : a ≤ 19) (more : b ≤ 19) where
  module _ (x y : ℕ) (e : x ≡ n / 2 ^ 37 % 2 ^ 19) (f : y ≡ n / 2 ^ (37 - a) % 2 ^ 19) (start : BeginsSome 19 x time a) (end : BeginsSome 19 y time b) where
    spans : {q : ℕ} {r : Option ℕ} → repeats_layout.read s (p + (a + b + 1)) ≡ got r q → (v : Rule.Span) × (span.read s p ≡ got v q)
    unfolding span
    spans h =
        let first = start s p (subst (Wide s p 19) (sym e) (wide-within wide 0 19 37 refl p (omega arith))) in
        let last = end s (p + a) (subst (Wide s (p + a) 19) (sym f) (wide-within wide a 19 (37 - a) (omega arith) (p + a) refl)) in (
          _,
          via-goes _ _ _ _ _
              (then-goes _ _ _ _ first.1
              (then-goes _ _ _ _ last.1
              (then-goes _ _ _ _ (wide-field wide (a + b) 1 (55 - (a + b)) (omega arith) _ _ (p + a + b) (p + (a + b + 1)) (omega arith) (omega arith) refl) h))),
        )

    pub wide-span : n / 2 ^ (56 - (a + b + 2)) % 2 ^ 1 ≡ 0 → (x : Rule.Span) × (span.read s p ≡ got x (p + (a + b + 2)))
    unfolding repeats_layout
    wide-span t =
        let flag = n / 2 ^ (56 - (a + b + 2)) % 2 ^ 1 in
        spans
        (tagged-goes _ _ _ _ _
        (wide-field wide (a + b + 1) 1 (56 - (a + b + 2)) (omega arith) _ _ (p + (a + b + 1)) (p + (a + b + 2)) refl (omega arith) refl)
        (no-repeats flag s (p + (a + b + 2)) (eq-eqb flag 0 t)))

    pub wide-repeats : (n / 2 ^ (56 - (a + b + 2)) % 2 ^ 1 ≡ 0 → ⊥) → (x : Rule.Span) × (span.read s p ≡ got x (p + (a + b + 2 + 12)))
    unfolding repeats_layout
    wide-repeats t =
        let flag = n / 2 ^ (56 - (a + b + 2)) % 2 ^ 1 in
        spans
        (tagged-goes _ _ _ _ _
        (wide-field wide (a + b + 1) 1 (56 - (a + b + 2)) (omega arith) _ _ (p + (a + b + 1)) (p + (a + b + 2)) refl (omega arith) refl)
        (repeats-goes flag s (p + (a + b + 2)) _ _ (ne_eqb flag 0 t)
        (wide-field wide (a + b + 2) 12 (42 - (a + b)) (omega arith) _ _ (p + (a + b + 2)) (p + (a + b + 2 + 12)) refl (omega arith) refl)))
