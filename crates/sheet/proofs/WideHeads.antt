-- A rule's title and counts within wide numbers: what they read as where their fields, parts of the numbers, are lawful. Rests on the laws of
-- readings and of the parts of a wide number.
use mathlib.Core.Path.{◌≡◌, refl, sym, ap, ◌∙◌}
use mathlib.Core.List.{List}
use Prim.Native.Nat.{ℕ, ◌+◌, ◌*◌, ◌-◌, ◌/◌, ◌%◌, ◌^◌, ◌≤◌, ◌<◌}
use native.Mathlib.Omega.{arith}
use lib.Dec.{leb}
use borrow.Author.Tests.{lt-ltb, le-leb}
use Rattle.definition.specs.Field.{got, Layout, counted, ◌then◌}
use Rattle.definition.specs.Sheet.{sheet_limits, title_width, Title, Counts, title, counts}
use Rattle.definition.proofs.Reading.{then-goes, via-goes}
use Rattle.forms.specs.Form.{as_form}
use Rattle.forms.specs.declared.Form.{Form}
use Rattle.forms.specs.declared.Form.TheVariants.{One, Two}
use Rattle.field.specs.Wide.{Wide}
use Rattle.field.proofs.Wide.{wide-field}

-- operator, kind and comment have room in 56 bits
comment-few : (form : Form) → (as_form form).comment ≤ 24
comment-few One = omega arith
comment-few Two = omega arith

pub wide-title : {s : List ℕ} {p n : ℕ} → Wide s p 56 n → (form : Form) → n / 2 ^ 54 % 2 ^ 2 < 3 → n / 2 ^ 52 % 2 ^ 2 < 3
    → (t : Title) × ((title (as_form form) sheet_limits).read s p ≡ got t (p + title_width (as_form form)))
unfolding title
wide-title {s} {p} {n} wide form a b =
    let comment = (as_form form).comment in
    let few = comment-few form in (
      _,
      then-goes _ _ _ _ (via-goes _ _ _ _ _ (wide-field wide 0 2 54 refl _ _ p (p + 2) (omega arith) refl (lt-ltb (n / 2 ^ 54 % 2 ^ 2) 3 a)))
          (then-goes _ _ _ _ (via-goes _ _ _ _ _ (wide-field wide 2 2 52 refl _ _ (p + 2) (p + 4) refl (omega arith) (lt-ltb (n / 2 ^ 52 % 2 ^ 2) 3 b)))
          (wide-field wide 4 comment (52 - comment) (omega arith) _ _ (p + 4) (p + (4 + comment)) refl (omega arith) refl)),
    )

-- a count that keeps its limit
wide-count : {s : List ℕ} {p n : ℕ} → Wide s p 56 n → (before w behind v at end : ℕ) → before + (w + behind) ≡ 56 → v ≡ n / 2 ^ behind % 2 ^ w → v ≤ 16
    → at ≡ p + before → end ≡ at + w → (counted w 16).read s at ≡ got v end
wide-count wide before w behind v at end e f l g h =
    wide-field wide before w behind e _ _ at end g h (ap (λ u. leb u 16) (sym f) ∙ le-leb v 16 l) ∙ ap (λ u. got u end) (sym f)

-- five counts: three within the first number, two within the second
abbrev five : ℕ → Layout Counts
five w = counted w 16 then counted w 16 then counted w 16 then counted w 16 then counted w 16

module _ {s : List ℕ} {p n m : ℕ} (w : ℕ) (few : w ≤ 12) (first : Wide s p 56 n) (second : Wide s (p + 3 * w) 56 m) (years monthdays weeks weekdays spans : ℕ) where
  pub wide-counts : (form : Form) → w ≡ (as_form form).item_count → years ≡ n / 2 ^ (56 - w) % 2 ^ w → monthdays ≡ n / 2 ^ (56 - 2 * w) % 2 ^ w
      → weeks ≡ n / 2 ^ (56 - 3 * w) % 2 ^ w → weekdays ≡ m / 2 ^ (56 - w) % 2 ^ w → spans ≡ m / 2 ^ (56 - 2 * w) % 2 ^ w
      → (years ≤ 16) × (monthdays ≤ 16) × (weeks ≤ 16) × (weekdays ≤ 16) × (spans ≤ 16)
      → (counts (as_form form) sheet_limits).read s p ≡ got (years, (monthdays, (weeks, (weekdays, spans)))) (p + 3 * w + 2 * w)
  unfolding counts
  wide-counts form e a b c d f low =
      ap (λ k. (five k).read s p) (sym e)
      ∙ then-goes _ _ _ _ (wide-count first 0 w (56 - w) years p (p + w) (omega arith) a low.0 (omega arith) refl)
      (then-goes _ _ _ _ (wide-count first w w (56 - 2 * w) monthdays (p + w) (p + 2 * w) (omega arith) b low.1 refl (omega arith))
      (then-goes _ _ _ _ (wide-count first (2 * w) w (56 - 3 * w) weeks (p + 2 * w) (p + 3 * w) (omega arith) c low.2 refl (omega arith))
      (then-goes _ _ _ _ (wide-count second 0 w (56 - w) weekdays (p + 3 * w) (p + 3 * w + w) (omega arith) d low.3 (omega arith) refl)
      (wide-count second w w (56 - 2 * w) spans (p + 3 * w + w) (p + 3 * w + 2 * w) (omega arith) f low.4 refl (omega arith)))))
