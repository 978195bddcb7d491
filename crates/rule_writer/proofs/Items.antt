-- The bits of an item, sort by sort; and the bits of a rule's head.
use mathlib.Core.Path.{◌≡◌, refl, sym, ap, ap₂, ◌∙◌}
use mathlib.Core.List.{List, ◌++◌, append_assoc}
use Prim.Native.Nat.{ℕ, ◌≤◌, ◌<◌, ◌^◌}
use native.Mathlib.Omega.{arith}
use lib.ListN.{get_or}
use lib.Pow.{pow_pos}
use borrow.Author.Tests.{ne_eqb}
use Rattle.definition.specs.Field.{bits, field, ◌then◌, via}
use Rattle.definition.specs.Rule.{year_bounds, month_bounds, week_bounds, weekday_bounds, months, kind_number}
use Rattle.definition.specs.Range.{Ends}
use Rattle.definition.specs.Sheet.{year_range, monthday_range, week_range, week_day_range, Form, sheet_limits, title, counts}
use Rattle.definition.proofs.Items.{operator-number}
use Rattle.codes.specs.Number.{state_coded}
use Rattle.item_writer.specs.Written.{years_from, weeks_from, days_from}
use Rattle.rule_writer.specs.Rows.{item_bits, title_of, counts_of}
use Rattle.tables.specs.Items.{upper_of, FewItems}

-- ## Items
module _ (sort : ℕ) (e : Ends) where
  pub as-years : sort ≡ 0 → (item_bits sort e ≡ year_range.write (years_from e.0 e.1)) × (upper_of sort ≡ year_bounds.1)
  unfolding item_bits upper_of
  as-years k = (rw k refl, rw k refl)

  pub as-months : sort ≡ 1 → (item_bits sort e ≡ monthday_range.write (months e.0 e.1)) × (upper_of sort ≡ month_bounds.1)
  unfolding item_bits upper_of
  as-months k = (rw k refl, rw k refl)

  pub as-weeks : sort ≡ 2 → (item_bits sort e ≡ week_range.write (weeks_from e.0 e.1)) × (upper_of sort ≡ week_bounds.1)
  unfolding item_bits upper_of
  as-weeks k = (rw k refl, rw k refl)

  pub as-weekdays : 3 ≤ sort → (item_bits sort e ≡ week_day_range.write (days_from e.0 e.1)) × (upper_of sort ≡ weekday_bounds.1)
  unfolding item_bits upper_of
  as-weekdays k =
      let not0 = ne_eqb sort 0 (omega arith) in
      let not1 = ne_eqb sort 1 (omega arith) in
      let not2 = ne_eqb sort 2 (omega arith) in
      (rw (not0, not1, not2) refl, rw (not0, not1, not2) refl)

-- ## A head, its fields as wide as the form says
module _ (form : Form) where
  pub title-bits : (operator state kind comment width : ℕ) → operator < 3 → kind ≡ kind_number (state_coded state).kind → comment ≡ (state_coded state).comment
      → width ≡ form.comment → (title form sheet_limits).write (title_of operator state) ≡ bits 2 operator ++ (bits 2 kind ++ bits width comment)
  unfolding title ◌then◌ via field
  title-bits operator state kind comment width o k c w =
      ap (λ a. bits 2 a ++ (bits 2 (kind_number (state_coded state).kind) ++ bits form.comment (state_coded state).comment)) (operator-number operator o)
      ∙ ap₂ (λ a b. bits 2 operator ++ (bits 2 a ++ bits form.comment b)) (sym k) (sym c)
      ∙ ap (λ a. bits 2 operator ++ (bits 2 kind ++ bits a comment)) (sym w)

  -- a count that the form can carry has as many bits
  pub sort-fits : (counts : List ℕ) → FewItems form counts → (width count sort : ℕ) → width ≡ form.item_count → sort < 4 → count ≡ get_or counts sort 0 → count < 2 ^ width
  sort-fits counts few width count sort w l e = rw w (omega (arith, few sort l, e, pow_pos form.item_count))

  pub counts_bits : (row : List ℕ) (a b c d e width : ℕ) → a ≡ get_or row 0 0 → b ≡ get_or row 1 0 → c ≡ get_or row 2 0 → d ≡ get_or row 3 0 → width ≡ form.item_count
      → (counts form sheet_limits).write (counts_of row e) ≡ (bits width a ++ (bits width b ++ bits width c)) ++ (bits width d ++ bits width e)
  unfolding counts ◌then◌ field
  counts_bits row a b c d e width p q r s w =
      let rest = bits width d ++ bits width e in
      rw (← p, ← q, ← r, ← s, ← w)
      (sym (append_assoc (bits width a) (bits width b ++ bits width c) rest ∙ ap (bits width a ++◌) (append_assoc (bits width b) (bits width c) rest)))
