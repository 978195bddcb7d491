-- A rule's bits, part by part: operator and kind, the comment, the counts, the items. Only comment and counts have bits that depend on the form. Rests on
-- the layout alone.
use mathlib.Core.Path.{◌≡◌, sym, ap, ◌∙◌}
use mathlib.Core.List.{List, [], ◌∷◌, ◌++◌, flat_map, append_assoc}
use Prim.Native.Nat.{ℕ, ◌+◌, ◌*◌, ◌≤◌}
use native.Mathlib.Omega.{arith}
use lib.ListN.{length, length-append}
use Rattle.definition.specs.Field.{bits, field, ◌then◌, via, tagged}
use Rattle.definition.specs.Rule.{operator_number, kind_number, Rule}
use Rattle.definition.specs.Sheet.{Form, sheet_limits, title_width, head_width, head_of, body_of, title, counts, head, body, rule}
use Rattle.definition.proofs.Bits.{length-bits}
use Rattle.forms.specs.Form.{Narrow}

-- operator and kind
abbrev pub kind_bits : Rule → List ℕ
kind_bits r = bits 2 (operator_number r.operator) ++ bits 2 (kind_number r.state.kind)

-- the items
abbrev pub body_bits : Rule → List ℕ
body_bits r = (body (head_of r).1).write (body_of r)

pub kinds-length : (r : Rule) → length (kind_bits r) ≡ 4
kinds-length r =
    let a = operator_number r.operator in
    let b = kind_number r.state.kind in
    omega (arith, length-append (bits 2 a) (bits 2 b), length-bits 2 a, length-bits 2 b)

module _ (form : Form) (r : Rule) where
  pub title-split : (title form sheet_limits).write (head_of r).0 ≡ kind_bits r ++ bits form.comment r.state.comment
  unfolding title ◌then◌ via field
  title-split = sym (append_assoc (bits 2 (operator_number r.operator)) (bits 2 (kind_number r.state.kind)) (bits form.comment r.state.comment))

  pub rule-split : (rule form sheet_limits).write r ≡ (title form sheet_limits).write (head_of r).0 ++ ((counts form sheet_limits).write (head_of r).1 ++ body_bits r)
  unfolding rule tagged via head ◌then◌
  rule-split = append_assoc ((title form sheet_limits).write (head_of r).0) ((counts form sheet_limits).write (head_of r).1) (body_bits r)

  pub title-length : length ((title form sheet_limits).write (head_of r).0) ≡ title_width form
  title-length =
      ap length title-split ∙ omega (
        arith,
        length-append (kind_bits r) (bits form.comment r.state.comment),
        kinds-length r,
        length-bits form.comment r.state.comment,
      )

  pub counts-length : length ((counts form sheet_limits).write (head_of r).1) ≡ 5 * form.item_count
  unfolding counts ◌then◌ field
  counts-length =
      let w = form.item_count in
      let y = bits w (length r.years) in
      let m = bits w (length r.monthdays) in
      let k = bits w (length r.weeks) in
      let d = bits w (length r.weekdays) in
      let s = bits w (length r.spans) in
      omega (
        arith,
        length-append y (m ++ (k ++ (d ++ s))),
        length-append m (k ++ (d ++ s)),
        length-append k (d ++ s),
        length-append d s,
        length-bits w (length r.years),
        length-bits w (length r.monthdays),
        length-bits w (length r.weeks),
        length-bits w (length r.weekdays),
        length-bits w (length r.spans),
      )

  -- the head takes so many bits, and the items the same in every form
  pub rule-length : length ((rule form sheet_limits).write r) ≡ head_width form + length (body_bits r)
  rule-length =
      ap length rule-split ∙ omega (
        arith,
        length-append ((title form sheet_limits).write (head_of r).0) ((counts form sheet_limits).write (head_of r).1 ++ body_bits r),
        length-append ((counts form sheet_limits).write (head_of r).1) (body_bits r),
        title-length,
        counts-length,
      )

-- so a rule takes 70 bits at least
pub rules-long : (form : Form) → Narrow form → (rs : List Rule) → length rs * 70 ≤ length (flat_map (rule form sheet_limits).write rs)
unfolding flat_map
rules-long form narrow [] = omega arith
rules-long form narrow (r ∷ rs) =
    omega (
      arith,
      length-append ((rule form sheet_limits).write r) (flat_map (rule form sheet_limits).write rs),
      rule-length form r,
      narrow.head-wide,
      rules-long form narrow rs,
    )
