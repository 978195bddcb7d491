-- A rule's bits, part by part, where they stand in a sheet: operator and kind, the comment, the counts, the items. Rests on the law that what was read was
-- written there.
use mathlib.Core.Path.{◌≡◌, sym, ap, ◌∙◌, subst}
use mathlib.Core.Bool.{true}
use mathlib.Core.List.{List, ◌++◌}
use Prim.Native.Nat.{ℕ, ◌+◌, ◌*◌, ◌-◌, ◌^◌, ◌≤◌, ◌<◌}
use native.Mathlib.Omega.{arith}
use lib.ListN.{length, take, drop, length-append, length-drop}
use Rattle.definition.specs.Field.{bits, number, field_at, got, sheet_bits}
use Rattle.definition.specs.Rule.{Rule}
use Rattle.definition.specs.Sheet.{Form, sheet_limits, title_width, head_width, head_of, title, counts, rule}
use Rattle.definition.proofs.Bits.{Bytes, sheet-bits, length-sheet_bits, length-bits, number-bits}
use Rattle.definition.proofs.Carried.{comment-carried}
use Rattle.definition.proofs.Faithful.{Stand, stand-parts, stand-taken}
use Rattle.definition.proofs.Lengths.{rule-short}
use Rattle.definition.proofs.SheetRead.{rule-faithful, carried}
use Rattle.definition.proofs.RuleParts.{rule-parts}
use Rattle.forms.specs.Form.{Narrow}
use Rattle.sheet.specs.Begin.{rule_read_at, Readable}
use Rattle.sheet.proofs.RuleBits.{kind_bits, body_bits, kinds-length, title-split, rule-split, title-length, counts-length, rule-length}

module _ (form : Form) (sheet : List ℕ) (bytes : Bytes sheet) (p : ℕ) (readable : Readable form (sheet_bits sheet) p) where
  abbrev r : Rule
  r = rule_read_at form (sheet_bits sheet) p

  abbrev s : List ℕ
  s = sheet_bits sheet

  stands : Stand ((rule form sheet_limits).write r) s p readable.end
  stands = ((rule-faithful form sheet_limits).written s (sheet-bits sheet bytes) p r readable.end readable.read).2

  fits : (rule form sheet_limits).fits r ≡ true
  fits = carried (rule-faithful form sheet_limits) sheet bytes p r readable.end readable.read

  abbrev Parts : Type 0
  Parts = Stand (kind_bits r) s p (p + 4) × Stand (bits form.comment r.state.comment) s (p + 4) (p + title_width form)
      × Stand (body_bits r) s (p + head_width form) readable.end

  parts : Parts
  parts =
      let t = (title form sheet_limits).write (head_of r).0 in
      let n = (counts form sheet_limits).write (head_of r).1 in
      let c = bits form.comment r.state.comment in
      let whole = stand-parts t (n ++ body_bits r) s p readable.end (subst (λ ws. Stand ws s p readable.end) (rule-split form r) stands) in
      let first = stand-parts (kind_bits r) c s p (p + length t) (subst (λ ws. Stand ws s p (p + length t)) (title-split form r) whole.0) in
      let rest = stand-parts n (body_bits r) s (p + length t) readable.end whole.1 in
      let kinds : p + length (kind_bits r) ≡ p + 4 = omega (arith, kinds-length r) in
      let titles : p + length t ≡ p + title_width form = omega (arith, title-length form r) in
      let heads : p + length t + length n ≡ p + head_width form = omega (arith, title-length form r, counts-length form r) in (
        subst (Stand (kind_bits r) s p) kinds first.0,
        subst (λ i. Stand c s i (p + title_width form)) kinds (subst (Stand c s (p + length (kind_bits r))) titles first.1),
        subst (λ i. Stand (body_bits r) s i readable.end) heads rest.1,
      )

  -- what is copied, and the comment
  pub kinds-there : take 4 (drop p s) ≡ kind_bits r
  kinds-there = stand-taken (kind_bits r) s p (p + 4) 4 parts.0 (sym (kinds-length r))

  pub comment-there : field_at s (p + 4) form.comment ≡ r.state.comment
  unfolding field_at
  comment-there =
      let w = form.comment in
      let c = r.state.comment in
      ap number (stand-taken (bits w c) s (p + 4) _ w parts.1 (sym (length-bits w c))) ∙ number-bits w c (comment-carried form sheet_limits r fits)

  pub body-there : (body end n : ℕ) → body ≡ p + head_width form → end ≡ readable.end → n ≡ end - body → take n (drop body s) ≡ body_bits r
  body-there body end n b e k =
      rw b (stand-taken (body_bits r) s (p + head_width form) readable.end n parts.2 (omega (arith, parts.2.ends, b, e, k)))

  pub body-size : readable.end ≡ p + head_width form + length (body_bits r)
  body-size = parts.2.ends

  -- the counts, wherever it is known that they begin
  pub counts-there : (i : ℕ) → i ≡ p + title_width form → (counts form sheet_limits).read s i ≡ got (head_of r).1 (p + head_width form)
  counts-there i e =
      let known = rule-parts form s p r readable.end readable.read in
      ap (λ j. (counts form sheet_limits).read s j) e ∙ known.counted ∙ ap (λ n. got n (p + head_width form)) known.all-counted

  pub rule-size : readable.end ≡ p + length ((rule form sheet_limits).write r)
  rule-size = stands.ends

  -- how far they reach
  pub reaches : Narrow form → p < 2 ^ 25 → (p + head_width form ≤ readable.end) × (readable.end ≤ 8 * length sheet) × (readable.end < 2 ^ 26)
  reaches narrow low = (
    omega (arith, parts.2.ends),
    omega (arith, stands.ends, ap length stands.stands, length-append ((rule form sheet_limits).write r) (drop readable.end s), length-drop p s, length-drop readable.end s, length-sheet_bits sheet, rule-length form r),
    omega (arith, narrow.head-narrow, rule-short form s p r readable.end readable.read),
  )
