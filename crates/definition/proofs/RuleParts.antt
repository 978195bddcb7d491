-- A rule that was read, part by part: its title, its five counts, and its five rows of items, each where it stands.
use mathlib.Core.Path.{◌≡◌, sym, ap, ◌∙◌}
use mathlib.Core.List.{List}
use Prim.Native.Nat.{ℕ, ◌+◌}
use native.Mathlib.Omega.{arith}
use lib.ListN.{length}
use Rattle.definition.specs.Field.{got, read_all, counted, several}
use Rattle.definition.specs.Rule.{Rule}
use Rattle.definition.specs.Sheet.{Form, sheet_limits, title_width, head_width, year_range, monthday_range, week_range, week_day_range, span, Counts, head_of, rule_with, title, counts, body, rule}
use Rattle.definition.proofs.Reading.{then-parts, via-parts, tagged-parts, field_end, all-length}
use Rattle.definition.proofs.Lengths.{title-end, counts-low, head-parts}

module _ (form : Form) where
  -- a count stands at h
  abbrev pub Counted : List ℕ → ℕ → ℕ → Type 0
  Counted s h n = (counted form.item_count sheet_limits.items).read s h ≡ got n (h + form.item_count)

  -- five counts, one behind the other
  pub counts-parts : (s : List ℕ) (p : ℕ) (n : Counts) (q : ℕ) → (counts form sheet_limits).read s p ≡ got n q
      → let w = form.item_count in
      Counted s p n.0 × Counted s (p + w) n.1.0 × Counted s (p + w + w) n.1.1.0 × Counted s (p + w + w + w) n.1.1.1.0
      × Counted s (p + w + w + w + w) n.1.1.1.1
  unfolding counts
  counts-parts s p n q e =
      let w = form.item_count in
      let y = then-parts _ _ s p n q e in
      let m = then-parts _ _ s y.0 n.1 q y.2 in
      let k = then-parts _ _ s m.0 n.1.1 q m.2 in
      let d = then-parts _ _ s k.0 n.1.1.1 q k.2 in
      let a = field_end _ _ w s p n.0 y.0 y.1 in
      let b = field_end _ _ w s y.0 n.1.0 m.0 m.1 in
      let c = field_end _ _ w s m.0 n.1.1.0 k.0 k.1 in
      let f = field_end _ _ w s k.0 n.1.1.1.0 d.0 d.1 in
      let g = field_end _ _ w s d.0 n.1.1.1.1 q d.2 in (
        at p p n.0 y.0 (omega arith) a y.1,
        at (p + w) y.0 n.1.0 m.0 (omega (arith, a)) b m.1,
        at (p + w + w) m.0 n.1.1.0 k.0 (omega (arith, a, b)) c k.1,
        at (p + w + w + w) k.0 n.1.1.1.0 d.0 (omega (arith, a, b, c)) f d.1,
        at (p + w + w + w + w) d.0 n.1.1.1.1 q (omega (arith, a, b, c, f)) g d.2,
      )
    where
      at : (h i v j : ℕ) → i ≡ h → j ≡ i + form.item_count → (counted form.item_count sheet_limits.items).read s i ≡ got v j → Counted s h v
      at h i v j k l g =
          let z : j ≡ h + form.item_count = omega arith in
          ap (λ o. (counted form.item_count sheet_limits.items).read s o) (sym k) ∙ g ∙ ap (got v) z

  pub record RuleParts (s : List ℕ) (p : ℕ) (r : Rule) (q : ℕ) : Type 0 where
    -- how many items of each sort, and where the rows after the first begin
    pub many : Counts
    pub monthdays-at : ℕ
    pub weeks-at : ℕ
    pub weekdays-at : ℕ
    pub spans-at : ℕ
    pub all-counted : many ≡ (head_of r).1
    pub titled : (title form sheet_limits).read s p ≡ got (head_of r).0 (p + title_width form)
    pub counted : (counts form sheet_limits).read s (p + title_width form) ≡ got many (p + head_width form)
    pub count-years : Counted s (p + title_width form) many.0
    pub count-monthdays : Counted s (p + title_width form + form.item_count) many.1.0
    pub count-weeks : Counted s (p + title_width form + form.item_count + form.item_count) many.1.1.0
    pub count-weekdays : Counted s (p + title_width form + form.item_count + form.item_count + form.item_count) many.1.1.1.0
    pub count-spans : Counted s (p + title_width form + form.item_count + form.item_count + form.item_count + form.item_count) (length r.spans)
    pub years-read : read_all year_range.read many.0 s (p + head_width form) ≡ got r.years monthdays-at
    pub monthdays-read : read_all monthday_range.read many.1.0 s monthdays-at ≡ got r.monthdays weeks-at
    pub weeks-read : read_all week_range.read many.1.1.0 s weeks-at ≡ got r.weeks weekdays-at
    pub weekdays-read : read_all week_day_range.read many.1.1.1.0 s weekdays-at ≡ got r.weekdays spans-at
    pub spans-read : read_all span.read (length r.spans) s spans-at ≡ got r.spans q

  pub rule-parts : (s : List ℕ) (p : ℕ) (r : Rule) (q : ℕ) → (rule form sheet_limits).read s p ≡ got r q → RuleParts s p r q
  unfolding rule body several
  rule-parts s p r q e =
      let w = tagged-parts _ _ _ s p r q e in
      let h = w.0 in
      let k = head-parts form s p h w.1 w.2 in
      let t = title-end form s p h.0 k.0 k.1 in
      let c = counts-parts s k.0 h.1 w.1 k.2 in
      let items = w.1 in
      let five = (counts-low form s k.0 h.1 items k.2).5 in
      let v = via-parts _ _ _ s items r q w.3 in
      let b = v.0 in
      let y = then-parts _ _ s items b q v.1 in
      let m = then-parts _ _ s y.0 b.1 q y.2 in
      let n = then-parts _ _ s m.0 b.1.1 q m.2 in
      let d = then-parts _ _ s n.0 b.1.1.1 q n.2 in
      let same : rule_with h b ≡ r = v.2 in
      let lengths : (head_of (rule_with h b)).1 ≡ h.1 = λ i. (
        all-length _ _ s items _ _ y.1 i,
        (all-length _ _ s y.0 _ _ m.1 i, (all-length _ _ s m.0 _ _ n.1 i, (all-length _ _ s n.0 _ _ d.1 i, all-length _ _ s d.0 _ q d.2 i))),
      ) in
      let counted : (head_of r).1 ≡ h.1 = ap (λ x. (head_of x).1) (sym same) ∙ lengths in
      let long : length r.spans ≡ h.1.1.1.1.1 = ap (λ c. c.1.1.1.1) counted in
      let z : items ≡ p + head_width form = omega (arith, t, five) in
      record {
        many = h.1;
        all-counted = sym counted;
        monthdays-at = y.0;
        weeks-at = m.0;
        weekdays-at = n.0;
        spans-at = d.0;
        titled = k.1 ∙ ap (λ j. got h.0 j) t ∙ ap (λ x. got (head_of x).0 (p + title_width form)) same;
        counted = ap (λ j. (counts form sheet_limits).read s j) (sym t) ∙ k.2 ∙ ap (got h.1) z;
        count-years = from t h.1.0 c.0;
        count-monthdays = from (ap (◌+ form.item_count) t) h.1.1.0 c.1;
        count-weeks = from (ap (λ j. j + form.item_count + form.item_count) t) h.1.1.1.0 c.2;
        count-weekdays = from (ap (λ j. j + form.item_count + form.item_count + form.item_count) t) h.1.1.1.1.0 c.3;
        count-spans = from (ap (λ j. j + form.item_count + form.item_count + form.item_count + form.item_count) t) h.1.1.1.1.1 c.4
            ∙ ap (λ o. got o (p + title_width form + form.item_count + form.item_count + form.item_count + form.item_count + form.item_count)) (sym long);
        years-read = ap (λ j. read_all year_range.read h.1.0 s j) (sym z) ∙ y.1 ∙ ap (λ x. got x.years y.0) same;
        monthdays-read = m.1 ∙ ap (λ x. got x.monthdays m.0) same;
        weeks-read = n.1 ∙ ap (λ x. got x.weeks n.0) same;
        weekdays-read = d.1 ∙ ap (λ x. got x.weekdays d.0) same;
        spans-read = ap (λ o. read_all span.read o s d.0) long ∙ d.2 ∙ ap (λ x. got x.spans q) same;
      }
    where
      from : {i j : ℕ} → i ≡ j → (v : ℕ) → Counted s i v → Counted s j v
      from z v c = rw (sym z) c
