-- The title and the counts of a rule that is read: they are the rule's own, and they aren't refused.
use mathlib.Core.Path.{◌≡◌, sym, ap, ◌∙◌}
use mathlib.Core.List.{List}
use Prim.Native.Nat.{ℕ, ◌+◌}
use lib.ListN.{length}
use Rattle.definition.specs.Field.{Read, got, refused}
use Rattle.definition.specs.Rule.{Operator, Kind}
use Rattle.definition.specs.Sheet.{Form, sheet_limits, title_width, head_width, Title, Counts, head_of, title, counts}
use Rattle.definition.proofs.Faithful.{clash}
use Rattle.definition.proofs.RuleParts.{RuleParts, rule-parts, counts-parts}
use Rattle.sheet.specs.Begin.{rule_read_at, Readable}

module _ (form : Form) where
  module _ (s : List ℕ) (p : ℕ) (readable : Readable form s p) where
    -- the rule, part by part
    pub parts : RuleParts form s p (rule_read_at form s p) readable.end
    parts = rule-parts form s p (rule_read_at form s p) readable.end readable.read

    pub title-same : (a : Operator) (b : Kind) (c q : ℕ) → (title form sheet_limits).read s p ≡ got (a, (b, c)) q
        → (a ≡ (rule_read_at form s p).operator) × (b ≡ (rule_read_at form s p).state.kind) × (c ≡ (rule_read_at form s p).state.comment)
    title-same a b c q e =
        let g : ◌≡◌ {A = Read Title} (got (a, (b, c)) q) (got (head_of (rule_read_at form s p)).0 (p + title_width form)) = sym e ∙ parts.titled in
        let t : ◌≡◌ {A = Title} (a, (b, c)) (head_of (rule_read_at form s p)).0 = cc in
        (ap (λ x. x.0) t, ap (λ x. x.1.0) t, ap (λ x. x.1.1) t)

    pub title-refused : {G : Type 0} (c q : ℕ) → (title form sheet_limits).read s p ≡ refused c q → G
    title-refused c q e = clash c q (head_of (rule_read_at form s p)).0 (p + title_width form) (sym e ∙ parts.titled)

    -- the counts, wherever it is known that they begin
    pub counts_same : (n : Counts) (i q : ℕ) → i ≡ p + title_width form → (counts form sheet_limits).read s i ≡ got n q
        → (n ≡ parts.many) × (q ≡ p + head_width form) × (n.1.1.1.1 ≡ length (rule_read_at form s p).spans)
    counts_same n i q z f =
        let e = ap (λ j. (counts form sheet_limits).read s j) (sym z) ∙ f in
        let g : ◌≡◌ {A = Read Counts} (got n q) (got parts.many (p + head_width form)) = sym e ∙ parts.counted in
        let same : n ≡ parts.many = cc in
        let w = form.item_count in
        let spans : ◌≡◌ {A = Read ℕ} (got n.1.1.1.1 (p + title_width form + w + w + w + w + w)) (got (length (rule_read_at form s p).spans) (p + title_width form + w + w + w + w + w)) =
        sym (counts-parts form s (p + title_width form) n q e).4 ∙ parts.count-spans in
        let end : q ≡ p + head_width form = cc in
        let long : n.1.1.1.1 ≡ length (rule_read_at form s p).spans = cc in
        (same, end, long)

    pub counts-refused : {G : Type 0} (i c q : ℕ) → i ≡ p + title_width form → (counts form sheet_limits).read s i ≡ refused c q → G
    counts-refused i c q z e =
        clash c q parts.many (p + head_width form) (sym (ap (λ j. (counts form sheet_limits).read s j) (sym z) ∙ e) ∙ parts.counted)
