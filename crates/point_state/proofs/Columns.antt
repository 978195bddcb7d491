-- THE COLUMNS OF A DIMENSION BY KINDS, one column more at a time: it has the marks of an earlier one, and no rule tells them apart; or it is of a new kind, whose
-- example it is.
use mathlib.Core.Path.{◌≡◌, refl, sym, ap, ap₂, ◌∙◌, subst}
use mathlib.Core.Bool.{Bool, true, false, cond}
use mathlib.Core.List.{List, [], ◌∷◌}
use Prim.Native.Nat.{ℕ, zero, suc, ◌+◌, ◌*◌, ◌^◌, ◌≤◌, ◌<◌}
use native.Mathlib.Nat.{pow-suc, pow-le-pow_right}
use native.Mathlib.Omega.{arith}
use lib.Dec.{eqb}
use lib.ListN.{length, get_or, set}
use lib.Seq.{get_or-set_same, get_or-set_other}
use borrow.Author.Count.{below_more}
use borrow.Author.Tests.{eq-eqb, ne_eqb}
use Rattle.std.specs.Int.{from_bool}
use Rattle.laws.proofs.Flags.{bit-flag}
use Rattle.tables.specs.Cuts.{cut_of}
use Rattle.plain_lists.specs.Covers.{holds_in}
use Rattle.point_state.specs.Few.{Alike, marks_of, Kinds}

-- a map with another value at one place
with : (ℕ → ℕ) → ℕ → ℕ → ℕ → ℕ
with f at v x = cond (eqb x at) v (f x)

with-there : (f : ℕ → ℕ) (at v : ℕ) → with f at v at ≡ v
unfolding with
with-there f at v = rw (eq-eqb at at refl)

with-else : (f : ℕ → ℕ) (at v x : ℕ) → x < at → with f at v x ≡ f x
unfolding with
with-else f at v x h = rw (ne_eqb x at (λ e. omega arith))

-- ## Marks
bit-low : (b : Bool) → cond b 1 0 ≤ 1
bit-low true = omega arith
bit-low false = omega arith

-- a flag as a number
flag-number : (b : Bool) → from_bool b ≡ cond b 1 0
flag-number true = refl
flag-number false = refl

pub flag-low : (b : Bool) → from_bool b ≤ 1
flag-low true = omega arith
flag-low false = omega arith

module _ (counts ranges : List ℕ) (i : ℕ) where
  pub marks-start : (value : ℕ) → 0 ≡ marks_of counts ranges 0 i value
  unfolding marks_of
  marks-start value = refl

  pub marks-more : (k value marks bit : ℕ) (held : Bool) → marks ≡ marks_of counts ranges k i value → held ≡ holds_in counts ranges k i value → bit ≡ from_bool held
      → marks * 2 + bit ≡ marks_of counts ranges (k + 1) i value
  unfolding marks_of
  marks-more k value marks bit held e t b =
      ap₂ (λ m n. m * 2 + n) e (b ∙ flag-number held ∙ ap (λ h. cond h 1 0) t) ∙ ap (λ n. marks_of counts ranges n i value) (let z : suc k ≡ k + 1 = omega arith in z)

  marks-low : (k value : ℕ) → marks_of counts ranges k i value < 2 ^ k
  unfolding marks_of
  marks-low zero value = omega arith
  marks-low (suc k) value = omega (arith, marks-low k value, bit-low (holds_in counts ranges k i value), pow-suc 2 k)

  pub marks-fit : (k value : ℕ) → k ≤ 32 → marks_of counts ranges k i value < 2 ^ 32
  marks-fit k value h = omega (arith, marks-low k value, pow-le-pow_right {n = 2} (omega arith) {i = k} {j = 32} h)

  -- values with the same marks are alike
  marks-alike : (k x y : ℕ) → marks_of counts ranges k i x ≡ marks_of counts ranges k i y → Alike counts ranges k i x y
  unfolding marks_of
  marks-alike zero x y e = λ rule l. absurd (omega arith)
  marks-alike (suc k) x y e =
      let a = bit-low (holds_in counts ranges k i x) in
      let b = bit-low (holds_in counts ranges k i y) in
      let before : marks_of counts ranges k i x ≡ marks_of counts ranges k i y = omega arith in
      let last : ◌≡◌ {A = ℕ} (cond (holds_in counts ranges k i x) 1 0) (cond (holds_in counts ranges k i y) 1 0) = omega arith in λ rule l.
      below_more (λ j. holds_in counts ranges j i x ≡ holds_in counts ranges j i y) k (marks-alike k x y before)
      (sym (bit-flag (holds_in counts ranges k i x)) ∙ ap (λ v. eqb v 1) last ∙ bit-flag (holds_in counts ranges k i y)) rule (omega arith)

-- ## Kinds
module _ (counts ranges : List ℕ) (rules : ℕ) (rows cuts : List ℕ) (i : ℕ) where
  -- the marks of the first columns stand in a buffer
  abbrev pub Marked : List ℕ → ℕ → Type 0
  Marked marks columns = (x : ℕ) → x < columns → get_or marks x 0 ≡ marks_of counts ranges rules i (cut_of rows cuts i x)

  pub marked_more : (marks : List ℕ) (column first mark : ℕ) → first ≡ get_or rows i 0 → mark ≡ marks_of counts ranges rules i (get_or cuts (first + column) 0)
      → column < length marks → Marked marks column → Marked (set marks column mark) (column + 1)
  unfolding cut_of
  marked_more marks column first mark e m h before =
      below_more (λ x. get_or (set marks column mark) x 0 ≡ marks_of counts ranges rules i (cut_of rows cuts i x)) column
      (λ x l. get_or-set_other marks column x mark 0 (omega arith) ∙ before x l)
      (get_or-set_same marks column mark 0 h ∙ m ∙ ap (λ n. marks_of counts ranges rules i (get_or cuts (n + column) 0)) e)

  -- each its own kind
  pub kinds-all : (columns : ℕ) → Kinds counts ranges rules rows cuts i columns columns
  kinds-all columns = record { kind = λ x. x; example = λ x. x; low = λ x h. h; alike = λ x h rule l. refl }

  -- the first of some columns
  pub kinds-passed : (columns passed kinds : ℕ) → columns ≤ passed → Kinds counts ranges rules rows cuts i passed kinds → Kinds counts ranges rules rows cuts i columns kinds
  kinds-passed columns passed kinds h k = record {
    kind = k.kind;
    example = k.example;
    low = λ x l. k.low x (omega arith);
    alike = λ x l. k.alike x (omega arith);
  }

  pub kinds-none : Kinds counts ranges rules rows cuts i 0 0
  kinds-none = kinds-all 0

  module _ (columns kinds : ℕ) (before : Kinds counts ranges rules rows cuts i columns kinds) where
    abbrev Like : ℕ → ℕ → Type 0
    Like x y = Alike counts ranges rules i (cut_of rows cuts i x) (cut_of rows cuts i y)

    -- of the kind of an earlier one, which has the same marks
    pub kinds-like : (marks : List ℕ) → Marked marks (columns + 1) → (y : ℕ) → y < columns → get_or marks y 0 ≡ get_or marks columns 0
        → Kinds counts ranges rules rows cuts i (columns + 1) kinds
    kinds-like marks marked y l e = record {
      kind = kind;
      example = before.example;
      low = below_more (λ x. kind x < kinds) columns
          (λ x h. subst (λ k. k < kinds) (sym (with-else before.kind columns (before.kind y) x h)) (before.low x h))
          (subst (λ k. k < kinds) (sym (with-there before.kind columns (before.kind y))) (before.low y l));
      alike = below_more (λ x. Like x (before.example (kind x))) columns
          (λ x h. subst (λ k. Like x (before.example k)) (sym (with-else before.kind columns (before.kind y) x h)) (before.alike x h))
          (subst (λ k. Like columns (before.example k)) (sym (with-there before.kind columns (before.kind y))) (λ rule m. sym (same rule m) ∙ before.alike y l rule m));
    }
      where
        same : Like y columns
        same = marks-alike counts ranges i rules (cut_of rows cuts i y) (cut_of rows cuts i columns) (sym (marked y (omega arith)) ∙ e ∙ marked columns (omega arith))

        kind : ℕ → ℕ
        kind = with before.kind columns (before.kind y)

    -- of a new kind
    pub kinds-new : Kinds counts ranges rules rows cuts i (columns + 1) (kinds + 1)
    kinds-new = record {
      kind = kind;
      example = example;
      low = below_more (λ x. kind x < kinds + 1) columns
          (λ x h. subst (λ k. k < kinds + 1) (sym (with-else before.kind columns kinds x h)) (omega (arith, before.low x h)))
          (subst (λ k. k < kinds + 1) (sym (with-there before.kind columns kinds)) (omega arith));
      alike = below_more (λ x. Like x (example (kind x))) columns
          (λ x h. subst (Like x) (sym (ap example (with-else before.kind columns kinds x h) ∙ with-else before.example kinds columns (before.kind x) (before.low x h))) (before.alike x h))
          (subst (Like columns) (sym (ap example (with-there before.kind columns kinds) ∙ with-there before.example kinds columns)) (λ rule m. refl));
    }
      where
        kind : ℕ → ℕ
        kind = with before.kind columns kinds

        example : ℕ → ℕ
        example = with before.example kinds columns

-- ## Four dimensions
module _ (counts ranges : List ℕ) (rules : ℕ) (rows sizes cuts : List ℕ) (years months weeks weekdays : ℕ)
    (by-year : Kinds counts ranges rules rows cuts 0 (get_or sizes 0 0) years) (by-month : Kinds counts ranges rules rows cuts 1 (get_or sizes 1 0) months)
    (by-week : Kinds counts ranges rules rows cuts 2 (get_or sizes 2 0) weeks) (by-weekday : Kinds counts ranges rules rows cuts 3 (get_or sizes 3 0) weekdays) where
  pub four-kinds : (i : ℕ) → i < 4 → Kinds counts ranges rules rows cuts i (get_or sizes i 0) (get_or (years ∷ months ∷ weeks ∷ weekdays ∷ []) i 0)
  four-kinds zero h = by-year
  four-kinds (suc zero) h = by-month
  four-kinds (suc (suc zero)) h = by-week
  four-kinds (suc (suc (suc zero))) h = by-weekday
  four-kinds (suc (suc (suc (suc i)))) h = absurd (omega arith)
