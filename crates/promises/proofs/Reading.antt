-- HOW A SHEET IS READ: refused by 1, 2 or 4 where its fields meet one that is refused, by 3 where it ends badly, else accepted. Rests on the
-- laws of how a sheet is refused and how it ends.
use mathlib.Core.Path.{◌≡◌, refl, sym, ap, ◌∙◌, subst}
use mathlib.Core.List.{List}
use mathlib.Core.Logic.{◌⊎◌, inl, inr}
use mathlib.Core.Bool.{Bool, true, false, cond}
use Prim.Native.Nat.{ℕ, ◌*◌}
use native.Mathlib.Omega.{arith}
use lib.Dec.{eqb}
use borrow.Author.Tests.{eqb-true}
use Rattle.definition.specs.Field.{Read, got, refused, bytes_for, sheet_bits, past_end, unlawful, bad_end, over_limit}
use Rattle.definition.specs.Rule.{Rule}
use Rattle.definition.specs.Sheet.{Form, Limits, rules, decode}
use Rattle.promises.specs.Fields.{FieldKind, is_count, Refused}
use Rattle.promises.specs.Conditions.{PaddingSet, BytesFollow, Met, BadEnd, Accepted, given, ReadingRows}
use Rattle.promises.specs.Codes.{FieldNamed}
use Rattle.promises.proofs.Refusals.{field-named}
use Rattle.promises.proofs.Ends.{EndCases, ended-cases, ended-badly}

-- a row of a table
pub row : {A B T : Type 0} (b : Bool) → (b ≡ true → A → T) → (B → T) → given b A B → T
row true f g x = f refl x
row false f g x = g x

-- a sheet is read in one way
pub accepted-once : (form : Form) (limits : Limits) (sheet : List ℕ) (rs qs : List Rule) → Accepted form limits sheet rs → Accepted form limits sheet qs
    → rs ≡ qs
accepted-once form limits sheet rs qs a b =
    let e : got rs a.0 ≡ got qs b.0 = sym a.1 ∙ b.1 in
    let z : rs ≡ qs = cc in z

module _ (form : Form) (limits : Limits) (sheet : List ℕ) where
  -- ## Each condition settles the reading
  pub met-read : (c p : ℕ) → Met form limits sheet c p → decode form limits sheet ≡ refused c p
  unfolding decode
  met-read c p e = rw e

  end_read : (p : ℕ) → BadEnd form limits sheet p → decode form limits sheet ≡ refused bad_end p
  unfolding decode
  end_read p h = rw h.2 (ended-badly (sheet_bits sheet) h.0 h.1 p h.3)

  -- THE ROWS OF READING: one of them, or another row of the table
  pub reading-rows : {B T : Type 0} (c p : ℕ) → (decode form limits sheet ≡ refused c p → T) → (B → T) → ReadingRows form limits sheet c p B → T
  reading-rows {B} {T} c p f g =
      row (eqb c past_end) (λ t k. at past_end t (met-read past_end p k)) (row (eqb c unlawful) (λ t k. at unlawful t (met-read unlawful p k))
      (row (eqb c over_limit) (λ t k. at over_limit t (met-read over_limit p k)) (row (eqb c bad_end) (λ t k. at bad_end t (end_read p k)) g)))
    where
      at : (d : ℕ) → eqb c d ≡ true → decode form limits sheet ≡ refused d p → T
      at d t e = f (e ∙ ap (λ i. refused i p) (sym (eqb-true c d t)))

  -- 1, 2 OR 4 NAME A FIELD
  pub met-named : FieldNamed form limits sheet
  met-named c p e = field-named form limits (sheet_bits sheet) c p e

  -- ## A REFUSAL TELLS ITS ROW, in any table
  pub reading-told : (B : Type 0) (c p : ℕ) → decode form limits sheet ≡ refused c p → ReadingRows form limits sheet c p B
  reading-told B c p e = go ((rules form limits).read (sheet_bits sheet) 0) refl
    where
      s : List ℕ
      s = sheet_bits sheet

      -- the refusal is the only one
      same : (d i : ℕ) → decode form limits sheet ≡ refused d i → ReadingRows form limits sheet d i B → ReadingRows form limits sheet c p B
      same d i h r =
          let g : refused d i ≡ refused c p = sym h ∙ e in
          let k : d ≡ c = cc in
          let l : i ≡ p = cc in
          subst (λ j. ReadingRows form limits sheet c j B) l (subst (λ j. ReadingRows form limits sheet j i B) k r)

      met : (d i : ℕ) → Met form limits sheet d i → ReadingRows form limits sheet c p B
      met d i h = named (met-named d i h)
        where
          at : (k : ℕ) → d ≡ k → (Met form limits sheet k i → ReadingRows form limits sheet k i B) → ReadingRows form limits sheet c p B
          at k q f = let m = subst (λ j. Met form limits sheet j i) q h in same k i (met-read k i m) (f m)

          fails : (k : FieldKind) (b : Bool) → is_count k ≡ b → d ≡ cond b over_limit unlawful → ReadingRows form limits sheet c p B
          fails k true t q = at over_limit q (λ m. m)
          fails k false t q = at unlawful q (λ m. m)

          named : (k : FieldKind) × Refused form limits s k d i → ReadingRows form limits sheet c p B
          named (k, inl q) = at past_end q.0 (λ m. m)
          named (k, inr q) = fails k (is_count k) refl q.0

      bad : (rs : List Rule) (q i : ℕ) → (rules form limits).read s 0 ≡ got rs q → PaddingSet s q i ⊎ BytesFollow s q i → ReadingRows form limits sheet c p B
      bad rs q i h k = let b : BadEnd form limits sheet i = (rs, q, h, k) in same bad_end i (end_read i b) b

      ends : (rs : List Rule) (q : ℕ) → (rules form limits).read s 0 ≡ got rs q → EndCases s rs q → ReadingRows form limits sheet c p B
      ends rs q h (inl k) = bad rs q k.0 h (inl k.1)
      ends rs q h (inr (z, inl k)) = bad rs q (8 * bytes_for q) h (inr (z, k.0, refl))
      ends rs q h (inr (z, inr k)) =
          let a : decode form limits sheet ≡ got rs q = unfold decode in rw h k.1 in
          let g : got rs q ≡ refused c p = sym a ∙ e in
          let n : ◌≡◌ {A = ℕ} 0 1 = cc in
          absurd (omega arith)

      go : (r : Read (List Rule)) → (rules form limits).read s 0 ≡ r → ReadingRows form limits sheet c p B
      go (refused d i) h = met d i h
      go (got rs q) h = ends rs q h (ended-cases s rs q)
