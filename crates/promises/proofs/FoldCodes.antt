-- DEMAND 1, THE FOLD: each code comes exactly when its row of the table holds, with its place. The rows are all there are, so a code tells
-- its row; and each row settles the fold. Rests on how a sheet is read, how drained rules are judged and which results pass a form's counts.
use mathlib.Core.Path.{◌≡◌, refl, sym, ap, ◌∙◌, subst}
use mathlib.Core.List.{List}
use mathlib.Core.Logic.{◌⊎◌, inl, inr}
use mathlib.Core.Bool.{Bool, true, false}
use Prim.Native.Nat.{ℕ}
use lib.Dec.{eqb, ltb}
use lib.ListN.{length}
use borrow.Author.Tests.{eqb-true, ltb-true, ltb-false, lt-ltb, le-ltb}
use Rattle.definition.specs.Field.{Read, got, refused, days_twice, many_boxes, long_list, many_lists, past_counts, no_room}
use Rattle.definition.specs.Rule.{Rule}
use Rattle.definition.specs.Sheet.{Form, Limits, decode}
use Rattle.definition.specs.Stop.{drained, left, why}
use Rattle.definition.specs.Point.{dimensions}
use Rattle.definition.specs.Box.{box_count}
use Rattle.definition.specs.Group.{folded}
use Rattle.definition.specs.Fold.{Folded, refusal, fine, drain, fitted, fold}
use Rattle.definition.proofs.FoldCases.{fold-refused, fold_over, fold-past, fold-carried}
use Rattle.promises.specs.Conditions.{written, Accepted, DaysTwice, ManyBoxes, LongList, ManyLists, Foldable, PastCounts, Writable, WritingRows}
use Rattle.promises.specs.Codes.{result, FoldRows, FoldAnswers, FoldCodes}
use Rattle.promises.proofs.Reading.{row, reading-rows, reading-told}
use Rattle.promises.proofs.Draining.{drain-twice, drain-many, drain-long, drain-lists, drain-fine, DrainCases, drain-cases}
use Rattle.promises.proofs.PastCounts.{more-past, PastCases, past_cases, none-past}

-- the answer of an accepted fold, rs being the rules of the sheet
abbrev pub accepted : Form → Limits → List Rule → Folded
accepted form limits rs = record {
  code = 0;
  drained = length (drained rs);
  emitted = length (folded (drained rs));
  left = length (left rs);
  bytes = length (result form limits rs);
  place = 0;
  why = why rs;
  result = result form limits rs;
}

module _ (form : Form) (limits : Limits) (room : ℕ) (sheet : List ℕ) where
  abbrev answer : Folded
  answer = fold form limits room sheet

  -- ## Each row settles the fold
  refused-answer : (c p : ℕ) → decode form limits sheet ≡ refused c p → answer ≡ refusal c p
  refused-answer c p e = fold-refused form limits room sheet c p e

  twice-answer : (p : ℕ) → DaysTwice form limits sheet p → answer ≡ refusal days_twice p
  twice-answer p (rs, a, h) = fold_over form limits room sheet rs a.0 a.1 days_twice p (drain-twice limits (drained rs) p h)

  boxes-answer : (p : ℕ) → ManyBoxes form limits sheet p → answer ≡ refusal many_boxes p
  boxes-answer p (rs, (a, o), l, e) = fold_over form limits room sheet rs a.0 a.1 many_boxes p (drain-many limits (drained rs) p o l e)

  long-answer : (p : ℕ) → LongList form limits sheet p → answer ≡ refusal long_list p
  long-answer p (rs, ((a, o), l), h) = fold_over form limits room sheet rs a.0 a.1 long_list p (drain-long limits (drained rs) p o l h)

  lists-answer : (p : ℕ) → ManyLists form limits sheet p → answer ≡ refusal many_lists p
  lists-answer p (rs, ((a, o), l), h) = fold_over form limits room sheet rs a.0 a.1 many_lists p (drain-lists limits (drained rs) p o l h)

  pub foldable-fine : (rs : List Rule) → Foldable form limits sheet rs → drain limits (drained rs) ≡ fine
  foldable-fine rs (((a, o), l), h) = drain-fine limits (drained rs) o l h

  past-answer : (p : ℕ) → PastCounts form limits sheet p → answer ≡ refusal past_counts p
  past-answer p (rs, h, m, e) =
      fold-past form limits room sheet rs h.0.0.0.0 h.0.0.0.1 (foldable-fine rs h) (more-past form (written rs) m) ∙ ap (refusal past_counts) (sym e)

  -- what can be written, with room for it or without
  fitted-answer : (rs : List Rule) → Writable form limits sheet rs → answer ≡ fitted form limits room rs (folded (drained rs)) (result form limits rs)
  fitted-answer rs (h, n) = fold-carried form limits room sheet rs h.0.0.0.0 h.0.0.0.1 (foldable-fine rs h) (none-past form (written rs) n)

  abbrev NoRoom : ℕ → Type 0
  NoRoom p = WritingRows room (Writable form limits sheet) (result form limits) no_room p

  abbrev pub Done : ℕ → Type 0
  Done p = WritingRows room (Writable form limits sheet) (result form limits) 0 p

  room-answer : (p : ℕ) → NoRoom p → answer ≡ refusal no_room p
  unfolding fitted
  room-answer p h = fitted-answer h.0 h.1 ∙ rw (lt-ltb room (length (result form limits h.0)) h.2, fitted) (ap (refusal no_room) (sym h.3))

  pub done-answer : (p : ℕ) (h : Done p) → answer ≡ accepted form limits h.0
  unfolding fitted
  done-answer p h = fitted-answer h.0 h.1 ∙ rw (le-ltb room (length (result form limits h.0)) h.2, fitted)

  -- a refusal, or done
  outcome : (c p : ℕ) → FoldRows form limits sheet room c p → (answer ≡ refusal c p) ⊎ ((c ≡ 0) × Done p)
  outcome c p =
      reading-rows form limits sheet c p (λ e. inl (refused-answer c p e)) (row (eqb c days_twice) (λ t k. at days_twice t (twice-answer p k))
      (row (eqb c many_boxes) (λ t k. at many_boxes t (boxes-answer p k)) (row (eqb c long_list) (λ t k. at long_list t (long-answer p k))
      (row (eqb c many_lists) (λ t k. at many_lists t (lists-answer p k)) (row (eqb c past_counts) (λ t k. at past_counts t (past-answer p k))
      (row (eqb c no_room) (λ t k. at no_room t (room-answer p k)) (row (eqb c 0) (λ t k. inr (eqb-true c 0 t, k)) (λ k. absurd k))))))))
    where
      at : (d : ℕ) → eqb c d ≡ true → answer ≡ refusal d p → (answer ≡ refusal c p) ⊎ ((c ≡ 0) × Done p)
      at d t e = inl (e ∙ ap (λ i. refusal i p) (sym (eqb-true c d t)))

  always : (c p : ℕ) → FoldRows form limits sheet room c p → FoldAnswers form limits sheet room c p
  always c p h = go (outcome c p h)
    where
      go : (answer ≡ refusal c p) ⊎ ((c ≡ 0) × Done p) → FoldAnswers form limits sheet room c p
      go (inl e) = (ap (λ f. f.code) e, ap (λ f. f.place) e)
      go (inr (z, k)) = let e = done-answer p k in (ap (λ f. f.code) e ∙ sym z, ap (λ f. f.place) e ∙ sym k.3)

  -- ## Some row holds
  tell : (f : Folded) → answer ≡ f → FoldRows form limits sheet room f.code f.place → FoldRows form limits sheet room answer.code answer.place
  tell f e h = subst (λ f. FoldRows form limits sheet room f.code f.place) (sym e) h

  told : FoldRows form limits sheet room answer.code answer.place
  told = go (decode form limits sheet) refl
    where
      fits : (rs : List Rule) → Writable form limits sheet rs → (b : Bool) → ltb room (length (result form limits rs)) ≡ b
          → FoldRows form limits sheet room answer.code answer.place
      fits rs h true t =
          let p = length (result form limits rs) in
          let k : NoRoom p = (rs, h, ltb-true room p t, refl) in
          tell (refusal no_room p) (room-answer p k) k
      fits rs h false t =
          let k : Done 0 = (rs, h, ltb-false room (length (result form limits rs)) t, refl) in
          tell (accepted form limits rs) (done-answer 0 k) k

      counts : (rs : List Rule) → Foldable form limits sheet rs → PastCases form (written rs) → FoldRows form limits sheet room answer.code answer.place
      counts rs h (inl m) = let k : PastCounts form limits sheet 0 = (rs, h, m, refl) in tell (refusal past_counts 0) (past-answer 0 k) k
      counts rs h (inr n) = fits rs (h, n) (ltb room (length (result form limits rs))) refl

      judge : (rs : List Rule) → Accepted form limits sheet rs → DrainCases limits (drained rs) → FoldRows form limits sheet room answer.code answer.place
      judge rs a (inl h) = let k : DaysTwice form limits sheet h.0 = (rs, a, h.1) in tell (refusal days_twice h.0) (twice-answer h.0 k) k
      judge rs a (inr (o, inl l)) =
          let p = box_count dimensions (drained rs) in
          let k : ManyBoxes form limits sheet p = (rs, (a, o), l, refl) in
          tell (refusal many_boxes p) (boxes-answer p k) k
      judge rs a (inr (o, inr (l, inl h))) =
          let k : LongList form limits sheet h.0 = (rs, ((a, o), l), h.1) in
          tell (refusal long_list h.0) (long-answer h.0 k) k
      judge rs a (inr (o, inr (l, inr (inl h)))) =
          let k : ManyLists form limits sheet h.0 = (rs, ((a, o), l), h.1) in
          tell (refusal many_lists h.0) (lists-answer h.0 k) k
      judge rs a (inr (o, inr (l, inr (inr h)))) = counts rs (((a, o), l), h) (past_cases form (written rs))

      go : (r : Read (List Rule)) → decode form limits sheet ≡ r → FoldRows form limits sheet room answer.code answer.place
      go (refused c p) e = tell (refusal c p) (refused-answer c p e) (reading-told form limits sheet _ c p e)
      go (got rs q) e = judge rs (q, e) (drain-cases limits (drained rs))

  -- with any code but 0 the answer is nothing but its code and place
  pub refused-whole : (answer.code ≡ 0 → ⊥) → answer ≡ refusal answer.code answer.place
  refused-whole h = go (outcome answer.code answer.place told)
    where
      go : (answer ≡ refusal answer.code answer.place) ⊎ ((answer.code ≡ 0) × Done answer.place)
          → answer ≡ refusal answer.code answer.place
      go (inl e) = e
      go (inr k) = absurd (h k.0)

  -- THE TABLE
  pub fold-codes : FoldCodes form limits sheet room
  fold-codes c p = record {
    only = λ h. subst (λ d. FoldRows form limits sheet room d p) h.0 (subst (FoldRows form limits sheet room answer.code) h.1 told);
    always = always c p;
  }
