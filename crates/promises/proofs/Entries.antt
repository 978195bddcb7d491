-- DEMAND 1 AND 2, AN ENTRY THAT WRITES: reading refuses; then the entry may refuse by codes of its own; then there is room for what it writes, or
-- not. For every entry of that shape each code comes exactly when its row of the table holds, with its place, and a refused sheet isn't written.
-- Rests on how a sheet is read.
use mathlib.Core.Path.{◌≡◌, refl, sym, ap, ap₂, ◌∙◌, subst}
use mathlib.Core.List.{List, []}
use mathlib.Core.Logic.{◌⊎◌, inl, inr}
use mathlib.Core.Bool.{Bool, true, false}
use Prim.Native.Nat.{ℕ, ◌≤◌}
use lib.Dec.{eqb, ltb}
use lib.ListN.{length}
use borrow.Author.Tests.{eqb-true, ltb-true, ltb-false}
use Rattle.definition.specs.Field.{Read, got, refused, no_room}
use Rattle.definition.specs.Rule.{Rule}
use Rattle.definition.specs.Sheet.{Form, Limits, decode}
use Rattle.definition.specs.Fold.{Written, unwritten, written_into}
use Rattle.definition.proofs.Writing.{written-not, written-fine}
use Rattle.promises.specs.Conditions.{Accepted, ReadingRows, WritingRows}
use Rattle.promises.specs.Codes.{Exactly}
use Rattle.promises.proofs.Reading.{row, reading-rows, reading-told}

-- an entry's answer, the rules that are ready to be written, what is written of them, and the rows of its table behind those of reading
pub record Entry (form : Form) (limits : Limits) (sheet : List ℕ) (room : ℕ) (answer : Written) (Ready : List Rule → Type 0) (write : List Rule → List ℕ)
    (Rows : ℕ → ℕ → Type 0) : Type 0 where
  pub refused-answer : (c p : ℕ) → decode form limits sheet ≡ refused c p → answer ≡ unwritten c p
  pub ready-answer : (rs : List Rule) → Ready rs → answer ≡ written_into room (write rs)
  -- accepted rules are refused by a row of the entry's own, or ready; and so is each row
  pub accepted-cases : (rs : List Rule) → Accepted form limits sheet rs
      → ((c : ℕ) × (p : ℕ) × ReadingRows form limits sheet c p (Rows c p) × (answer ≡ unwritten c p)) ⊎ Ready rs
  pub row-cases : (c p : ℕ) → Rows c p → (answer ≡ unwritten c p) ⊎ WritingRows room Ready write c p
  -- no row of its own has the code 7 or 0
  pub room_row : (p : ℕ) → WritingRows room Ready write no_room p → Rows no_room p
  pub done-row : (p : ℕ) → Exactly (Rows 0 p) (WritingRows room Ready write 0 p)

module _ {form : Form} {limits : Limits} {sheet : List ℕ} {room : ℕ} {answer : Written} {Ready : List Rule → Type 0} {write : List Rule
    → List ℕ} {Rows : ℕ → ℕ → Type 0}
    (entry : Entry form limits sheet room answer Ready write Rows) where
  abbrev Table : ℕ → ℕ → Type 0
  Table c p = ReadingRows form limits sheet c p (Rows c p)

  abbrev Done : ℕ → Type 0
  Done p = (rs : List Rule) × Ready rs × (length (write rs) ≤ room) × (p ≡ 0)

  abbrev written : List Rule → Written
  written rs = record { code = 0; bytes = length (write rs); place = 0; result = write rs }

  done-answer : (p : ℕ) (d : Done p) → answer ≡ written d.0
  done-answer p d = entry.ready-answer d.0 d.1 ∙ written-fine room (write d.0) d.2

  -- ## Each row settles the answer: a refusal, or done
  outcome : (c p : ℕ) → Table c p → (answer ≡ unwritten c p) ⊎ ((c ≡ 0) × Done p)
  outcome c p = reading-rows form limits sheet c p (λ e. inl (entry.refused-answer c p e)) (λ h. own (entry.row-cases c p h))
    where
      own : (answer ≡ unwritten c p) ⊎ WritingRows room Ready write c p → (answer ≡ unwritten c p) ⊎ ((c ≡ 0) × Done p)
      own (inl e) = inl e
      own (inr h) = row (eqb c no_room)
          (λ t k. inl (entry.ready-answer k.0 k.1 ∙ written-not room (write k.0) k.2 ∙ ap₂ unwritten (sym (eqb-true c no_room t)) (sym k.3)))
          (row (eqb c 0) (λ t k. inr (eqb-true c 0 t, k)) (λ k. absurd k)) h

  always : (c p : ℕ) → Table c p → (answer.code ≡ c) × (answer.place ≡ p)
  always c p h = go (outcome c p h)
    where
      go : (answer ≡ unwritten c p) ⊎ ((c ≡ 0) × Done p) → (answer.code ≡ c) × (answer.place ≡ p)
      go (inl e) = (ap (λ w. w.code) e, ap (λ w. w.place) e)
      go (inr (z, d)) = let e = done-answer p d in (ap (λ w. w.code) e ∙ sym z, ap (λ w. w.place) e ∙ sym d.3)

  -- ## Some row holds
  told : Table answer.code answer.place
  told = go (decode form limits sheet) refl
    where
      tell : (w : Written) → answer ≡ w → Table w.code w.place → Table answer.code answer.place
      tell w e h = subst (λ w. Table w.code w.place) (sym e) h

      fits : (rs : List Rule) → Ready rs → (b : Bool) → ltb room (length (write rs)) ≡ b → Table answer.code answer.place
      fits rs a true t =
          let l = ltb-true room (length (write rs)) t in
          tell _ (entry.ready-answer rs a ∙ written-not room (write rs) l) (entry.room_row _ (rs, a, l, refl))
      fits rs a false t =
          let d : Done 0 = (rs, a, ltb-false room (length (write rs)) t, refl) in
          tell (written rs) (done-answer 0 d) ((entry.done-row 0).always d)

      ready : (rs : List Rule) → ((c : ℕ) × (p : ℕ) × Table c p × (answer ≡ unwritten c p)) ⊎ Ready rs → Table answer.code answer.place
      ready rs (inl k) = tell _ k.3 k.2
      ready rs (inr a) = fits rs a (ltb room (length (write rs))) refl

      go : (r : Read (List Rule)) → decode form limits sheet ≡ r → Table answer.code answer.place
      go (refused c p) e = tell (unwritten c p) (entry.refused-answer c p e) (reading-told form limits sheet _ c p e)
      go (got rs q) e = ready rs (entry.accepted-cases rs (q, e))

  -- THE TABLE
  pub entry-codes : (c p : ℕ) → Exactly ((answer.code ≡ c) × (answer.place ≡ p)) (Table c p)
  entry-codes c p = record { only = λ h. subst (λ d. Table d p) h.0 (subst (Table answer.code) h.1 told); always = always c p }

  -- WHAT IS WRITTEN: what is to be written of the ready rules, or nothing
  pub entry-writes : answer.code ≡ 0 → (rs : List Rule) × Ready rs × (answer ≡ written rs)
  entry-writes e =
      let d = (entry.done-row answer.place).only ((entry-codes 0 answer.place).only (e, refl)) in
      (d.0, d.1, done-answer answer.place d)

  pub entry-nothing : (answer.code ≡ 0 → ⊥) → (answer.bytes ≡ 0) × (answer.result ≡ [])
  entry-nothing h = go (outcome answer.code answer.place told)
    where
      go : (answer ≡ unwritten answer.code answer.place) ⊎ ((answer.code ≡ 0) × Done answer.place) → (answer.bytes ≡ 0) × (answer.result ≡ [])
      go (inl e) = (ap (λ w. w.bytes) e, ap (λ w. w.result) e)
      go (inr k) = absurd (h k.0)
