-- DEMAND 1, THE LOOKUP: each code comes exactly when its row of the table holds, with its place. Rests on how a sheet is read and how
-- drained rules are judged.
use mathlib.Core.Path.{◌≡◌, refl, sym, ap, ap₂, ◌∙◌, subst}
use mathlib.Core.List.{List, [], ◌∷◌, map}
use mathlib.Core.Logic.{◌⊎◌, inl, inr}
use mathlib.Core.Bool.{Bool, true, false, ◌||◌, not, true≢false}
use Prim.Native.Nat.{ℕ}
use lib.Dec.{eqb}
use borrow.Author.Tests.{eqb-true}
use Rattle.laws.specs.Lists.{any_of, All}
use Rattle.definition.specs.Field.{Read, got, refused, days_twice, many_boxes, long_list, many_lists, no_date, unsettled}
use Rattle.definition.specs.Rule.{closed, Rule}
use Rattle.definition.specs.Sheet.{Form, Limits, decode}
use Rattle.definition.specs.Stop.{drained, left}
use Rattle.definition.specs.Point.{dimensions, list_at}
use Rattle.definition.specs.Box.{box_count}
use Rattle.definition.specs.Day.{Stated, entry_of, flattened, simple, within, last_over}
use Rattle.definition.specs.Date.{point_of}
use Rattle.definition.specs.Fold.{over, drain}
use Rattle.definition.specs.Lookup.{Looked, refusal, found, any_left, state_at, look_rules, lookup}
use Rattle.promises.specs.Conditions.{Accepted, DaysTwice, ManyBoxes, LongList, ManyLists, Foldable}
use Rattle.promises.specs.Codes.{dated, Settled, LookupRows, LookupAnswers, LookupCodes}
use Rattle.promises.proofs.Reading.{row, reading-rows, reading-told}
use Rattle.promises.proofs.Draining.{drain-twice, drain-many, drain-long, drain-lists, drain-fine, DrainCases, drain-cases}

-- ## Settled or not
none_left : (rs : List Rule) → any_left rs ≡ false → rs ≡ []
none_left [] e = refl
none_left (r ∷ rs) e = absurd (true≢false e)

all-simple : (xs : List Stated) → any_of (λ x. not (simple x.1)) xs ≡ false → All (λ x. simple x.1 ≡ true) xs
unfolding any_of
all-simple [] h = tt
all-simple (x ∷ xs) h = go (simple x.1) refl (all-simple xs)
  where
    go : (b : Bool) → simple x.1 ≡ b → (any_of (λ x. not (simple x.1)) xs ≡ false → All (λ x. simple x.1 ≡ true) xs)
        → All (λ x. simple x.1 ≡ true) (x ∷ xs)
    go true e ih = (e, ih (rw e at h))
    go false e ih = absurd (true≢false (rw e at h))

simple-all : (xs : List Stated) → All (λ x. simple x.1 ≡ true) xs → any_of (λ x. not (simple x.1)) xs ≡ false
unfolding any_of
simple-all [] h = refl
simple-all (x ∷ xs) h = rw h.0 (simple-all xs h.1)

module _ (form : Form) (limits : Limits) (sheet : List ℕ) (y mo d m : ℕ) where
  abbrev answer : Looked
  answer = lookup form limits sheet y mo d m

  -- the spans of the point's list
  abbrev spans_at : List Rule → List Stated
  spans_at rs = flattened (map entry_of (list_at (drained rs) (point_of y mo d)))

  abbrev doubt : List Rule → Bool
  doubt rs = any_left (left rs) || any_of (λ x. not (simple x.1)) (spans_at rs)

  settles : (rs : List Rule) → Settled y mo d rs → doubt rs ≡ false
  settles rs h = rw h.0 (simple-all (spans_at rs) h.1)

  settled : (rs : List Rule) → doubt rs ≡ false → Settled y mo d rs
  settled rs e = go (any_left (left rs)) refl
    where
      go : (b : Bool) → any_left (left rs) ≡ b → Settled y mo d rs
      go true t = absurd (true≢false (rw t at e))
      go false t = (none_left (left rs) t, all-simple (spans_at rs) (rw t at e))

  -- ## Each row settles the answer
  refused-answer : (c p : ℕ) → decode form limits sheet ≡ refused c p → answer ≡ refusal c p
  unfolding lookup
  refused-answer c p e = rw (e, lookup)

  date-answer : (rs : List Rule) → Accepted form limits sheet rs → dated y mo d m ≡ false → answer ≡ refusal no_date 0
  unfolding lookup look_rules
  date-answer rs a t = rw (a.1, lookup, t, look_rules)

  over-answer : (rs : List Rule) (c p : ℕ) → dated y mo d m ≡ true → Accepted form limits sheet rs → drain limits (drained rs) ≡ over c p → answer ≡ refusal c p
  unfolding lookup look_rules
  over-answer rs c p t a e = rw (a.1, lookup, t, e, look_rules)

  twice-answer : (p : ℕ) → dated y mo d m ≡ true → DaysTwice form limits sheet p → answer ≡ refusal days_twice p
  twice-answer p t h = over-answer h.0 days_twice p t h.1 (drain-twice limits (drained h.0) p h.2)

  boxes-answer : (p : ℕ) → dated y mo d m ≡ true → ManyBoxes form limits sheet p → answer ≡ refusal many_boxes p
  boxes-answer p t h = over-answer h.0 many_boxes p t h.1.0 (drain-many limits (drained h.0) p h.1.1 h.2 h.3)

  long-answer : (p : ℕ) → dated y mo d m ≡ true → LongList form limits sheet p → answer ≡ refusal long_list p
  long-answer p t h = over-answer h.0 long_list p t h.1.0.0 (drain-long limits (drained h.0) p h.1.0.1 h.1.1 h.2)

  lists-answer : (p : ℕ) → dated y mo d m ≡ true → ManyLists form limits sheet p → answer ≡ refusal many_lists p
  lists-answer p t h = over-answer h.0 many_lists p t h.1.0.0 (drain-lists limits (drained h.0) p h.1.0.1 h.1.1 h.2)

  state-answer : (rs : List Rule) → dated y mo d m ≡ true → Foldable form limits sheet rs → answer ≡ state_at (left rs) (list_at (drained rs) (point_of y mo d)) m
  unfolding lookup look_rules
  state-answer rs t h = rw (h.0.0.0.1, lookup, t, drain-fine limits (drained rs) h.0.0.1 h.0.1 h.1, look_rules)

  doubt-answer : (rs : List Rule) → dated y mo d m ≡ true → Foldable form limits sheet rs → doubt rs ≡ true → answer ≡ refusal unsettled 0
  unfolding state_at
  doubt-answer rs t h e = state-answer rs t h ∙ rw (e, state_at)

  pub found-answer : (rs : List Rule) → dated y mo d m ≡ true → Foldable form limits sheet rs → Settled y mo d rs
      → answer ≡ found (last_over within closed (spans_at rs) m)
  unfolding state_at
  found-answer rs t h s = state-answer rs t h ∙ rw (settles rs s, state_at)

  -- of rules that can be folded, and leave no doubt at a date
  abbrev Sure : ℕ → Type 0
  Sure p = (rs : List Rule) × (dated y mo d m ≡ true) × Foldable form limits sheet rs × Settled y mo d rs × (p ≡ 0)

  -- a refusal, or found
  outcome : (c p : ℕ) → LookupRows form limits sheet y mo d m c p → (answer ≡ refusal c p) ⊎ ((c ≡ 0) × Sure p)
  outcome c p =
      reading-rows form limits sheet c p (λ e. inl (refused-answer c p e)) (row (eqb c no_date) (λ t k. at no_date 0 t k.3 (date-answer k.0 k.1 k.2))
      (row (eqb c days_twice) (λ t k. at days_twice p t refl (twice-answer p k.0 k.1))
      (row (eqb c many_boxes) (λ t k. at many_boxes p t refl (boxes-answer p k.0 k.1))
      (row (eqb c long_list) (λ t k. at long_list p t refl (long-answer p k.0 k.1))
      (row (eqb c many_lists) (λ t k. at many_lists p t refl (lists-answer p k.0 k.1))
      (row (eqb c unsettled) (λ t k. at unsettled 0 t k.4 (doubt-answer k.0 k.1 k.2 (doubts k.0 k.3 (doubt k.0) refl)))
      (row (eqb c 0) (λ t k. inr (eqb-true c 0 t, k)) (λ k. absurd k))))))))
    where
      at : (e i : ℕ) → eqb c e ≡ true → p ≡ i → answer ≡ refusal e i → (answer ≡ refusal c p) ⊎ ((c ≡ 0) × Sure p)
      at e i t q h = inl (h ∙ ap₂ refusal (sym (eqb-true c e t)) (sym q))

      doubts : (rs : List Rule) → (Settled y mo d rs → ⊥) → (b : Bool) → doubt rs ≡ b → doubt rs ≡ true
      doubts rs h true e = e
      doubts rs h false e = absurd (h (settled rs e))

  always : (c p : ℕ) → LookupRows form limits sheet y mo d m c p → LookupAnswers form limits sheet y mo d m c p
  always c p h = go (outcome c p h)
    where
      go : (answer ≡ refusal c p) ⊎ ((c ≡ 0) × Sure p) → LookupAnswers form limits sheet y mo d m c p
      go (inl e) = (ap (λ f. f.code) e, ap (λ f. f.place) e)
      go (inr (z, k)) = let e = found-answer k.0 k.1 k.2 k.3 in (ap (λ f. f.code) e ∙ sym z, ap (λ f. f.place) e ∙ sym k.4)

  -- ## Some row holds
  abbrev Told : Type 0
  Told = LookupRows form limits sheet y mo d m answer.code answer.place

  told : Told
  told = go (decode form limits sheet) refl
    where
      tell : (f : Looked) → answer ≡ f → LookupRows form limits sheet y mo d m f.code f.place → Told
      tell f e h = subst (λ f. LookupRows form limits sheet y mo d m f.code f.place) (sym e) h

      look : (rs : List Rule) → dated y mo d m ≡ true → Foldable form limits sheet rs → (b : Bool) → doubt rs ≡ b → Told
      look rs t h true e = tell (refusal unsettled 0) (doubt-answer rs t h e) (rs, t, h, λ s. absurd (true≢false (sym e ∙ settles rs s)), refl)
      look rs t h false e = let s = settled rs e in tell (found (last_over within closed (spans_at rs) m)) (found-answer rs t h s) (rs, t, h, s, refl)

      judge : (rs : List Rule) → dated y mo d m ≡ true → Accepted form limits sheet rs → DrainCases limits (drained rs) → Told
      judge rs t a (inl h) =
          let k : DaysTwice form limits sheet h.0 = (rs, a, h.1) in
          tell (refusal days_twice h.0) (twice-answer h.0 t k) (t, k)
      judge rs t a (inr (o, inl l)) =
          let p = box_count dimensions (drained rs) in
          let k : ManyBoxes form limits sheet p = (rs, (a, o), l, refl) in
          tell (refusal many_boxes p) (boxes-answer p t k) (t, k)
      judge rs t a (inr (o, inr (l, inl h))) =
          let k : LongList form limits sheet h.0 = (rs, ((a, o), l), h.1) in
          tell (refusal long_list h.0) (long-answer h.0 t k) (t, k)
      judge rs t a (inr (o, inr (l, inr (inl h)))) =
          let k : ManyLists form limits sheet h.0 = (rs, ((a, o), l), h.1) in
          tell (refusal many_lists h.0) (lists-answer h.0 t k) (t, k)
      judge rs t a (inr (o, inr (l, inr (inr h)))) = look rs t (((a, o), l), h) (doubt rs) refl

      date : (rs : List Rule) → Accepted form limits sheet rs → (b : Bool) → dated y mo d m ≡ b → Told
      date rs a false t = tell (refusal no_date 0) (date-answer rs a t) (rs, a, t, refl)
      date rs a true t = judge rs t a (drain-cases limits (drained rs))

      go : (r : Read (List Rule)) → decode form limits sheet ≡ r → Told
      go (refused c p) e = tell (refusal c p) (refused-answer c p e) (reading-told form limits sheet _ c p e)
      go (got rs q) e = date rs (q, e) (dated y mo d m) refl

  -- with any code but 0 the answer is nothing but its code and place
  pub refused-whole : (answer.code ≡ 0 → ⊥) → answer ≡ refusal answer.code answer.place
  refused-whole h = go (outcome answer.code answer.place told)
    where
      go : (answer ≡ refusal answer.code answer.place) ⊎ ((answer.code ≡ 0) × Sure answer.place) → answer ≡ refusal answer.code answer.place
      go (inl e) = e
      go (inr k) = absurd (h k.0)

  -- THE TABLE
  pub lookup-codes : LookupCodes form limits sheet y mo d m
  lookup-codes c p = record {
    only = λ h. subst (λ e. LookupRows form limits sheet y mo d m e p) h.0 (subst (LookupRows form limits sheet y mo d m answer.code) h.1 told);
    always = always c p;
  }
