-- Rows of items: their tales step by step, and how many bits they take at most.
use mathlib.Core.Path.{◌≡◌, refl, sym, ap, ap₂, ◌∙◌, subst}
use mathlib.Core.List.{List, [], ◌∷◌, ◌++◌, append-nil, append_assoc}
use mathlib.Core.Bool.{Bool, true, false, cond, not, ◌||◌, or-false}
use Prim.Native.Nat.{ℕ, zero, suc, ◌+◌, ◌*◌, ◌-◌, ◌≤◌, ◌<◌}
use native.Mathlib.Omega.{arith}
use lib.Dec.{eqb}
use lib.ListN.{length, length-append}
use borrow.Author.Tests.{eq-eqb, ne_eqb, eqb-true, eqb-false}
use Rattle.laws.proofs.Flags.{or_assoc}
use Rattle.definition.specs.Field.{Read, got, refused, Layout}
use Rattle.definition.specs.Sheet.{year_range, monthday_range, week_range, week_day_range, span}
use Rattle.definition.specs.Stop.{monthday_stops, weekday_stops}
use Rattle.definition.specs.Text.{Text, ascii}
use Rattle.definition.specs.Line.{year_text, month_text, week_text, weekday_text, is_plain, span_text}
use Rattle.definition.proofs.Reading.{Short}
use Rattle.definition.proofs.Lengths.{years-short, monthdays-short, weeks-short, weekdays-short, span-short}
use Rattle.item.specs.declared.sort.Sort.{Sort}
use Rattle.item.specs.declared.sort.Sort.TheVariants.{Years, Monthdays, Weeks, Weekdays, Spans}
use Rattle.item.specs.Sort.{number_of, named}
use Rattle.item.proofs.Sorts.{of-each, of-named}
use Rattle.text.specs.Put.{Put, Within}
use Rattle.text.proofs.Putting.{put-none, put_then}
use Rattle.rule_text.specs.declared.shown.Shown.{Shown}
use Rattle.rule_text.specs.Tale.{Tale, tale, told, item_told}
use Rattle.rule_text.specs.Shows.{Shows}
use Rattle.rule_text.proofs.Telling.{shows-as}
use Rattle.rule_text.specs.Row.{followed, after, nothing, others_told, items_told, opening, part_told}

-- ## How far an item reaches
told-near : {A : Type 0} (L : Layout A) (T : Text A) (wordless : A → Bool) (n : ℕ) → Short L n → n ≤ 52 → (s : List ℕ) (p : ℕ)
    → (told T wordless p (L.read s p)).next ≤ p + 52
told-near L T wordless n short l s p = go (L.read s p) refl
  where
    go : (r : Read _) → L.read s p ≡ r → (told T wordless p r).next ≤ p + 52
    go (got x q) e = omega (arith, short s p x q e)
    go (refused c b) e = omega arith

pub item-near : (sort : ℕ) (s : List ℕ) (p : ℕ) → (item_told sort s p).next ≤ p + 52
item-near sort s p =
    of-each _ _ _ _ _ sort s p (λ (x : Tale). x.next ≤ p + 52) (told-near year_range year_text (λ y. false) 44 years-short (omega arith) s p)
    (told-near monthday_range month_text monthday_stops 34 monthdays-short (omega arith) s p) (told-near week_range week_text (λ w. false) 20 weeks-short (omega arith) s p)
    (told-near week_day_range weekday_text weekday_stops 33 weekdays-short (omega arith) s p) (told-near span span_text (λ x. not (is_plain x)) 52 span-short (omega arith) s p)

-- ## The items behind the first, one by one
-- what is put so far, and that what is left follows it
pub record Ahead (whole : Tale) (sort : ℕ) (s l : List ℕ) (place at to : ℕ) (wordless : Bool) (left : ℕ) (m : List ℕ) : Type 0 where
  pub done : List ℕ
  pub put : Put l place done to m
  pub rest : followed (tale done wordless at) (others_told sort left s at) ≡ whole

pub ahead-start : (sort n : ℕ) (s : List ℕ) (p : ℕ) (l : List ℕ) (place : ℕ) → Ahead (others_told sort n s p) sort s l place p place false n l
ahead-start sort n s p l place = record { done = []; put = put-none l place; rest = refl }

-- so many left, said otherwise
pub ahead-as : {whole : Tale} {sort : ℕ} {s l : List ℕ} {place at to : ℕ} {wordless : Bool} {left left' : ℕ} {m : List ℕ} → left ≡ left'
    → Ahead whole sort s l place at to wordless left m → Ahead whole sort s l place at to wordless left' m
ahead-as {whole} {sort} {s} {l} {place} {at} {to} {wordless} {left} {left'} {m} e a = subst (λ n. Ahead whole sort s l place at to wordless n m) e a

module _ {whole : Tale} {sort : ℕ} {s l : List ℕ} {place at to : ℕ} {wordless : Bool} {left : ℕ} {m : List ℕ}
    (ahead : Ahead whole sort s l place at to wordless left m) where
  abbrev next : Tale
  next = item_told sort s at

  -- one item more
  rest-next : (n : ℕ) → left ≡ suc n
      → followed (tale (ahead.done ++ ((44 ∷ []) ++ next.text)) (wordless || next.wordless) next.next) (others_told sort n s next.next) ≡ whole
  unfolding others_told ascii
  rest-next n e =
      let R = others_told sort n s next.next in
      ap₂ (λ t b. tale t b R.next) (append_assoc ahead.done (44 ∷ next.text) R.text) (or_assoc wordless next.wordless R.wordless)
      ∙ sym (ap (λ k. followed (tale ahead.done wordless at) (others_told sort k s at)) e) ∙ ahead.rest

  pub ahead-room : 0 < left → Within place whole.text → Within (to + 1) next.text
  ahead-room h room = go left refl
    where
      go : (k : ℕ) → left ≡ k → Within (to + 1) next.text
      go zero e = absurd (omega arith)
      go (suc n) e =
          let front = ahead.done ++ (44 ∷ next.text) in
          let R = others_told sort n s next.next in
          omega (
            arith,
            ap (λ x. length x.text) (rest-next n e),
            length-append front R.text,
            length-append ahead.done (44 ∷ next.text),
            ahead.put.ends,
          )

  pub ahead-next : 0 < left → {comma : ℕ} {m₁ m₂ : List ℕ} {r : Shown} → Put m to (44 ∷ []) comma m₁ → Shows next m₁ comma r m₂ → (b : Bool)
      → b ≡ wordless || r.wordless
      → Ahead whole sort s l place r.at r.to b (left - 1) m₂
  ahead-next h {comma} {m₁} {m₂} {r} put shows b e = go left refl
    where
      go : (k : ℕ) → left ≡ k → Ahead whole sort s l place r.at r.to b (left - 1) m₂
      go zero f = absurd (omega arith)
      go (suc n) f =
          let d = ahead.done ++ ((44 ∷ []) ++ next.text) in
          let z : left - 1 ≡ n = omega arith in
          record {
            done = d;
            put = put_then ahead.put (put_then put shows.put);
            rest = ap (λ k. followed (tale d b r.at) (others_told sort k s r.at)) z
                ∙ ap₂ (λ c q. followed (tale d c q) (others_told sort n s q)) (e ∙ ap (wordless ||◌) shows.lacks) shows.read-to ∙ rest-next n f;
          }

  pub ahead-end : left ≡ 0 → Shows whole l place (record { at = at; to = to; wordless = wordless }) m
  unfolding others_told
  ahead-end e =
      let same : tale ahead.done wordless at ≡ whole =
      ap₂ (λ t b. tale t b at) (sym (append-nil ahead.done)) (sym (or-false wordless))
      ∙ sym (ap (λ k. followed (tale ahead.done wordless at) (others_told sort k s at)) e) ∙ ahead.rest
      in
      shows-as same (record { read-to = refl; lacks = refl; put = ahead.put })

-- ## A row
others-near : (sort n : ℕ) (s : List ℕ) (p : ℕ) → (others_told sort n s p).next ≤ p + n * 52
unfolding others_told
others-near sort zero s p = omega arith
others-near sort (suc n) s p = omega (arith, others-near sort n s (item_told sort s p).next, item-near sort s p)

module _ (sort : ℕ) (s : List ℕ) (p : ℕ) where
  pub items-none : (n : ℕ) → n ≡ 0 → nothing p ≡ items_told sort n s p
  unfolding items_told
  items-none n e = sym (rw (e, items_told))

  pub items-some : (n : ℕ) → (n ≡ 0 → ⊥) → followed (item_told sort s p) (others_told sort (n - 1) s (item_told sort s p).next) ≡ items_told sort n s p
  unfolding items_told
  items-some zero f = absurd (f refl)
  items-some (suc n) f =
      let z : suc n - 1 ≡ n = omega arith in ap (λ k. followed (item_told sort s p) (others_told sort k s (item_told sort s p).next)) z

  pub items-near : (n : ℕ) → (items_told sort n s p).next ≤ p + n * 52
  unfolding items_told
  items-near zero = omega arith
  items-near (suc n) = omega (arith, others-near sort n s (item_told sort s p).next, item-near sort s p)

  -- ## A part
  pub part_none : (n : ℕ) → n ≡ 0 → nothing p ≡ part_told sort n s p
  unfolding part_told
  part_none n e = sym (rw (eq-eqb n 0 e))

  pub part-some : (n : ℕ) → (n ≡ 0 → ⊥) → let x = items_told sort n s p in
      tale (opening sort ++ (x.text ++ (32 ∷ []))) x.wordless x.next ≡ part_told sort n s p
  unfolding part_told ascii
  part-some n e = sym (rw (ne_eqb n 0 e))

  pub part-long : (n : ℕ) → (n ≡ 0 → ⊥) → length (part_told sort n s p).text ≡ length (opening sort) + length (items_told sort n s p).text + 1
  part-long n e =
      let t = (items_told sort n s p).text in
      omega (arith, ap (λ x. length x.text) (part-some n e), length-append (opening sort) (t ++ (32 ∷ [])), length-append t (32 ∷ []))

  pub part-near : (n : ℕ) → (part_told sort n s p).next ≤ p + n * 52
  part-near n = go (eqb n 0) refl
    where
      go : (b : Bool) → eqb n 0 ≡ b → (part_told sort n s p).next ≤ p + n * 52
      go true e = omega (arith, ap (λ x. x.next) (part_none n (eqb-true n 0 e)))
      go false e = omega (arith, ap (λ x. x.next) (part-some n (eqb-false n 0 e)), items-near n)

-- ## A number says what the sort says that it names
module _ (sort number : ℕ) (names : number ≡ named sort) (s : List ℕ) where
  others-named : (n p : ℕ) → others_told number n s p ≡ others_told sort n s p
  unfolding others_told
  others-named zero p = refl
  others-named (suc n) p =
      let x = item_told sort s p in rw (of-named _ _ _ _ _ sort s p number names) (ap (followed (after (ascii ",") x)) (others-named n x.next))

  pub items-named : (n p : ℕ) → items_told number n s p ≡ items_told sort n s p
  unfolding items_told
  items-named zero p = refl
  items-named (suc n) p =
      let x = item_told sort s p in rw (of-named _ _ _ _ _ sort s p number names) (ap (followed x) (others-named n x.next))

  weeks_named : eqb number 2 ≡ eqb sort 2
  weeks_named = rw names (go (eqb sort 0) (eqb sort 1) (eqb sort 2) (eqb sort 3) (eqb-true sort 0) (eqb-true sort 1) refl)
    where
      go : (a b c e : Bool) → (a ≡ true → sort ≡ 0) → (b ≡ true → sort ≡ 1) → eqb sort 2 ≡ c
          → eqb (cond a 0 (cond b 1 (cond c 2 (cond e 3 4)))) 2 ≡ c
      go true b c e z o h = sym (ap (λ k. eqb k 2) (z refl)) ∙ h
      go false true c e z o h = sym (ap (λ k. eqb k 2) (o refl)) ∙ h
      go false false true e z o h = refl
      go false false false true z o h = refl
      go false false false false z o h = refl

  pub part-named : (n p : ℕ) → part_told number n s p ≡ part_told sort n s p
  unfolding part_told opening
  part-named n p = rw (items-named n p, weeks_named) refl

-- "the weeks after `week `"
pub opening-weeks : (sort : Sort) → sort ≡ Weeks → opening (number_of sort) ≡ 119 ∷ 101 ∷ 101 ∷ 107 ∷ 32 ∷ []
unfolding opening ascii
opening-weeks sort e = rw e refl

pub opening-none : (sort : ℕ) → (sort ≡ 2 → ⊥) → opening sort ≡ []
unfolding opening
opening-none sort f = rw (ne_eqb sort 2 f)

pub opening-other : (sort : Sort) → (sort ≡ Weeks → ⊥) → opening (number_of sort) ≡ []
opening-other Years f = opening-none 0 (λ e. omega arith)
opening-other Monthdays f = opening-none 1 (λ e. omega arith)
opening-other Weeks f = absurd (f refl)
opening-other Weekdays f = opening-none 3 (λ e. omega arith)
opening-other Spans f = opening-none 4 (λ e. omega arith)
