-- The tale of rows that are read has the definition's text of their items. Proved once for any layout, and then for a rule's days and spans.
use mathlib.Core.Path.{◌≡◌, refl, sym, ap, ap₂, ◌∙◌}
use mathlib.Core.List.{List, [], ◌∷◌, ◌++◌, flat_map, append_assoc}
use mathlib.Core.Bool.{Bool, false, ◌||◌, not}
use Prim.Native.Nat.{ℕ, zero, suc, ◌+◌}
use native.Mathlib.Omega.{arith}
use lib.ListN.{length}
use Rattle.laws.specs.Lists.{any_of}
use Rattle.definition.specs.Field.{got, read_all, Layout}
use Rattle.definition.specs.Rule.{Rule}
use Rattle.definition.specs.Sheet.{Form, head_width, year_range, monthday_range, week_range, week_day_range, span}
use Rattle.definition.specs.Stop.{monthday_stops, weekday_stops}
use Rattle.definition.specs.Text.{Text, ascii, word, ◌then◌, unless, several}
use Rattle.definition.specs.Line.{year_text, month_text, week_text, weekday_text, is_plain, span_text, part}
use Rattle.definition.proofs.Reading.{all-parts}
use Rattle.definition.proofs.RuleParts.{RuleParts}
use Rattle.item.proofs.Sorts.{of-years, of-monthdays, of-weeks, of-weekdays, of-spans}
use Rattle.rule_text.specs.Tale.{tale, told, item_told}
use Rattle.rule_text.specs.Row.{followed, after, others_told, items_told, opening, part_told}
use Rattle.rule_text.specs.Rule.{days_told, days_text}
use Rattle.rule_text.proofs.Rows.{opening-none, part-some}
use Rattle.rule_text.proofs.Rules.{days-parts}

-- ## Over the layout
module _ {A : Type 0} (L : Layout A) (T : Text A) (wordless : A → Bool) (sort : ℕ)
    (same : (s : List ℕ) (p : ℕ) → told T wordless p (L.read s p) ≡ item_told sort s p) where
  item-read : (s : List ℕ) (p : ℕ) (x : A) (q : ℕ) → L.read s p ≡ got x q → item_told sort s p ≡ tale (T.write x) (wordless x) q
  item-read s p x q e = sym (same s p) ∙ ap (told T wordless p) e

  others-read : (n : ℕ) (s : List ℕ) (p : ℕ) (xs : List A) (q : ℕ) → read_all L.read n s p ≡ got xs q
      → others_told sort n s p ≡ tale (flat_map (λ y. ascii "," ++ T.write y) xs) (any_of wordless xs) q
  unfolding others_told read_all any_of flat_map
  others-read zero s p xs q e =
      let z : p ≡ q = cc in
      let v : [] ≡ xs = cc in
      ap₂ (λ ys j. tale (flat_map (λ y. ascii "," ++ T.write y) ys) (any_of wordless ys) j) v z
  others-read (suc n) s p xs q e =
      let w = all-parts L.read n s p xs q e in
      ap (λ x. followed (after (ascii ",") x) (others_told sort n s x.next)) (item-read s p w.0 w.1 w.3)
      ∙ ap (followed (after (ascii ",") (tale (T.write w.0) (wordless w.0) w.1))) (others-read n s w.1 w.2 q w.4)
      ∙ ap (λ ys. tale (flat_map (λ y. ascii "," ++ T.write y) ys) (any_of wordless ys) q) w.5

  pub items-read : (n : ℕ) (s : List ℕ) (p : ℕ) (xs : List A) (q : ℕ) → read_all L.read n s p ≡ got xs q
      → items_told sort n s p ≡ tale ((several "," T).write xs) (any_of wordless xs) q
  unfolding items_told read_all any_of several
  items-read zero s p xs q e =
      let z : p ≡ q = cc in
      let v : [] ≡ xs = cc in
      ap₂ (λ ys j. tale ((several "," T).write ys) (any_of wordless ys) j) v z
  items-read (suc n) s p xs q e =
      let w = all-parts L.read n s p xs q e in
      ap (λ x. followed x (others_told sort n s x.next)) (item-read s p w.0 w.1 w.3)
      ∙ ap (followed (tale (T.write w.0) (wordless w.0) w.1)) (others-read n s w.1 w.2 q w.4)
      ∙ ap (λ ys. tale ((several "," T).write ys) (any_of wordless ys) q) w.5

  -- a part, U being the text of its items with what stands before them
  pub part-read : (U : Text (List A)) → ((xs : List A) → opening sort ++ (several "," T).write xs ≡ U.write xs)
      → (n : ℕ) (s : List ℕ) (p : ℕ) (xs : List A) (q : ℕ)
      → read_all L.read n s p ≡ got xs q → part_told sort n s p ≡ tale ((part U).write xs) (any_of wordless xs) q
  unfolding part_told read_all any_of part unless ◌then◌ word ascii
  part-read U h zero s p xs q e =
      let z : p ≡ q = cc in
      let v : [] ≡ xs = cc in
      ap₂ (λ ys j. tale ((part U).write ys) (any_of wordless ys) j) v z
  part-read U h (suc n) s p xs q e =
      let w = all-parts L.read n s p xs q e in
      let row = (several "," T).write xs in
      sym (part-some sort s p (suc n) (λ z. omega arith)) ∙ ap (λ x. tale (opening sort ++ (x.text ++ ascii " ")) x.wordless x.next)
      (items-read (suc n) s p xs q e)
      ∙ ap (λ t. tale t (any_of wordless xs) q) (sym (append_assoc (opening sort) row (ascii " ")) ∙ ap (◌++ ascii " ") (h xs) ∙ filled xs w.0 w.2 w.5)
    where
      filled : (xs : List A) (x : A) (ys : List A) → x ∷ ys ≡ xs → U.write xs ++ ascii " " ≡ (part U).write xs
      filled xs x ys e = sym (ap (λ zs. U.write zs ++ ascii " ") e) ∙ ap (part U).write e

none-lack : {A : Type 0} (xs : List A) → any_of (λ x. false) xs ≡ false
unfolding any_of
none-lack [] = refl
none-lack (x ∷ xs) = none-lack xs

-- ## A rule
module _ (form : Form) (s : List ℕ) (p : ℕ) (r : Rule) (q : ℕ) (w : RuleParts form s p r q) where
  spaceless : {A : Type 0} (T : Text A) (sort : ℕ) → (sort ≡ 2 → ⊥) → (xs : List A) → opening sort ++ (several "," T).write xs ≡ (several "," T).write xs
  spaceless T sort f xs = ap (◌++ (several "," T).write xs) (opening-none sort f)

  weeks-open : (xs : List _) → opening 2 ++ (several "," week_text).write xs ≡ (word "week " then several "," week_text).write xs
  unfolding opening word ◌then◌
  weeks-open xs = refl

  pub days-read : days_told w.many.0 w.many.1.0 w.many.1.1.0 w.many.1.1.1.0 s (p + head_width form)
      ≡ tale (days_text r) (any_of monthday_stops r.monthdays || any_of weekday_stops r.weekdays) w.spans-at
  days-read =
      let y = part-read year_range year_text (λ y. false) 0 (λ s p. of-years _ _ _ _ _ 0 s p refl) (several "," year_text)
      (spaceless year_text 0 (λ e. omega arith)) _ s _ _ _ w.years-read in
      let m = part-read monthday_range month_text monthday_stops 1 (λ s p. of-monthdays _ _ _ _ _ 1 s p (λ e. omega arith) refl) (several "," month_text)
      (spaceless month_text 1 (λ e. omega arith)) _ s _ _ _ w.monthdays-read in
      let k = part-read week_range week_text (λ x. false) 2 (λ s p. of-weeks _ _ _ _ _ 2 s p (λ e. omega arith) (λ e. omega arith) refl) (word "week " then several "," week_text) weeks-open _
      s _ _ _ w.weeks-read in
      let d = part-read week_day_range weekday_text weekday_stops 3 (λ s p. of-weekdays _ _ _ _ _ 3 s p (λ e. omega arith) (λ e. omega arith) (λ e. omega arith) refl) (several "," weekday_text)
      (spaceless weekday_text 3 (λ e. omega arith)) _ s _ _ _ w.weekdays-read in
      let m' = ap (λ x. part_told 1 w.many.1.0 s x.next) y ∙ m in
      let k' = ap (λ x. part_told 2 w.many.1.1.0 s x.next) m' ∙ k in
      let d' = ap (λ x. part_told 3 w.many.1.1.1.0 s x.next) k' ∙ d in
      sym (days-parts _ _ _ _ _ _) ∙ ap₂ followed y (ap₂ followed m' (ap₂ followed k' d'))
      ∙ ap₂ (λ a b. tale (days_text r) (a || (any_of monthday_stops r.monthdays || (b || any_of weekday_stops r.weekdays))) w.spans-at)
      (none-lack r.years) (none-lack r.weeks)

  pub spans-read : items_told 4 (length r.spans) s w.spans-at ≡ tale ((several "," span_text).write r.spans) (any_of (λ x. not (is_plain x)) r.spans) q
  spans-read = items-read span span_text (λ x. not (is_plain x)) 4 (λ s p. of-spans _ _ _ _ _ 4 s p (λ e. omega arith) (λ e. omega arith) (λ e. omega arith) (λ e. omega arith)) _ s _ _ _ w.spans-read
