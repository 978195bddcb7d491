-- The line and the first rule without words, one rule more at a time. Rests on the definition alone, and on where rules begin.
use mathlib.Core.Path.{◌≡◌, refl, sym, ap, ◌∙◌}
use mathlib.Core.List.{List, [], ◌∷◌, ◌++◌, map, flat_map, map-append, append-nil, append_assoc}
use mathlib.Core.Option
use mathlib.Core.Option.{Option, none, some, some-ne-none}
use mathlib.Core.Bool.{Bool, true, false, ◌||◌, not, cond}
use Prim.Native.Nat.{ℕ, zero, suc, ◌+◌, ◌-◌, ◌≤◌}
use native.Mathlib.Omega.{arith}
use lib.Dec.{eqb}
use lib.ListN.{length, get_or}
use borrow.Author.Tests.{ne_eqb}
use Rattle.laws.specs.Lists.{from, first_index}
use Rattle.laws.proofs.Numbers.{from-append}
use Rattle.laws.proofs.Spread.{flat_map-last}
use Rattle.definition.specs.Rule.{Rule}
use Rattle.definition.specs.Sheet.{Form}
use Rattle.definition.specs.Point.{is_normal}
use Rattle.definition.specs.Text.{is_none}
use Rattle.definition.specs.Line.{before, rule_text, line_of}
use Rattle.definition.specs.Show.{wordless, first_wordless}
use Rattle.sheet.specs.Begin.{rule_read_at}
use Rattle.sheet.specs.Rules.{rules_at}
use Rattle.rule_text.specs.Rule.{shown_text, lacks_words}

-- ## One rule more
pub line-more : (xs : List Rule) (r : Rule) → line_of (xs ++ (r ∷ [])) ≡ line_of xs ++ shown_text (is_none xs) r
unfolding line_of shown_text flat_map
line-more [] r = append-nil (rule_text.write r)
line-more (x ∷ xs) r =
    ap (rule_text.write x ++◌) (flat_map-last (λ q. before q.operator ++ rule_text.write q) xs r)
    ∙ sym (append_assoc (rule_text.write x) (flat_map (λ q. before q.operator ++ rule_text.write q) xs) (before r.operator ++ rule_text.write r))

-- an index one further on
later-none : (o : Option ℕ) → Option.map suc o ≡ none → o ≡ none
later-none none e = refl
later-none (some k) e = absurd (some-ne-none (suc k) e)

index-more : (t : Rule → Bool) (xs : List Rule) (r : Rule) → first_index t xs ≡ none → first_index t (xs ++ (r ∷ [])) ≡ cond (t r) (some (length xs)) none
unfolding first_index
index-more t [] r e = go (t r)
  where
    go : (b : Bool) → elim b [ true ↦ some 0 | false ↦ none ] ≡ cond {A = Option ℕ} b (some 0) none
    go true = refl
    go false = refl
index-more t (x ∷ xs) r e = go (t x) refl (index-more t xs r)
  where
    next : (b : Bool) → Option.map suc (cond {A = Option ℕ} b (some (length xs)) none) ≡ cond {A = Option ℕ} b (some (suc (length xs))) none
    next true = refl
    next false = refl

    go : (b : Bool) → t x ≡ b → (first_index t xs ≡ none → first_index t (xs ++ (r ∷ [])) ≡ cond (t r) (some (length xs)) none)
        → first_index t (x ∷ (xs ++ (r ∷ []))) ≡ cond (t r) (some (suc (length xs))) none
    go true h ih = absurd (some-ne-none 0 (rw (h, first_index) at e))
    go false h ih = rw (h, first_index) (ap (Option.map suc) (ih (later-none (first_index t xs) (rw (h, first_index) at e))) ∙ next (t r))

pub wordless-more : (xs : List Rule) (r : Rule) → first_wordless xs ≡ none
    → first_wordless (xs ++ (r ∷ [])) ≡ cond (lacks_words (is_none xs) r) (some (length xs)) none
unfolding first_wordless lacks_words first_index
wordless-more [] r e = go (is_normal r.operator) (wordless r)
  where
    go : (a b : Bool) → elim a [ false ↦ some 0 | true ↦ elim b [ true ↦ some 0 | false ↦ none ] ] ≡ cond {A = Option ℕ} (not a || b) (some 0) none
    go true true = refl
    go true false = refl
    go false b = refl
wordless-more (x ∷ xs) r e = go (is_normal x.operator) refl
  where
    go : (b : Bool) → is_normal x.operator ≡ b → first_wordless (x ∷ (xs ++ (r ∷ []))) ≡ cond (wordless r) (some (suc (length xs))) none
    go true h = rw (h, first_wordless) (index-more wordless (x ∷ xs) r (rw (h, first_wordless) at e))
    go false h = absurd (some-ne-none 0 (rw (h, first_wordless) at e))

-- a rule that was found stays the first
index_stays : (t : Rule → Bool) (xs ys : List Rule) (k : ℕ) → first_index t xs ≡ some k → first_index t (xs ++ ys) ≡ some k
unfolding first_index
index_stays t [] ys k e = absurd (some-ne-none k (sym e))
index_stays t (x ∷ xs) ys k e = go (t x) refl (first_index t xs) refl (index_stays t xs ys)
  where
    go : (b : Bool) → t x ≡ b → (o : Option ℕ) → first_index t xs ≡ o → ((j : ℕ) → first_index t xs ≡ some j → first_index t (xs ++ ys) ≡ some j)
        → first_index t (x ∷ (xs ++ ys)) ≡ some k
    go true h o g ih = rw (h, first_index) (rw (h, first_index) at e)
    go false h none g ih = absurd (some-ne-none k (sym (rw (h, first_index, g) at e)))
    go false h (some j) g ih = rw (h, first_index) (ap (Option.map suc) (ih j g) ∙ rw (h, first_index, g) at e)

pub wordless-stays : (xs ys : List Rule) (k : ℕ) → first_wordless xs ≡ some k → first_wordless (xs ++ ys) ≡ some k
unfolding first_wordless first_index
wordless-stays [] ys k e = absurd (some-ne-none k (sym e))
wordless-stays (x ∷ xs) ys k e = go (is_normal x.operator) refl
  where
    go : (b : Bool) → is_normal x.operator ≡ b → first_wordless (x ∷ (xs ++ ys)) ≡ some k
    go true h = rw (h, first_wordless) (index_stays wordless (x ∷ xs) ys k (rw (h, first_wordless) at e))
    go false h = rw (h, first_wordless) (rw (h, first_wordless) at e)

-- ## The rules at their beginnings
module _ (form : Form) (s begins : List ℕ) where
  pub rules-next : (n : ℕ) → rules_at form s begins n ++ (rule_read_at form s (get_or begins n 0) ∷ []) ≡ rules_at form s begins (suc n)
  unfolding rules_at from
  rules-next n =
      let z : n + 1 ≡ suc n = omega arith in
      sym (map-append (λ k. rule_read_at form s (get_or begins k 0)) (from 0 n) (n ∷ [])) ∙ ap (map (λ k. rule_read_at form s (get_or begins k 0)))
      (from-append 0 n 1 n (omega arith) ∙ ap (from 0) z)

  -- so many rules, and those behind them
  pub rules-rest : (n k : ℕ) → k ≤ n → rules_at form s begins k ++ map (λ j. rule_read_at form s (get_or begins j 0)) (from k (n - k)) ≡ rules_at form s begins n
  unfolding rules_at
  rules-rest n k l =
      let z : k + (n - k) ≡ n = omega arith in
      sym (map-append (λ j. rule_read_at form s (get_or begins j 0)) (from 0 k) (from k (n - k))) ∙ ap (map (λ j. rule_read_at form s (get_or begins j 0)))
      (from-append 0 k (n - k) k (omega arith) ∙ ap (from 0) z)

  pub rules-none : (n : ℕ) → is_none (rules_at form s begins n) ≡ eqb n 0
  unfolding rules_at from
  rules-none zero = refl
  rules-none (suc n) = sym (ne_eqb (suc n) 0 (λ e. omega arith))
