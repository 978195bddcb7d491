-- The class of a day, entry by entry of its words; and one lemma for each class.
use Rattle.std.proofs.Common.{◌≡◌, refl, sym, ap, ◌∙◌, List, [], ◌∷◌, Bool, true, false, cond, ℕ, zero, suc, ◌≤◌, ◌<◌, length, get_or, drop, eqb, arith}
use borrow.Author.Tests.{eq-eqb, ne_eqb}
use Rattle.laws.specs.Lists.{every}
use Rattle.laws.proofs.Flags.{and-true}
use Rattle.definition.specs.Rule.{kind_number}
use Rattle.definition.specs.Day.{Entry, Day}
use Rattle.definition.specs.Group.{day_class}
use Rattle.codes.specs.Number.{state_coded}
use Rattle.codes.proofs.Numbers.{kind-number}
use Rattle.day_flat.specs.Day.{unflat_from, unflat, of_kind}

-- after k spans the entries go on
past-spans : (k : ℕ) (ws : List ℕ) → (unflat_from k ws).1 ≡ unflat (drop k ws)
unfolding unflat_from
past-spans zero ws = refl
past-spans (suc k) [] = refl
past-spans (suc k) (w ∷ ws) = past-spans k ws

-- the kind that a word stands for
abbrev pub word_kind : ℕ → ℕ
word_kind w = kind_number (state_coded w).kind

module _ (kind : ℕ) where
  pub kind-none : (words : List ℕ) → length words < 1 → true ≡ every (of_kind kind) (unflat words)
  unfolding every unflat_from
  kind-none [] h = refl
  kind-none (w ∷ ws) h = absurd (omega arith)

  module _ (words : List ℕ) (k : ℕ) (e : k ≡ word_kind (get_or words 0 0)) where
    pub kind-alone : 1 ≤ length words → length words < 2 → eqb k kind ≡ every (of_kind kind) (unflat words)
    kind-alone h l = go words e h l
      where
        go : (words : List ℕ) → k ≡ word_kind (get_or words 0 0) → 1 ≤ length words → length words < 2 → eqb k kind ≡ every (of_kind kind) (unflat words)
        go [] e h l = absurd (omega arith)
        go (w ∷ []) e h l = unfold every unflat_from in rw e (sym (and-true (eqb (word_kind w) kind)))
        go (w ∷ v ∷ ws) e h l = absurd (omega arith)

    pub kind-more : 2 ≤ length words → k ≡ kind → every (of_kind kind) (unflat (drop (get_or words 1 0) (drop 2 words))) ≡ every (of_kind kind) (unflat words)
    kind-more h f = go words e h
      where
        go : (words : List ℕ) → k ≡ word_kind (get_or words 0 0) → 2 ≤ length words
            → every (of_kind kind) (unflat (drop (get_or words 1 0) (drop 2 words))) ≡ every (of_kind kind) (unflat words)
        go [] e h = absurd (omega arith)
        go (w ∷ []) e h = absurd (omega arith)
        go (w ∷ n ∷ ws) e h = unfold every unflat_from in rw (eq-eqb (word_kind w) kind (sym e ∙ f)) (ap (every (of_kind kind)) (sym (past-spans n ws)))

    pub kind-other : 2 ≤ length words → (k ≡ kind → ⊥) → eqb k kind ≡ every (of_kind kind) (unflat words)
    kind-other h f = go words e h
      where
        go : (words : List ℕ) → k ≡ word_kind (get_or words 0 0) → 2 ≤ length words → eqb k kind ≡ every (of_kind kind) (unflat words)
        go [] e h = absurd (omega arith)
        go (w ∷ []) e h = absurd (omega arith)
        go (w ∷ n ∷ ws) e h = unfold every unflat_from in ne_eqb k kind f ∙ sym (rw (ne_eqb (word_kind w) kind (λ q. f (e ∙ q))) refl)

-- ## The class, by the kind of the first entry and whether all have it
module _ (e : Entry) (d : Day) where
  abbrev all_of : ℕ → Bool
  all_of k = every (of_kind k) (e ∷ d)

  entry-open : kind_number e.0.kind ≡ 0 → cond (all_of 0) 1 2 ≡ day_class (e ∷ d)
  unfolding day_class every
  entry-open q = rw q

  entry_closed : kind_number e.0.kind ≡ 1 → 5 ≡ day_class (e ∷ d)
  unfolding day_class every
  entry_closed q = rw q

  entry-unknown : kind_number e.0.kind ≡ 2 → cond (all_of 2) 3 4 ≡ day_class (e ∷ d)
  unfolding day_class every
  entry-unknown q = rw q

-- k is the kind of the first entry
module _ (words : List ℕ) (some : 1 ≤ length words) (k : ℕ) (e : k ≡ word_kind (get_or words 0 0)) where
  -- whatever holds of every day that begins with an entry of this kind
  first-day : (P : Day → Type 0) → ((x : Entry) (d : Day) → kind_number x.0.kind ≡ k → P (x ∷ d)) → P (unflat words)
  first-day P h = go words some e
    where
      go : (words : List ℕ) → 1 ≤ length words → k ≡ word_kind (get_or words 0 0) → P (unflat words)
      go [] l e = absurd (omega arith)
      go (w ∷ []) l e = unfold unflat_from in h (state_coded w, []) [] (sym e)
      go (w ∷ n ∷ ws) l e = unfold unflat_from in h (state_coded w, (unflat_from n ws).0) (unflat_from n ws).1 (sym e)

  pub class-closed : k ≡ 1 → 5 ≡ day_class (unflat words)
  class-closed q = first-day (λ d. 5 ≡ day_class d) (λ x d f. entry_closed x d (f ∙ q))

  module _ (alike : Bool) (l : alike ≡ every (of_kind k) (unflat words)) (v : Bool) (f : alike ≡ v) where
    told : (j : ℕ) → k ≡ j → every (of_kind j) (unflat words) ≡ v
    told j q = ap (λ i. every (of_kind i) (unflat words)) (sym q) ∙ sym l ∙ f

    pub class-open : k ≡ 0 → cond v 1 2 ≡ day_class (unflat words)
    class-open q =
        ap (λ b. cond b 1 2) (sym (told 0 q))
        ∙ first-day (λ d. cond (every (of_kind 0) d) 1 2 ≡ day_class d) (λ x d g. entry-open x d (g ∙ q))

    pub class-unknown : (k ≡ 0 → ⊥) → (k ≡ 1 → ⊥) → cond v 3 4 ≡ day_class (unflat words)
    class-unknown o c =
        let q : k ≡ 2 = omega (arith, e, kind-number (get_or words 0 0)) in
        ap (λ b. cond b 3 4) (sym (told 2 q))
        ∙ first-day (λ d. cond (every (of_kind 2) d) 3 4 ≡ day_class d) (λ x d g. entry-unknown x d (g ∙ q))

pub class-none : (words : List ℕ) → length words < 1 → 0 ≡ day_class (unflat words)
unfolding day_class unflat_from
class-none [] e = refl
class-none (w ∷ ws) e = absurd (omega arith)
