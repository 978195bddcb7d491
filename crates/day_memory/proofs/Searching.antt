-- The search for a day among the places before one: what holds after each place passed, and the number that is answered. Equal words have
-- equal hashes, so no place with another hash has the day.
use mathlib.Core.Path.{◌≡◌, refl, sym, ap, ◌∙◌, subst}
use mathlib.Core.Logic.{inl, inr, ◌⊎◌}
use mathlib.Core.List.{List, [], ◌∷◌}
use mathlib.Core.Bool.{true, false, true≢false}
use Prim.Native.Nat.{ℕ, zero, suc, ◌+◌, ◌≤◌, ◌<◌}
use native.Mathlib.Numerals.{add-one}
use native.Mathlib.Omega.{arith}
use lib.Dec.{eqb}
use lib.ListN.{length, get_or}
use Rattle.laws.specs.Tests.{same_list}
use Rattle.laws.proofs.Tests.{exact-eqb, exact-list}
use Rattle.laws.proofs.Numbers.{order}
use Rattle.tables.specs.Days.{words_of}
use Rattle.day_memory.specs.Days.{FirstSame, hash_of, DaysHashed}

-- up to a place before, no day is that of a place
abbrev pub Passed : (ℕ → List ℕ) → ℕ → ℕ → Type 0
Passed W place before = (before ≤ place) × ((k : ℕ) → k < before → W k ≡ W place → ⊥)

nil-of_length : (xs : List ℕ) → length xs ≡ 0 → xs ≡ []
nil-of_length [] e = refl
nil-of_length (x ∷ xs) e = absurd (omega arith)

module _ (W : ℕ → List ℕ) (words : List ℕ) (place : ℕ) (own : words ≡ W place) where
  -- ## The number
  pub no_words : length words ≡ 0 → FirstSame (words_of W) (W place) (suc place) 0
  unfolding words_of
  no_words e = record { low = omega arith; same = λ l. sym (nil-of_length words e) ∙ own; first = λ k l. absurd (omega arith) }

  module _ (some : length words ≡ 0 → ⊥) (before : ℕ) (passed : Passed W place before) where
    first-number : (before < place → W before ≡ W place) → FirstSame (words_of W) (W place) (suc place) (before + 1)
    unfolding words_of
    first-number same = record {
      low = omega (arith, passed.0);
      same = λ l. ap (words_of W) (add-one before) ∙ same (omega arith);
      first = none;
    }
      where
        none : (k : ℕ) → k < before + 1 → words_of W k ≡ W place → ⊥
        none zero l e = some (ap length (own ∙ sym e))
        none (suc k) l e = passed.1 k (omega arith) e

    -- of a place before, whose day was compared; and a new one
    pub day-found : true ≡ same_list eqb (W before) words → FirstSame (words_of W) (W place) (suc place) (before + 1)
    day-found h = first-number (λ l. (exact-list exact-eqb).equal (W before) words (sym h) ∙ own)

    pub day-new : place ≤ before → FirstSame (words_of W) (W place) (suc place) (place + 1)
    day-new l = let z : before ≡ place = omega (arith, passed.0) in subst (λ n. FirstSame (words_of W) (W place) (suc place) (n + 1)) z (first-number (λ m. absurd (omega arith)))

  -- ## The places passed
  module _ (before : ℕ) (passed : Passed W place before) (more : before < place) where
    passed-more : (W before ≡ W place → ⊥) → Passed W place (before + 1)
    passed-more other = (omega arith, λ k l e. go k e (order k before) l)
      where
        go : (k : ℕ) → W k ≡ W place → (k < before) ⊎ ((k ≡ before) ⊎ (before < k)) → k < before + 1 → ⊥
        go k e (inl l) m = passed.1 k l e
        go k e (inr (inl here)) m = other (sym (ap W here) ∙ e)
        go k e (inr (inr l)) m = absurd (omega arith)

    -- with another hash, or with other words
    pub hash-passed : (hashes : List ℕ) (hash : ℕ) → hash ≡ hash_of (W place) → DaysHashed W hashes place → (get_or hashes before 0 ≡ hash → ⊥) → Passed W place (before + 1)
    hash-passed hashes hash own-hash hashed other = passed-more (λ e. other (hashed before more ∙ ap (λ w. hash_of w) e ∙ sym own-hash))

    pub words-passed : false ≡ same_list eqb (W before) words → Passed W place (before + 1)
    words-passed other = passed-more (λ e.
        true≢false (sym ((exact-list exact-eqb).self (W place)) ∙ ap (λ w. same_list eqb w (W place)) (sym e) ∙ ap (same_list eqb (W before)) (sym own) ∙ sym other))
