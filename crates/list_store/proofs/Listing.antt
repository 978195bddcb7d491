-- The list that a number names, and a list with a rule at its end at another place. Rests on the laws of lists at places and of copied words.
use mathlib.Core.Path.{◌≡◌, refl, sym, ap, ◌∙◌}
use mathlib.Core.Bool.{true}
use mathlib.Core.List.{List, [], ◌∷◌, ◌++◌}
use Prim.Native.Nat.{ℕ, zero, suc, ◌+◌, ◌-◌, ◌*◌, ◌≤◌, ◌<◌}
use native.Mathlib.Omega.{arith}
use lib.Dec.{ltb}
use lib.ListN.{length, get_or, set, length-set}
use lib.Seq.{get_or-set_same, get_or-set_other}
use Rattle.tables.specs.Sizes.{list_limit, list_places}
use Rattle.tables.specs.Lists.{list_of, named}
use Rattle.tables.specs.Copied.{Copied}
use Rattle.tables.proofs.Lists.{list_length, list-more, list-one}
use Rattle.list_store.specs.Draw.{Appended}

-- ## The list that a number names
named_none : (lists : List ℕ) (number : ℕ) → number ≡ 0 → named lists number ≡ []
unfolding named
named_none lists number e = rw e

named-place : (lists : List ℕ) (number : ℕ) → (number ≡ 0 → ⊥) → named lists number ≡ list_of lists (number - 1)
unfolding named
named-place lists zero h = absurd (h refl)
named-place lists (suc p) h = let e : p ≡ suc p - 1 = omega arith in ap (list_of lists) e

pub named-length : (lists : List ℕ) (number : ℕ) → (number ≡ 0 → ⊥) → get_or lists ((number - 1) * list_places) 0 ≡ length (named lists number)
named-length lists number h = sym (ap length (named-place lists number h) ∙ list_length lists (number - 1))

pub room-none : (lists : List ℕ) (number : ℕ) → number ≡ 0 → true ≡ ltb (length (named lists number)) list_limit
room-none lists number e = rw (named_none lists number e)

-- ## A list with a rule more
module _ (lists : List ℕ) (number place rule : ℕ) (room : place * list_places + list_places ≤ length lists) where
  pub appended-first : number ≡ 0 → Appended lists (set (set lists (place * list_places) 1) (place * list_places + 1) rule) number place rule
  appended-first e = record {
    ended =
        list-one (set once at rule) place rule (get_or-set_other once at (place * list_places) rule 0 (omega arith) ∙ get_or-set_same lists (place * list_places) 1 0 (omega arith))
        (get_or-set_same once at rule 0 (omega (arith, length-set lists (place * list_places) 1))) ∙ ap (◌++ (rule ∷ [])) (sym (named_none lists number e));
    kept = λ i l. get_or-set_other once at i rule 0 (omega arith) ∙ get_or-set_other lists (place * list_places) i 1 0 (omega arith);
  }
    where
      at : ℕ
      at = place * list_places + 1

      once : List ℕ
      once = set lists (place * list_places) 1

  -- the list's words copied to s, and maybe some behind them, then its count and the rule
  pub appended-more : (s : List ℕ) (n words at : ℕ) → n ≤ words → length s ≡ length lists → (number ≡ 0 → ⊥) → n < list_limit → n ≡ get_or lists ((number - 1) * list_places) 0
      → Copied lists s ((number - 1) * list_places + 1) (place * list_places + 1) words → at ≡ place * list_places + 1 + n
      → Appended lists (set (set s (place * list_places) (n + 1)) at rule) number place rule
  appended-more s n words at more same h few z c p = record {
    ended =
        list-more lists (set once at rule) (number - 1) place n rule z (get_or-set_other once at (place * list_places) rule 0 (omega arith) ∙ get_or-set_same s (place * list_places) (n + 1) 0 (omega arith))
        (λ k l. get_or-set_other once at (place * list_places + 1 + k) rule 0 (omega arith) ∙ get_or-set_other s (place * list_places) (place * list_places + 1 + k) (n + 1) 0 (omega arith) ∙ c.copied k (omega arith))
        (ap (λ m. get_or (set once at rule) m 0) (sym p) ∙ get_or-set_same once at rule 0 (omega (arith, length-set s (place * list_places) (n + 1))))
        ∙ ap (◌++ (rule ∷ [])) (sym (named-place lists number h));
    kept = λ i l. get_or-set_other once at i rule 0 (omega arith) ∙ get_or-set_other s (place * list_places) i (n + 1) 0 (omega arith) ∙ c.low i (omega arith);
  }
    where
      once : List ℕ
      once = set s (place * list_places) (n + 1)
