-- Words copied one after the other: what is read is as it was, where the place written lies before the place read or behind all that is read.
-- And the lists at places with the same words are the same. Rests on the laws of numbers.
use mathlib.Core.Path.{◌≡◌, refl, ap, ◌∙◌}
use mathlib.Core.List.{List, map}
use mathlib.Core.Logic.{◌⊎◌, inl, inr}
use Prim.Native.Nat.{ℕ, zero, suc, ◌+◌, ◌*◌, ◌≤◌, ◌<◌}
use native.Mathlib.Omega.{arith}
use lib.ListN.{length, get_or, set}
use lib.Seq.{get_or-set_same, get_or-set_other}
use borrow.Author.Count.{below_more}
use Rattle.laws.specs.Lists.{from}
use Rattle.laws.proofs.Numbers.{at_most, map-from}
use Rattle.tables.specs.Sizes.{list_limit, list_places}
use Rattle.tables.specs.Lists.{list_of, named, KeptBelow}
use Rattle.tables.specs.Copied.{Copied}

pub copied_none : (words : List ℕ) (at to : ℕ) → Copied words words at to 0
copied_none words at to = record { copied = λ k h. absurd (omega arith); low = λ i h. refl; high = λ i h. refl }

module _ (words s : List ℕ) (at to count i : ℕ) (e : length s ≡ length words) (clear : at < to → at + count ≤ to) (room : to + count ≤ length words) (h : i < count)
    (c : Copied words s at to i) where
  v : ℕ
  v = get_or s (at + i) 0

  read : v ≡ get_or words (at + i) 0
  unfolding v
  read = go (at_most to at)
    where
      go : (to ≤ at) ⊎ (at < to) → get_or s (at + i) 0 ≡ get_or words (at + i) 0
      go (inl a) = c.high (at + i) (omega arith)
      go (inr a) = c.low (at + i) (omega (arith, clear a))

  pub copied_more : Copied words (set s (to + i) (get_or s (at + i) 0)) at to (i + 1)
  unfolding v
  copied_more = record {
    copied = below_more (λ k. get_or (set s (to + i) v) (to + k) 0 ≡ get_or words (at + k) 0) i (λ k l. get_or-set_other s (to + i) (to + k) v 0 (omega arith) ∙ c.copied k l)
        (get_or-set_same s (to + i) v 0 (omega arith) ∙ read);
    low = λ k l. get_or-set_other s (to + i) k v 0 (omega arith) ∙ c.low k l;
    high = λ k l. get_or-set_other s (to + i) k v 0 (omega arith) ∙ c.high k (omega arith);
  }

-- ## Lists at places
-- a list is told by its place's words: how many rules it has, and their numbers
pub list-words : (s t : List ℕ) (p q : ℕ) → ((k : ℕ) → k ≤ get_or s (p * list_places) 0 → get_or t (q * list_places + k) 0 ≡ get_or s (p * list_places + k) 0) → list_of t q ≡ list_of s p
unfolding list_of
list-words s t p q same =
    ap (λ n. map (λ k. get_or t (q * list_places + 1 + k) 0) (from 0 n)) (word 0 (q * list_places) (p * list_places) (omega arith) (omega arith) (omega arith))
    ∙ map-from (λ k. get_or t (q * list_places + 1 + k) 0) (λ k. get_or s (p * list_places + 1 + k) 0) 0 (get_or s (p * list_places) 0)
    (λ k _ l. word (suc k) (q * list_places + 1 + k) (p * list_places + 1 + k) (omega arith) (omega arith) (omega arith))
  where
    word : (k i j : ℕ) → k ≤ get_or s (p * list_places) 0 → i ≡ q * list_places + k → p * list_places + k ≡ j → get_or t i 0 ≡ get_or s j 0
    word k i j l a b = ap (λ n. get_or t n 0) a ∙ same k l ∙ ap (λ n. get_or s n 0) b

pub list_same : (s t : List ℕ) (p q : ℕ) → get_or s (p * list_places) 0 ≤ list_limit
    → ((k : ℕ) → k < list_places → get_or t (q * list_places + k) 0 ≡ get_or s (p * list_places + k) 0) → list_of t q ≡ list_of s p
list_same s t p q short same = list-words s t p q (λ k l. same k (omega arith))

-- places whose words are as they were
pub list-kept : (lists after : List ℕ) (place p : ℕ) → KeptBelow lists after place → p < place → get_or lists (p * list_places) 0 ≤ list_limit → list_of after p ≡ list_of lists p
list-kept lists after place p kept l short = list_same lists after p p short (λ k m. kept (p * list_places + k) (omega arith))

pub named-kept : (lists after : List ℕ) (place number : ℕ) → KeptBelow lists after place → ((l : ℕ) → l < place → get_or lists (l * list_places) 0 ≤ list_limit) → number ≤ place
    → named after number ≡ named lists number
unfolding named
named-kept lists after place zero kept short h = refl
named-kept lists after place (suc p) kept short h = list-kept lists after place p kept (omega arith) (short p (omega arith))
