-- TWO BOXES WITH THE SAME LIST, told by the words at their places. Rests on the laws of lists at places.
use mathlib.Core.Path.{◌≡◌, sym, ap, ◌∙◌}
use mathlib.Core.Bool.{true, false}
use mathlib.Core.List.{List, map}
use Prim.Native.Nat.{ℕ, zero, suc, ◌+◌, ◌*◌, ◌≤◌, ◌<◌}
use native.Mathlib.Omega.{arith}
use lib.Dec.{eqb}
use lib.ListN.{length, get_or}
use borrow.Author.Count.{below_more}
use Rattle.laws.specs.Lists.{from}
use Rattle.laws.specs.Tests.{Exact, same_list}
use Rattle.laws.proofs.Flags.{not-true}
use Rattle.laws.proofs.Numbers.{get_d-from, map-from}
use Rattle.laws.proofs.Tests.{exact-eqb, exact-list}
use Rattle.tables.specs.Sizes.{list_places}
use Rattle.tables.specs.Lists.{list_of}
use Rattle.tables.proofs.Lists.{list_length}

pub exact-lists : Exact (same_list eqb)
exact-lists = exact-list exact-eqb

-- a rule of a list
list_at_lem : (lists : List ℕ) (box k : ℕ) → k < get_or lists (box * list_places) 0 → get_or (list_of lists box) k 0 ≡ get_or lists (box * list_places + 1 + k) 0
unfolding list_of
list_at_lem lists box k l =
    let z : 0 + k ≡ k = omega arith in
    get_d-from (λ j. get_or lists (box * list_places + 1 + j) 0) 0 0 (get_or lists (box * list_places) 0) k l ∙ ap (λ j. get_or lists (box * list_places + 1 + j) 0) z

module _ (lists : List ℕ) (first second : ℕ) where
  -- the first n words are the same
  abbrev pub Alike : ℕ → Type 0
  Alike n = (k : ℕ) → k < n → get_or lists (first * list_places + k) 0 ≡ get_or lists (second * list_places + k) 0

  pub alike_next : (n : ℕ) → Alike n → get_or lists (first * list_places + n) 0 ≡ get_or lists (second * list_places + n) 0 → Alike (n + 1)
  alike_next n h e = below_more (λ k. get_or lists (first * list_places + k) 0 ≡ get_or lists (second * list_places + k) 0) n h e

  -- lists that are one have the same words
  words_same : list_of lists first ≡ list_of lists second → Alike (get_or lists (first * list_places) 0 + 1)
  words_same e = go
    where
      long : get_or lists (first * list_places) 0 ≡ get_or lists (second * list_places) 0
      long = sym (list_length lists first) ∙ ap length e ∙ list_length lists second

      word : (i j : ℕ) → i ≡ j → get_or lists i 0 ≡ get_or lists j 0
      word i j q = ap (λ n. get_or lists n 0) q

      go : (k : ℕ) → k < get_or lists (first * list_places) 0 + 1 → get_or lists (first * list_places + k) 0 ≡ get_or lists (second * list_places + k) 0
      go zero l = word (first * list_places + 0) (first * list_places) (omega arith) ∙ long ∙ word (second * list_places) (second * list_places + 0) (omega arith)
      go (suc k) l =
          word (first * list_places + suc k) (first * list_places + 1 + k) (omega arith) ∙ sym (list_at_lem lists first k (omega arith)) ∙ ap (λ m. get_or m k 0) e
          ∙ list_at_lem lists second k (omega (arith, long)) ∙ word (second * list_places + 1 + k) (second * list_places + suc k) (omega arith)

  lists-same : Alike (get_or lists (first * list_places) 0 + 1) → list_of lists first ≡ list_of lists second
  unfolding list_of
  lists-same h =
      map-from (λ k. get_or lists (first * list_places + 1 + k) 0) (λ k. get_or lists (second * list_places + 1 + k) 0) 0 (get_or lists (first * list_places) 0)
      (λ k _ l. word (suc k) (first * list_places + 1 + k) (second * list_places + 1 + k) (omega arith) (omega arith) (omega arith))
      ∙ ap (λ n. map (λ k. get_or lists (second * list_places + 1 + k) 0) (from 0 n)) (word 0 (first * list_places) (second * list_places) (omega arith) (omega arith) (omega arith))
    where
      word : (k i j : ℕ) → k < get_or lists (first * list_places) 0 + 1 → i ≡ first * list_places + k → second * list_places + k ≡ j → get_or lists i 0 ≡ get_or lists j 0
      word k i j l a b = ap (λ n. get_or lists n 0) a ∙ h k l ∙ ap (λ n. get_or lists n 0) b

  module _ (end : ℕ) (all : end ≡ get_or lists (first * list_places) 0 + 1) where
    -- a word differs
    pub same-no : (n : ℕ) → n < end → (get_or lists (first * list_places + n) 0 ≡ get_or lists (second * list_places + n) 0 → ⊥)
        → false ≡ same_list eqb (list_of lists first) (list_of lists second)
    same-no n l h =
        sym (not-true (same_list eqb (list_of lists first) (list_of lists second))
        (λ e. h (words_same (exact-lists.equal (list_of lists first) (list_of lists second) e) n (omega (arith, all)))))

    -- none does
    pub same-yes : (n : ℕ) → end ≤ n → Alike n → true ≡ same_list eqb (list_of lists first) (list_of lists second)
    same-yes n l h = sym (ap (same_list eqb (list_of lists first)) (sym (lists-same (λ k m. h k (omega (arith, all))))) ∙ exact-lists.self (list_of lists first))
