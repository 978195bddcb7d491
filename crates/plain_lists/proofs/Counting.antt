-- HOW MANY DIFFERENT LISTS THERE ARE: as many as kinds, which name each list of the boxes passed once. Rests on the laws of distinct elements.
use mathlib.Core.Path.{◌≡◌, refl, sym, ap, ◌∙◌}
use mathlib.Core.Bool.{Bool, true, false, true≢false}
use mathlib.Core.List.{List, [], ◌∷◌, map}
use mathlib.Core.Logic.{◌⊎◌, inl, inr}
use Prim.Native.Nat.{ℕ, ◌+◌, ◌*◌, ◌≤◌, ◌<◌}
use native.Mathlib.Omega.{arith}
use lib.Dec.{eqb, ltb}
use lib.ListN.{length, get_or, set}
use lib.Seq.{get_or-set_same, get_or-set_other}
use borrow.Author.Count.{below_more}
use borrow.Author.Tests.{lt-ltb, le-ltb, ltb-true, ltb-false}
use Rattle.laws.specs.Lists.{from, any_of, keep, filled, Mem}
use Rattle.laws.specs.Tests.{same_list}
use Rattle.laws.proofs.Distinct.{kept-all, distinct-has, distinct-few, distinct-most, distinct-places}
use Rattle.laws.proofs.Lists.{All-image, Mem-keep, Mem-map}
use Rattle.laws.proofs.Numbers.{at_most, All-from, Mem-from, any-from, from-any}
use Rattle.definition.specs.Sheet.{sheet_limits}
use Rattle.definition.specs.Lists.{distinct_lists}
use Rattle.tables.specs.Sizes.{list_places}
use Rattle.tables.specs.Lists.{list_of}
use Rattle.tables.proofs.Lists.{list_length}
use Rattle.plain_lists.specs.Draw.{HaveLists}
use Rattle.plain_lists.specs.Kinds.{kind_of, Kinds}
use Rattle.plain_lists.proofs.Same.{exact-lists}

-- ## Lists that are filled
list-empty : (l : List ℕ) → length l ≡ 0 → filled l ≡ false
list-empty [] e = refl
list-empty (x ∷ l) e = absurd (omega arith)

list-filled : (l : List ℕ) → (length l ≡ 0 → ⊥) → filled l ≡ true
list-filled [] h = absurd (h refl)
list-filled (x ∷ l) h = refl

-- the first of some boxes that have lists
pub have-first : (lists : List ℕ) (boxes n : ℕ) → n ≤ boxes → HaveLists lists boxes → HaveLists lists n
have-first lists boxes n l h = record { few-boxes = omega (arith, h.few-boxes); each = λ box m. h.each box (omega arith) }

-- ## The kinds of the boxes passed
module _ (lists : List ℕ) where
  pub kinds-none : (kinds : List ℕ) → Kinds lists kinds 0 0
  kinds-none kinds = record {
    names = λ k l. absurd (omega arith);
    some = λ k l. absurd (omega arith);
    apart = λ j k l. absurd (omega arith);
    placed = λ box l. absurd (omega arith);
  }

  module _ (kinds : List ℕ) (count box : ℕ) (passed : Kinds lists kinds count box) where
    -- a box whose list is empty, or known
    kinds-same : (filled (list_of lists box) ≡ true → (k : ℕ) × (k < count) × (list_of lists box ≡ kind_of lists kinds k)) → Kinds lists kinds count (box + 1)
    kinds-same here = record {
      names = λ k l. omega (arith, passed.names k l);
      some = passed.some;
      apart = passed.apart;
      placed = below_more (λ b. filled (list_of lists b) ≡ true → (k : ℕ) × (k < count) × (list_of lists b ≡ kind_of lists kinds k)) box passed.placed here;
    }

    pub kinds-empty : get_or lists (box * list_places) 0 ≡ 0 → Kinds lists kinds count (box + 1)
    kinds-empty e = kinds-same (λ f. absurd (true≢false (sym f ∙ list-empty (list_of lists box) (list_length lists box ∙ e))))

    module _ (known : Bool) (told : known ≡ any_of (λ k. same_list eqb (list_of lists (get_or kinds k 0)) (list_of lists box)) (from 0 count)) where
      abbrev same : ℕ → Bool
      same k = same_list eqb (list_of lists (get_or kinds k 0)) (list_of lists box)

      pub kinds-known : known ≡ true → Kinds lists kinds count (box + 1)
      unfolding kind_of
      kinds-known e =
          let k = any-from same 0 count (sym told ∙ e) in
          kinds-same (λ _. (k.0, omega (arith, k.2), sym (exact-lists.equal (list_of lists (get_or kinds k.0 0)) (list_of lists box) k.3)))

      -- a list that is new: its box is noted
      module _ (new : known ≡ false) (some : get_or lists (box * list_places) 0 ≡ 0 → ⊥) (room : count < length kinds) where
        abbrev noted : List ℕ
        noted = set kinds count box

        at_new : kind_of lists noted count ≡ list_of lists box
        unfolding kind_of
        at_new = ap (list_of lists) (get_or-set_same kinds count box 0 room)

        at_old : (k : ℕ) → k < count → kind_of lists noted k ≡ kind_of lists kinds k
        unfolding kind_of
        at_old k l = ap (list_of lists) (get_or-set_other kinds count k box 0 (omega arith))

        differs : (k : ℕ) → k < count → kind_of lists noted k ≡ kind_of lists noted count → ⊥
        unfolding kind_of
        differs k l e =
            true≢false (sym (from-any same 0 count k (omega arith) (omega arith)
            (ap (same_list eqb (list_of lists (get_or kinds k 0))) (sym (sym (at_old k l) ∙ e ∙ at_new)) ∙ exact-lists.self (list_of lists (get_or kinds k 0)))) ∙ sym told ∙ new)

        apart-new : (j k : ℕ) → j < count + 1 → k < count + 1 → kind_of lists noted j ≡ kind_of lists noted k → j ≡ k
        apart-new j k l m e = go (at_most count j) (at_most count k)
          where
            go : (count ≤ j) ⊎ (j < count) → (count ≤ k) ⊎ (k < count) → j ≡ k
            go (inl a) (inl b) = omega arith
            go (inl a) (inr b) = let q : j ≡ count = omega arith in absurd (differs k b (sym e ∙ ap (kind_of lists noted) q))
            go (inr a) (inl b) = let q : k ≡ count = omega arith in absurd (differs j a (e ∙ ap (kind_of lists noted) q))
            go (inr a) (inr b) = passed.apart j k a b (sym (at_old j a) ∙ e ∙ at_old k b)

        pub kinds-new : Kinds lists noted (count + 1) (box + 1)
        kinds-new = record {
          names = below_more (λ k. get_or noted k 0 < box + 1) count (λ k l. omega (arith, get_or-set_other kinds count k box 0 (omega arith), passed.names k l))
              (omega (arith, get_or-set_same kinds count box 0 room));
          some = below_more (λ k. filled (kind_of lists noted k) ≡ true) count (λ k l. ap filled (at_old k l) ∙ passed.some k l)
              (ap filled at_new ∙ list-filled (list_of lists box) (λ e. some (sym (list_length lists box) ∙ e)));
          apart = apart-new;
          placed = below_more (λ b. filled (list_of lists b) ≡ true → (k : ℕ) × (k < count + 1) × (list_of lists b ≡ kind_of lists noted k)) box
              (λ b l f. let p = passed.placed b l f in (p.0, omega (arith, p.1), p.2 ∙ sym (at_old p.0 p.1))) (λ _. (count, omega arith, sym at_new));
        }

  -- ## How many there are
  abbrev different : ℕ → ℕ
  different n = length (distinct_lists (map (list_of lists) (from 0 n)))

  -- as many as kinds
  kinds-counted : (kinds : List ℕ) (count n : ℕ) → Kinds lists kinds count n → count ≡ different n
  unfolding kind_of
  kinds-counted kinds count n k =
      distinct-places exact-lists filled (list_of lists) (kind_of lists kinds) n count k.placed k.some
      (λ p l. (get_or kinds p 0, k.names p l, refl)) k.apart

  -- no fewer among more boxes
  different-more : (n m : ℕ) → n ≤ m → different n ≤ different m
  different-more n m l = distinct-few exact-lists (keep filled (map (list_of lists) (from 0 n))) (distinct_lists (map (list_of lists) (from 0 m)))
      (kept-all (λ x. Mem x (distinct_lists (map (list_of lists) (from 0 m)))) filled (map (list_of lists) (from 0 n))
      (All-image _ (list_of lists) (from 0 n) (All-from _ 0 n (λ b _ k f.
      distinct-has exact-lists (list_of lists b) (keep filled (map (list_of lists) (from 0 m)))
      (Mem-keep filled (list_of lists b) (map (list_of lists) (from 0 m)) (Mem-map (list_of lists) b (from 0 m) (Mem-from b 0 m (omega arith) (omega arith))) f)))))

  -- 512 boxes or fewer
  pub few-lists : (boxes : ℕ) → ltb sheet_limits.lists boxes ≡ false → false ≡ ltb sheet_limits.lists (different boxes)
  few-lists boxes e =
      sym (le-ltb sheet_limits.lists (different boxes)
      (omega (arith, ltb-false sheet_limits.lists boxes e, distinct-most exact-lists filled (list_of lists) (list_of lists) boxes boxes (λ b l _. (b, l, refl)))))

  -- 513 kinds, before the last box or there
  pub many-kinds : (kinds : List ℕ) (count n boxes : ℕ) → Kinds lists kinds count n → n ≤ boxes → ltb sheet_limits.lists count ≡ true → true ≡ ltb sheet_limits.lists (different boxes)
  many-kinds kinds count n boxes k l e =
      sym (lt-ltb sheet_limits.lists (different boxes)
      (omega (arith, ltb-true sheet_limits.lists count e, kinds-counted kinds count n k, different-more n boxes l)))

  -- 512 or fewer at the end
  pub few-kinds : (kinds : List ℕ) (count n boxes : ℕ) → Kinds lists kinds count n → n ≡ boxes → count ≤ sheet_limits.lists → false ≡ ltb sheet_limits.lists (different boxes)
  few-kinds kinds count n boxes k e h = sym (le-ltb sheet_limits.lists (different boxes) (omega (arith, kinds-counted kinds count n k, ap different e)))
