-- The boxes of a set: moved from node to node, where they lie, what value they have, and which ones they are. Rests on the boxes' digits.
use mathlib.Core.Path.{◌≡◌, refl, sym, ap, ap₂, ◌∙◌, fun_ext}
use mathlib.Core.Bool.{Bool, true, false, ◌&&◌, ◌||◌, cond}
use mathlib.Core.List.{List, [], ◌∷◌, ◌++◌, map, flat_map, map-append}
use Prim.Native.Nat.{ℕ, zero, suc, ◌+◌, ◌-◌, ◌*◌, ◌/◌, ◌≤◌, ◌<◌}
use native.Mathlib.Omega.{arith}
use native.Mathlib.Nat.{mul-le-mul_right, mul_assoc, div-eq_of_lt, le-div_iff_mul-le}
use lib.Dec.{eqb}
use lib.ListN.{get_or}
use borrow.Author.Tests.{eq-eqb, ne_eqb}
use Rattle.laws.specs.Lists.{from, every, any_of, All}
use Rattle.laws.proofs.Lists.{All-keep, All-map, every_append, any_of-append, any_same}
use Rattle.laws.proofs.Numbers.{All-from}
use Rattle.laws.proofs.Flags.{and-true, and-false, or-false}
use Rattle.laws.proofs.Spread.{flat_map-all}
use Rattle.grid.specs.Group.{Set, at, agree, inside}
use Rattle.paving.specs.Grid.{size_of, grid, chosen, marks_from, Cleared}
use Rattle.paving.proofs.Room.{size-pos, at-grid, number-eq}
use Rattle.plain_boxes.specs.Digits.{digit_of, digits}
use Rattle.plain_boxes.proofs.Digits.{Filled, node-whole, node-digit, digit_low}
use Rattle.plain_boxes.proofs.Emptied.{boxes-cleared}
use Rattle.box_groups.specs.Boxes.{boxes_of, all_are, emptied_at}

-- ## Lists of lists
every-flat : (t : ℕ → Bool) (f : ℕ → List ℕ) (D : List ℕ) → every t (flat_map f D) ≡ every (λ x. every t (f x)) D
unfolding every flat_map
every-flat t f [] = refl
every-flat t f (x ∷ D) = every_append t (f x) (flat_map f D) ∙ ap (every t (f x) &&◌) (every-flat t f D)

every-same : (t u : ℕ → Bool) (D : List ℕ) → All (λ x. t x ≡ u x) D → every t D ≡ every u D
unfolding every
every-same t u [] a = refl
every-same t u (x ∷ D) a = ap₂ ◌&&◌ a.0 (every-same t u D a.1)

map-flat : (h : ℕ → ℕ) (f : ℕ → List ℕ) (D : List ℕ) → map h (flat_map f D) ≡ flat_map (λ x. map h (f x)) D
unfolding flat_map
map-flat h f [] = refl
map-flat h f (x ∷ D) = map-append h (f x) (flat_map f D) ∙ ap (map h (f x) ++◌) (map-flat h f D)

any-flat : (t : ℕ → Bool) (f : ℕ → List ℕ) (D : List ℕ) → any_of t (flat_map f D) ≡ any_of (λ x. any_of t (f x)) D
unfolding any_of flat_map
any-flat t f [] = refl
any-flat t f (x ∷ D) = any_of-append t (f x) (flat_map f D) ∙ ap (any_of t (f x) ||◌) (any-flat t f D)

-- a test with a part that is the same for all
any_part : (a c : Bool) (t : ℕ → Bool) (D : List ℕ) → any_of (λ x. a && t x && c) D ≡ a && (any_of t D && c)
unfolding any_of
any_part a c t [] = sym (and-false a)
any_part a c t (x ∷ D) = ap (a && t x && c ||◌) (any_part a c t D) ∙ share a (t x) c (any_of t D)
  where
    share : (a b c d : Bool) → a && b && c || (a && (d && c)) ≡ a && ((b || d) && c)
    share true true true d = refl
    share true true false true = refl
    share true true false false = refl
    share true false c d = refl
    share false b c d = refl

-- columns that all have the value
pub flat-are : (cells : List ℕ) (v : ℕ) (f : ℕ → List ℕ) (D : List ℕ) → all_are cells v (flat_map f D) ≡ every (λ x. all_are cells v (f x)) D
unfolding all_are
flat-are cells v f D = every-flat (λ b. eqb (get_or cells b 0) v) f D

-- ## Sets of columns that are there
abbrev pub Low : List ℕ → ℕ → Set ℕ → Type 0
Low sizes zero [] = Unit {0}
Low sizes zero (E ∷ S) = ⊥
Low sizes (suc i) [] = ⊥
Low sizes (suc i) (E ∷ S) = All (λ x. x < get_or sizes i 0) E × Low sizes i S

pub chosen-low : (marks sizes : List ℕ) (l base : ℕ) → Low sizes l (chosen marks sizes l base)
unfolding chosen marks_from
chosen-low marks sizes zero base = tt
chosen-low marks sizes (suc i) base = (
  All-keep (λ x. x < get_or sizes i 0) (λ y. eqb (get_or marks (base + y) 0) 1) (from 0 (get_or sizes i 0 - 0))
      (All-from (λ x. x < get_or sizes i 0) 0 (get_or sizes i 0 - 0) (λ x lo hi. omega arith)),
  chosen-low marks sizes i (base + get_or sizes i 0),
)

module _ (sizes : List ℕ) where
  -- ## From node to node
  pub boxes-move : (l node to : ℕ) (S : Set ℕ) (f : ℕ → ℕ) → ((o : ℕ) → f (node * size_of sizes l + o) ≡ to * size_of sizes l + o)
      → map f (boxes_of sizes l node S) ≡ boxes_of sizes l to S
  unfolding boxes_of size_of
  boxes-move zero node to S f h =
      let a : node ≡ node * 1 + 0 = omega arith in
      let b : to * 1 + 0 ≡ to = omega arith in
      ap (◌∷ []) (ap f a ∙ h 0 ∙ b)
  boxes-move (suc i) node to [] f h = refl
  boxes-move (suc i) node to (E ∷ S) f h =
      map-flat f (λ x. boxes_of sizes i (node * get_or sizes i 0 + x) S) E
      ∙ ap (λ g. flat_map g E) (fun_ext (λ x. boxes-move i (node * get_or sizes i 0 + x) (to * get_or sizes i 0 + x) S f (λ o. below x o)))
    where
      n : ℕ
      n = get_or sizes i 0

      s : ℕ
      s = size_of sizes i

      parts : (d x o : ℕ) → (d * n + x) * s + o ≡ d * (n * s) + (x * s + o)
      parts d x o = let a : (d * n + x) * s ≡ d * n * s + x * s = omega arith in omega (arith, a, mul_assoc d n s)

      below : (x o : ℕ) → f ((node * n + x) * s + o) ≡ (to * n + x) * s + o
      below x o = ap f (parts node x o) ∙ h (x * s + o) ∙ sym (parts to x o)

  -- ## Where they lie
  pub boxes-low : (l node len : ℕ) (S : Set ℕ) → Low sizes l S → (node + 1) * size_of sizes l ≤ len → All (λ b. b < len) (boxes_of sizes l node S)
  unfolding boxes_of size_of
  boxes-low zero node len S w h = (omega arith, tt)
  boxes-low (suc i) node len [] w h = tt
  boxes-low (suc i) node len (E ∷ S) w h =
      flat_map-all (λ b. b < len) (λ x. boxes_of sizes i (node * get_or sizes i 0 + x) S) E
      (All-map (λ x lt. boxes-low i (node * get_or sizes i 0 + x) len S w.1 (child x lt)) E w.0)
    where
      child : (x : ℕ) → x < get_or sizes i 0 → (node * get_or sizes i 0 + x + 1) * size_of sizes i ≤ len
      child x lt =
          let n = get_or sizes i 0 in
          let a : (node * n + x + 1) * size_of sizes i ≤ (node + 1) * n * size_of sizes i = mul-le-mul_right (size_of sizes i) (omega arith) in
          omega (arith, a, mul_assoc (node + 1) n (size_of sizes i), h)

  -- ## Their value
  pub boxes-agree : (cells : List ℕ) (v l node : ℕ) (S : Set ℕ) → Low sizes l S → all_are cells v (boxes_of sizes l node S) ≡ agree eqb v S (grid cells sizes l node)
  unfolding boxes_of all_are agree grid every
  boxes-agree cells v zero node [] w = and-true (eqb (get_or cells node 0) v)
  boxes-agree cells v zero node (E ∷ S) w = absurd w
  boxes-agree cells v (suc i) node [] w = absurd w
  boxes-agree cells v (suc i) node (E ∷ S) w =
      every-flat (λ b. eqb (get_or cells b 0) v) (λ x. boxes_of sizes i (node * get_or sizes i 0 + x) S) E
      ∙ every-same (λ x. all_are cells v (boxes_of sizes i (node * get_or sizes i 0 + x) S)) (λ x. agree eqb v S (at (grid cells sizes (suc i) node) x)) E
      (All-map (λ x lt. boxes-agree cells v i (node * get_or sizes i 0 + x) S w.1 ∙ ap (agree eqb v S) (sym (at-grid cells sizes i node x lt))) E w.0)

  -- ## Which ones they are
  pub boxes-inside : (l node q : ℕ) (S : Set ℕ) → Filled sizes l → Low sizes l S
      → any_of (eqb q) (boxes_of sizes l node S) ≡ eqb (q / size_of sizes l) node && inside eqb S (digits sizes l q)
  unfolding boxes_of any_of inside digits
  boxes-inside zero node q [] filled w =
      or-false (eqb q node) ∙ sym (and-true (eqb q node)) ∙ ap (λ d. eqb d node && true) (sym (node-whole sizes q))
  boxes-inside zero node q (E ∷ S) filled w = absurd w
  boxes-inside (suc i) node q [] filled w = absurd w
  boxes-inside (suc i) node q (E ∷ S) filled w =
      any-flat (eqb q) (λ x. boxes_of sizes i (node * n + x) S) E
      ∙ any_same (λ x. any_of (eqb q) (boxes_of sizes i (node * n + x) S)) (λ x. eqb above-it node && eqb digit x && rest) E
      (All-map (λ x lt. boxes-inside i (node * n + x) q S (λ k h. filled k (omega arith)) w.1 ∙ ap (◌&& rest) (split x lt)) E w.0)
      ∙ any_part (eqb above-it node) rest (eqb digit) E
    where
      n : ℕ
      n = get_or sizes i 0

      above-it : ℕ
      above-it = q / size_of sizes (suc i)

      digit : ℕ
      digit = digit_of sizes q i

      rest : Bool
      rest = inside eqb S (digits sizes i q)

      split : (x : ℕ) → x < n → eqb (q / size_of sizes i) (node * n + x) ≡ eqb above-it node && eqb digit x
      split x lt =
          ap (λ d. eqb d (node * n + x)) (sym (node-digit sizes q i))
          ∙ number-eq n above-it node digit x (digit_low sizes q i (filled i (omega arith))) lt

  -- emptying them empties the set
  pub listed-cleared : (cells after : List ℕ) (l : ℕ) (S : Set ℕ) → Filled sizes l → Low sizes l S
      → ((q : ℕ) → get_or after q 0 ≡ emptied_at cells (boxes_of sizes l 0 S) q) → Cleared cells after sizes l 0 S
  unfolding emptied_at
  listed-cleared cells after l S filled w h =
      boxes-cleared sizes cells after l S filled
      (λ q lt.
      h q ∙ ap (λ b. cond b 0 (get_or cells q 0))
      (boxes-inside l 0 q S filled w ∙ ap (◌&& inside eqb S (digits sizes l q)) (eq-eqb (q / size_of sizes l) 0 (div-eq_of_lt lt))))
      (λ q le.
      let some : 1 ≤ q / size_of sizes l = (le-div_iff_mul-le (size-pos sizes l filled)).1 (omega arith) in
      h q ∙ ap (λ b. cond b 0 (get_or cells q 0))
      (boxes-inside l 0 q S filled w ∙ ap (◌&& inside eqb S (digits sizes l q)) (ne_eqb (q / size_of sizes l) 0 (omega (arith, some)))))
