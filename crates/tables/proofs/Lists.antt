-- A list at a place is as long as its count says, and has a rule more where one was put at its end; the number of a box is one of the boxes'. Rests on the laws of nodes.
use mathlib.Core.Path.{◌≡◌, refl, sym, ap, ap₂, ◌∙◌}
use mathlib.Core.List.{List, [], ◌∷◌, ◌++◌, map, map-append}
use Prim.Native.Nat.{ℕ, zero, suc, ◌+◌, ◌*◌, ◌<◌}
use native.Mathlib.Omega.{arith}
use lib.ListN.{length, get_or, length-map}
use Rattle.laws.specs.Lists.{from}
use Rattle.laws.proofs.Numbers.{length_from, from-append, map-from}
use Rattle.paving.specs.Grid.{Node}
use Rattle.paving.proofs.Room.{node_in, node-child}
use Rattle.tables.specs.Sizes.{list_places}
use Rattle.tables.specs.Lists.{list_of, Within, box_of}

pub list_length : (lists : List ℕ) (node : ℕ) → length (list_of lists node) ≡ get_or lists (node * list_places) 0
unfolding list_of
list_length lists node =
    length-map (from 0 (get_or lists (node * list_places) 0)) (λ k. get_or lists (node * list_places + 1 + k) 0) ∙ length_from 0 (get_or lists (node * list_places) 0)

-- ## A list with a rule more
pub list-more : (s t : List ℕ) (p q n rule : ℕ) → n ≡ get_or s (p * list_places) 0 → get_or t (q * list_places) 0 ≡ n + 1
    → ((k : ℕ) → k < n → get_or t (q * list_places + 1 + k) 0 ≡ get_or s (p * list_places + 1 + k) 0) → get_or t (q * list_places + 1 + n) 0 ≡ rule → list_of t q ≡ list_of s p ++ (rule ∷ [])
unfolding list_of from
list-more s t p q n rule z e same last =
    ap (λ m. map f (from 0 m)) e ∙ ap (map f) (sym (from-append 0 n 1 n (omega arith))) ∙ map-append f (from 0 n) (from n 1)
    ∙ ap₂ (λ l x. l ++ (x ∷ [])) (map-from f g 0 n (λ k _ l. same k (omega arith)) ∙ ap (λ m. map g (from 0 m)) z) last
  where
    f : ℕ → ℕ
    f k = get_or t (q * list_places + 1 + k) 0

    g : ℕ → ℕ
    g k = get_or s (p * list_places + 1 + k) 0

-- a list of one rule
pub list-one : (t : List ℕ) (q rule : ℕ) → get_or t (q * list_places) 0 ≡ 1 → get_or t (q * list_places + 1) 0 ≡ rule → list_of t q ≡ rule ∷ []
unfolding list_of from
list-one t q rule e h =
    let a : q * list_places + 1 + 0 ≡ q * list_places + 1 = omega arith in
    ap (λ n. map (λ k. get_or t (q * list_places + 1 + k) 0) (from 0 n)) e ∙ ap (◌∷ []) (ap (λ n. get_or t n 0) a ∙ h)

-- ## The number of a box below a node
pub box_in : (len : ℕ) (sizes : List ℕ) (l c : ℕ) (p : List ℕ) → Node len sizes l c → Within sizes l p → box_of sizes l c p < len
unfolding box_of
box_in len sizes zero c [] n w = node_in len sizes 0 c n
box_in len sizes zero c (x ∷ p) n w = absurd w
box_in len sizes (suc i) c [] n w = absurd w
box_in len sizes (suc i) c (x ∷ p) n w = box_in len sizes i (c * get_or sizes i 0 + x) p (node-child len sizes i c (get_or sizes i 0) x refl w.0 n) w.1
