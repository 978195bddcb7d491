-- EACH BOX NAMES A LIST OF ITS OWN: box after box the next number. So a list for each box is what days are folded from, and the day numbers from the second
-- on are the boxes' own. Rests on the lists of boxes.
use mathlib.Core.Path.{◌≡◌, sym, ap, ◌∙◌}
use mathlib.Core.Logic.{◌⊎◌, inl, inr}
use mathlib.Core.List.{List, map}
use Prim.Native.Nat.{ℕ, suc, ◌+◌, ◌≤◌, ◌<◌}
use native.Mathlib.Omega.{arith}
use lib.ListN.{length, get_or, take, drop, length-map, length-drop, get_or-eq_default}
use lib.Seq.{get_or-take, get_or-drop, length-take-le}
use Rattle.laws.specs.Lists.{from}
use Rattle.laws.proofs.Numbers.{length_from, get_d-from, at_most}
use Rattle.definition.specs.Rule.{Rule}
use Rattle.paving.specs.Grid.{size_of, Node}
use Rattle.tables.specs.Lists.{named, shown, Renamed, box_of, NamedLists}
use Rattle.tables.proofs.Lists.{box_in}
use Rattle.plain_lists.specs.Listing.{OwnLists}

-- the cells of so many boxes
abbrev pub own : ℕ → List ℕ
own boxes = map suc (from 0 boxes)

own-length : (boxes : ℕ) → length (own boxes) ≡ boxes
own-length boxes = length-map (from 0 boxes) suc ∙ length_from 0 boxes

own-cell : (boxes box : ℕ) → box < boxes → get_or (own boxes) box 0 ≡ suc box
own-cell boxes box l = get_d-from suc 0 0 boxes box l ∙ (let z : suc (0 + box) ≡ suc box = omega arith in z)

own-past : (boxes box : ℕ) → boxes ≤ box → get_or (own boxes) box 0 ≡ 0
own-past boxes box l = get_or-eq_default (own boxes) 0 (omega (arith, own-length boxes))

-- THE LISTS OF BOXES, named
module _ (rows sizes table lists : List ℕ) (rs : List Rule) (given : OwnLists rows sizes table lists rs) where
  abbrev boxes : ℕ
  boxes = size_of sizes 4

  names : (box : ℕ) → get_or (own boxes) box 0 ≤ boxes
  names box = go (at_most boxes box)
    where
      go : (boxes ≤ box) ⊎ (box < boxes) → get_or (own boxes) box 0 ≤ boxes
      go (inl l) = omega (arith, own-past boxes box l)
      go (inr l) = omega (arith, own-cell boxes box l)

  pub node : Node boxes sizes 4 0
  node = record { dims = omega (arith, given.cut.four); filled = given.cut.filled; below = omega arith }

  pub own-named : NamedLists rows sizes table (own boxes) lists boxes rs
  unfolding shown named
  own-named = record {
    cut = given.cut;
    few-boxes = given.few-boxes;
    names = names;
    room = given.room;
    short = given.short;
    earlier = given.earlier;
    list = λ p w. ap (named lists) (own-cell boxes (box_of sizes 4 0 p) (box_in boxes sizes 4 0 p node w)) ∙ given.list p w;
  }

-- THE NUMBERS OF BOXES' DAYS: the first number is that of the empty list
module _ (boxes : ℕ) (numbers : List ℕ) (room : boxes < length numbers) where
  pub own-numbers : length (take boxes (drop 1 numbers)) ≡ boxes
  own-numbers = length-take-le boxes (drop 1 numbers) (omega (arith, length-drop 1 numbers))

  pub own-renamed : Renamed (own boxes) numbers (take boxes (drop 1 numbers)) (length (own boxes))
  own-renamed = record {
    anew = λ box l.
        let inside : box < boxes = omega (arith, own-length boxes) in
        let next : 1 + box ≡ suc box = omega arith in
        get_or-take boxes (drop 1 numbers) box 0 inside ∙ get_or-drop 1 numbers box 0 ∙ ap (λ n. get_or numbers n 0) (next ∙ sym (own-cell boxes box inside));
    later = λ box l.
        let past : boxes ≤ box = omega (arith, own-length boxes) in
        get_or-eq_default (take boxes (drop 1 numbers)) 0 (omega (arith, own-numbers)) ∙ sym (own-past boxes box past);
  }
