-- A point within all bounds lies in a box, and the box's list is the list at the point. Rests on the laws that the cuts' intervals have all
-- coordinates, and that all points of a box have the marks of its first one.
use mathlib.Core.Path.{◌≡◌, sym, ap, ◌∙◌, subst}
use mathlib.Core.List.{List, [], ◌∷◌, map}
use Prim.Native.Nat.{ℕ, zero, suc, ◌+◌, ◌-◌, ◌≤◌, ◌<◌}
use native.Mathlib.Omega.{arith}
use lib.ListN.{length, get_or}
use Rattle.laws.specs.Lists.{from, All, Mem}
use Rattle.laws.proofs.Lists.{All-Mem}
use Rattle.laws.proofs.Numbers.{All-from, Mem-from}
use Rattle.grid.specs.Group.{Set}
use Rattle.grid.specs.Cut.{Range, coordinates}
use Rattle.definition.specs.Rule.{Rule}
use Rattle.definition.specs.Point.{dimensions, all_bounds, list_at}
use Rattle.definition.proofs.Lawful.{Lawful}
use Rattle.definition.proofs.FoldBox.{list_all}
use Rattle.paving.proofs.Points.{coordinates_of}
use Rattle.tables.specs.Cuts.{cut_of, Cut}
use Rattle.tables.specs.Lists.{list_of, named, shown, Within, start_of, BoxLists}
use Rattle.tables.proofs.Stored.{box-listed, store-names}
use Rattle.tables.specs.Rules.{rule_at}
use Rattle.paving_points.proofs.Boxes.{Under, lawful-bounded, cuts-points, box-marks}
use Rattle.state_at.specs.Boxes.{InBounds, AllFramed, AllHold, Gridded, BoxAt}

-- ## Rows around a point
-- each number of a point is among the coordinates of its dimension
abbrev Among : Set ℕ → List ℕ → Type 0
Among [] [] = Unit {0}
Among [] (y ∷ q) = ⊥
Among (E ∷ D) [] = ⊥
Among (E ∷ D) (y ∷ q) = Mem y E × Among D q

bounds-among : (bs : List Range) (q : List ℕ) → InBounds bs q → Among (map coordinates bs) q
bounds-among [] [] h = tt
bounds-among [] (y ∷ q) h = absurd h
bounds-among (b ∷ bs) [] h = absurd h
bounds-among (b ∷ bs) (y ∷ q) h = (Mem-from y b.0 (b.1 - b.0) h.0 (omega arith), bounds-among bs q h.2)

among-bounds : (s n y : ℕ) → Mem y (from s n) → (s ≤ y) × (y < s + n)
among-bounds s n y h = All-Mem (λ x. (s ≤ x) × (x < s + n)) (from s n) (All-from (λ x. (s ≤ x) × (x < s + n)) s n (λ x l k. (l, k))) y h

module _ (rows sizes cuts : List ℕ) (rs : List Rule) (c : Cut rows sizes cuts rs) where
  among-framed : (l : ℕ) → l ≤ 4 → (q : List ℕ) → Among (coordinates_of (cut_of rows cuts) sizes l) q → AllFramed rows sizes cuts l q
  among-framed zero k [] h = tt
  among-framed zero k (y ∷ q) h = absurd h
  among-framed (suc i) k [] h = absurd h
  among-framed (suc i) k (y ∷ q) h =
      let b = among-bounds (cut_of rows cuts i 0) (cut_of rows cuts i (get_or sizes i 0) - cut_of rows cuts i 0) y h.0 in (
        record {
          row-there = omega (arith, c.all-rows);
          inside = c.inside i (omega arith);
          filled = c.filled i (omega arith);
          from_first = b.0;
          to_last = omega arith;
        },
        among-framed i (omega arith) q h.1,
      )

module _ (rows sizes cuts cells lists : List ℕ) (used : ℕ) (rs : List Rule) (boxed : BoxLists rows sizes cuts cells lists used rs) (lawful : All Lawful rs) where
  -- A POINT WITHIN ALL BOUNDS has the grid around it
  pub point-gridded : (q : List ℕ) → InBounds all_bounds q → Gridded rows sizes cuts q
  point-gridded q h = record {
    top = record { dims = omega (arith, boxed.cut.four); filled = boxed.cut.filled; below = omega arith };
    few = boxed.few-boxes;
    framed = among-framed rows sizes cuts rs boxed.cut 4 (omega arith) q
        (subst (λ D. Among D q) (sym (cuts-points rows sizes cuts rs dimensions boxed.cut.cut_by (lawful-bounded rs lawful))) (bounds-among all_bounds q h));
  }

  -- THE LIST OF ITS BOX is the list at the point
  box-list : (q : List ℕ) (box : ℕ) → BoxAt rows sizes cuts q box → map (rule_at rs) (shown cells lists box) ≡ list_at rs q
  box-list q box b =
      let p = b.columns in
      ap (λ k. map (rule_at rs) (shown cells lists k)) b.numbered ∙ box-listed rows sizes cuts cells lists used rs (store-names rows sizes cuts cells lists used rs boxed) p (hold-within 4 p q b.held)
      ∙ list_all rs (start_of rows cuts 4 p) q
      (box-marks rows sizes cuts rs dimensions boxed.cut.cut_by (lawful-bounded rs lawful) p q (hold-within 4 p q b.held) (hold-under 4 p q b.held))
    where
      hold-within : (l : ℕ) (p q : List ℕ) → AllHold rows sizes cuts l p q → Within sizes l p
      hold-within zero [] [] h = tt
      hold-within zero [] (y ∷ q) h = absurd h
      hold-within zero (x ∷ p) q h = absurd h
      hold-within (suc i) [] q h = absurd h
      hold-within (suc i) (x ∷ p) [] h = absurd h
      hold-within (suc i) (x ∷ p) (y ∷ q) h = (h.0.0, hold-within i p q h.1)

      hold-under : (l : ℕ) (p q : List ℕ) → AllHold rows sizes cuts l p q → Under (cut_of rows cuts) l p q
      hold-under zero p q h = tt
      hold-under (suc i) [] q h = absurd h
      hold-under (suc i) (x ∷ p) [] h = absurd h
      hold-under (suc i) (x ∷ p) (y ∷ q) h = (h.0.1, h.0.2, hold-under i p q h.1)

  -- ## By the number in the box's cell
  module _ (q : List ℕ) (box : ℕ) (b : BoxAt rows sizes cuts q box) (number : ℕ) (e : number ≡ get_or cells box 0) where
    -- the list that it names
    list-named : map (rule_at rs) (named lists number) ≡ list_at rs q
    unfolding shown
    list-named = ap (λ n. map (rule_at rs) (named lists n)) e ∙ box-list q box b

    pub list-empty : number ≡ 0 → [] ≡ list_at rs q
    unfolding named
    list-empty z = ap (λ n. map (rule_at rs) (named lists n)) (sym z) ∙ list-named

    module _ (some : number ≡ 0 → ⊥) where
      in_use : number - 1 < used
      in_use = omega (arith, boxed.stored.store.names box)

      pub list-earlier : All (λ k. k < length rs) (list_of lists (number - 1))
      list-earlier = boxed.stored.earlier (number - 1) in_use

      pub list_held : map (rule_at rs) (list_of lists (number - 1)) ≡ list_at rs q
      unfolding named
      list_held = let z : suc (number - 1) ≡ number = omega arith in ap (λ n. map (rule_at rs) (named lists n)) z ∙ list-named
