-- Pieces that tile a day have its painted states: grouping the minutes gives what grouping the pieces gives. Rests on grid's compression law.
use mathlib.Core.Path.{◌≡◌, refl, sym, ap, ap₂, ◌∙◌}
use mathlib.Core.List.{List, [], ◌∷◌, ◌++◌, map, flat_map}
use mathlib.Core.Bool.{Bool, false}
use Prim.Native.Nat.{ℕ, suc, ◌+◌, ◌-◌, ◌≤◌, ◌<◌}
use native.Mathlib.Omega.{arith}
use lib.Dec.{eqb}
use Rattle.laws.specs.Lists.{from, All}
use Rattle.laws.proofs.Numbers.{from-append}
use Rattle.laws.proofs.Tests.{exact-eqb, exact-pair}
use Rattle.grid.specs.Group.{Set, Map, Group, groups}
use Rattle.grid.specs.Cut.{Range, same_range, coordinates, between, starts, runs, joined, as_runs, as_joined}
use Rattle.grid.proofs.Part.{Part, groups-part}
use Rattle.grid.proofs.Image.{Fills, Aparts, image, Tests, groups-image}
use Rattle.grid.proofs.Interval.{block, block-all, Rising, rising-apart, rising-keep, runs-joined}
use Rattle.definition.specs.Rule.{State, closed, same_state}
use Rattle.definition.specs.Day.{minute_bounds, state_classes}
use Rattle.definition.proofs.Same.{exact-state}
use Rattle.codes.specs.Number.{state_coded}
use Rattle.day_paint.specs.Piece.{Piece, piece_start, piece_end, piece_state, Tiles}
use Rattle.day_paint.proofs.MeanPiece.{tiles-up}

abbrev pub piece_range : Piece → Range
piece_range t = (piece_start t, piece_end t)

-- ## Pieces as intervals
module _ (f : ℕ → ℕ) where
  pub tiles-between : (a b : ℕ) (P : List Piece) → Tiles f a b P → between (map piece_start P ++ b ∷ []) ≡ map piece_range P
  unfolding between
  tiles-between a b [] h = refl
  tiles-between a b (t ∷ []) h = ap (λ v. (t.0, v) ∷ []) (sym h.3)
  tiles-between a b (t ∷ u ∷ P) h = ap₂ (λ v w. (t.0, v) ∷ w) h.3.0 (tiles-between t.1 b (u ∷ P) h.3)

  pub tiles-rise : (a b : ℕ) (P : List Piece) → Tiles f a b P → Rising a (map piece_range P)
  tiles-rise a b [] h = tt
  tiles-rise a b (t ∷ P) h = (omega (arith, h.0), omega (arith, h.0, h.1), tiles-rise t.1 b P h.3)

  pub tiles-all : (a b : ℕ) (P : List Piece) → Tiles f a b P → flat_map block (map piece_range P) ≡ from a (b - a)
  unfolding flat_map from
  tiles-all a b [] h = let e : 0 ≡ b - a = omega arith in ap (from a) e
  tiles-all a b (t ∷ P) h =
      let e : suc (t.1 - suc t.0) + (b - t.1) ≡ b - a = omega (arith, h.0, h.1, tiles-up f t.1 b P h.3) in
      ap (block (piece_range t) ++◌) (tiles-all t.1 b P h.3) ∙ from-append t.0 (suc (t.1 - suc t.0)) (b - t.1) t.1
      (omega (arith, h.0, h.1)) ∙ ap₂ from h.0 e

  pub tiles-shown : (a b : ℕ) (P : List Piece) → Tiles f a b P → map piece_state P ≡ map f (map piece_start P)
  tiles-shown a b [] h = refl
  tiles-shown a b (t ∷ P) h = ap₂ ◌∷◌ (sym (h.2 t.0 (omega (arith, h.0)) (omega (arith, h.0, h.1)))) (tiles-shown t.1 b P h.3)

  pub tiles-small : (a b : ℕ) (P : List Piece) → b ≤ 1440 → Tiles f a b P → All (λ c. c < 2048) (map piece_start P ++ b ∷ [])
  tiles-small a b [] l h = (omega arith, tt)
  tiles-small a b (t ∷ P) l h = (omega (arith, h.0, h.1, tiles-up f t.1 b P h.3), tiles-small t.1 b P l h.3)

  tiles-constant : (g : Map ℕ State) → ((m : ℕ) → g (m ∷ []) ≡ state_coded (f m)) → (a b : ℕ) (P : List Piece) → Tiles f a b P
      → All (λ i. All (λ x. g (i.0 ∷ []) ≡ g (x ∷ [])) (block i)) (map piece_range P)
  tiles-constant g e a b [] h = tt
  tiles-constant g e a b (t ∷ P) h = (
    block-all (piece_range t) (omega (arith, h.0, h.1)) (λ x. g (t.0 ∷ []) ≡ g (x ∷ []))
        (λ x l k. e t.0 ∙ ap state_coded (h.2 t.0 (omega (arith, h.0)) (omega (arith, h.0, h.1)) ∙ sym (h.2 x (omega (arith, h.0)) k)) ∙ sym (e x)),
    tiles-constant g e t.1 b P h.3,
  )

-- ## THE MINUTES OF A DAY ARE ITS PIECES
module _ (f : ℕ → ℕ) (P : List Piece) (h : Tiles f 0 1440 P) (g : Map ℕ State) (e : (m : ℕ) → g (m ∷ []) ≡ state_coded (f m)) where
  fills : Fills (block ∷ [])
  fills = (λ i. tt, tt)

  apart : Aparts same_range eqb (block ∷ []) (map piece_range P ∷ [])
  apart = (rising-apart 0 (map piece_range P) (tiles-rise f 0 1440 P h), tt)

  tests : (os : List (State → Bool)) → All (λ ok. ok closed ≡ false) os
      → Tests (λ v. v) (λ v. Unit {0}) same_state same_state (λ u v pu pv. refl) same_range eqb closed closed refl tt (block ∷ []) fills
      (map piece_range P ∷ []) apart os os
  tests [] u = tt
  tests (ok ∷ os) u = (λ v p. refl, u.0, tests os u.1)

  groups-minutes : map (image (λ v. v) (block ∷ [])) (groups same_state same_range closed state_classes (map piece_range P ∷ []) (λ is. g (starts is)))
      ≡ groups same_state eqb closed state_classes (map coordinates (minute_bounds ∷ [])) g
  groups-minutes =
      groups-image (λ v. v) (λ v. Unit {0}) same_state same_state (λ u v pu pv. refl) same_range eqb closed closed refl tt (block ∷ []) fills
      (map piece_range P ∷ []) apart exact-state (exact-pair exact-eqb exact-eqb)
      state_classes state_classes (tests state_classes (refl, (refl, (refl, (refl, (refl, tt)))))) (λ is. g (starts is)) g (λ p. tt)
      (tiles-constant f g e 0 1440 P h)
      ∙ ap (λ R. groups same_state eqb closed state_classes (R ∷ []) g) (tiles-all f 0 1440 P h)

  part-runs : (S : Set Range) → Part (map piece_range P ∷ []) S → map runs (image {W = State} (λ v. v) (block ∷ []) (closed, S)).1 ≡ map joined S
  part-runs [] k = absurd k
  part-runs (E ∷ []) k = ap (◌∷ []) (runs-joined 0 E (rw k.0.1 (rising-keep k.0.0 0 (map piece_range P) (tiles-rise f 0 1440 P h))))
  part-runs (E ∷ F ∷ S) k = absurd k.1

  pub groups-pieces : map as_runs (groups same_state eqb closed state_classes (map coordinates (minute_bounds ∷ [])) g)
      ≡ map as_joined (groups same_state same_range closed state_classes (map piece_range P ∷ []) (λ is. g (starts is)))
  groups-pieces =
      ap (map as_runs) (sym groups-minutes) ∙ each (groups same_state same_range closed state_classes (map piece_range P ∷ []) (λ is. g (starts is)))
      (groups-part same_state same_range closed (map piece_range P ∷ []) state_classes (λ is. g (starts is)))
    where
      each : (gs : List (Group Range State)) → All (λ g. Part (map piece_range P ∷ []) g.1) gs
          → map as_runs (map (image (λ v. v) (block ∷ [])) gs) ≡ map as_joined gs
      each [] p = refl
      each (g ∷ gs) p = ap₂ ◌∷◌ (ap (λ S. (g.0, S)) (part-runs g.1 p.0)) (each gs p.1)
