-- What pieces mean: they tile their range, and on each the strokes show its state.
use mathlib.Core.Path.{◌≡◌, refl, ap, ◌∙◌}
use mathlib.Core.List.{List, [], ◌∷◌, ◌++◌}
use mathlib.Core.Bool.{Bool, true, false}
use Prim.Native.Nat.{ℕ, zero, suc, ◌+◌, ◌≤◌, ◌<◌}
use native.Mathlib.Omega.{arith}
use lib.Dec.{leb, ltb}
use lib.ListN.{get_or}
use borrow.Author.Tests.{lt-ltb, le-ltb, le-leb, lt-leb, ltb-true, ltb-false}
use Rattle.codes.specs.Number.{closed_number}
use Rattle.words.specs.Words.{part}
use Rattle.day_paint.specs.Stroke.{stroke_start, stroke_end, stroke_state, stroke_over, shown}
use Rattle.day_paint.specs.Piece.{Piece, meets_from, meets_up_to, meets, pieces, Tiles}
use Rattle.day_paint.proofs.Meeting.{later-bound, earlier-bound, below-later, above_earlier, meets-true, meets-false}
use Rattle.day_paint.proofs.Pieces.{pieces_none, pieces-bare, step_in, step-over}

module _ (f : ℕ → ℕ) where
  pub tiles-up : (a b : ℕ) (L : List Piece) → Tiles f a b L → a ≤ b
  tiles-up a b [] h = omega arith
  tiles-up a b (t ∷ L) h = omega (arith, h.1, tiles-up t.1 b L h.3)

  pub tiles-append : (a c b : ℕ) (L M : List Piece) → Tiles f a c L → Tiles f c b M → Tiles f a b (L ++ M)
  tiles-append a c b [] M h k = rw h k
  tiles-append a c b (t ∷ L) M h k = (h.0, h.1, h.2, tiles-append t.1 c b L M h.3 k)

  pub tiles-same : (g : ℕ → ℕ) (a b : ℕ) (L : List Piece) → ((m : ℕ) → a ≤ m → m < b → g m ≡ f m) → Tiles f a b L → Tiles g a b L
  tiles-same g a b [] e h = h
  tiles-same g a b (t ∷ L) e h =
      let u = tiles-up t.1 b L h.3 in
      (h.0, h.1, λ m l k. e m l (omega arith) ∙ h.2 m l k, tiles-same g t.1 b L (λ m l k. e m (omega (arith, h.1)) k) h.3)

-- ## What strokes show, the last of them first
pub shown-last : (q : List ℕ) (S m a n : ℕ) → shown S (part q a (suc n)) m ≡ stroke_over (get_or q (a + n) 0) m (shown S (part q a n) m)
unfolding shown part
shown-last q S m a zero = let e : a ≡ a + 0 = omega arith in ap (λ i. stroke_over (get_or q i 0) m S) e
shown-last q S m a (suc n) =
    let e : a + 1 + n ≡ a + suc n = omega arith in
    shown-last q (stroke_over (get_or q a 0) m S) m (a + 1) n ∙ ap (λ i. stroke_over (get_or q i 0) m (shown (stroke_over (get_or q a 0) m S) (part q (a + 1) n) m)) e

pub over-in : (x m S : ℕ) → stroke_start x ≤ m → m < stroke_end x → stroke_over x m S ≡ stroke_state x
unfolding stroke_over
over-in x m S h k = rw (le-leb (stroke_start x) m h, lt-ltb m (stroke_end x) k)

pub over-before : (x m S : ℕ) → m < stroke_start x → stroke_over x m S ≡ S
unfolding stroke_over
over-before x m S h = rw (lt-leb (stroke_start x) m h)

pub over-after : (x m S : ℕ) → stroke_end x ≤ m → stroke_over x m S ≡ S
unfolding stroke_over
over-after x m S h = go (leb (stroke_start x) m) refl
  where
    go : (b : Bool) → leb (stroke_start x) m ≡ b → stroke_over x m S ≡ S
    go true e = rw (e, le-ltb m (stroke_end x) h)
    go false e = rw e

module _ (q : List ℕ) where
  abbrev at : ℕ → ℕ → ℕ
  at i m = shown closed_number (part q 0 i) m

  more : (i m : ℕ) → at (suc i) m ≡ stroke_over (get_or q i 0) m (at i m)
  more i m = let z : 0 + i ≡ i = omega arith in shown-last q closed_number m 0 i ∙ ap (λ k. stroke_over (get_or q k 0) m (at i m)) z

  -- THE PIECES OF A RANGE
  pub pieces-tile : (i a b : ℕ) → a ≤ b → Tiles (at i) a b (pieces q i a b)
  pieces-tile zero a b h = go (ltb a b) refl
    where
      go : (t : Bool) → ltb a b ≡ t → Tiles (at 0) a b (pieces q 0 a b)
      go true e = rw (pieces-bare q a b (ltb-true a b e)) (refl, ltb-true a b e, (λ m l k. unfold shown part in refl), refl)
      go false e = rw (pieces_none q 0 a b (ltb-false a b e)) (omega (arith, ltb-false a b e))
  pieces-tile (suc i) a b h =
      go (meets (get_or q i 0) a b) refl (pieces-tile i a b h)
      (λ u. pieces-tile i a (meets_from (get_or q i 0) a) u) (λ u. pieces-tile i (meets_up_to (get_or q i 0) b) b u)
    where
      x : ℕ
      x = get_or q i 0

      p : ℕ
      p = meets_from (get_or q i 0) a

      u : ℕ
      u = meets_up_to (get_or q i 0) b

      lo : (a ≤ p) × (stroke_start x ≤ p)
      lo = later-bound a (stroke_start x)

      hi : (u ≤ stroke_end x) × (u ≤ b)
      hi = earlier-bound (stroke_end x) b

      go : (t : Bool) → meets (get_or q i 0) a b ≡ t → Tiles (at i) a b (pieces q i a b) → (a ≤ p → Tiles (at i) a p (pieces q i a p))
          → (u ≤ b → Tiles (at i) u b (pieces q i u b))
          → Tiles (at (suc i)) a b (pieces q (suc i) a b)
      go true e w l r =
          let s : p < u = meets-true x a b e in
          rw (step_in q i a b e) (tiles-append (at (suc i)) a p b (pieces q i a p) ((p, u, stroke_state x) ∷ pieces q i u b)
          (tiles-same (at i) (at (suc i)) a p (pieces q i a p) (λ m j k. more i m ∙ over-before x m (at i m) (below-later a (stroke_start x) m j k))
          (l lo.0)) (
            refl,
            s,
            (λ m j k. more i m ∙ over-in x m (at i m) (omega (arith, lo)) (omega (arith, hi))),
            tiles-same (at i) (at (suc i)) u b (pieces q i u b) (λ m j k. more i m ∙ over-after x m (at i m) (above_earlier (stroke_end x) b m j k)) (r hi.1),
          ))
      go false e w l r =
          let s : u ≤ p = meets-false x a b e in
          rw (step-over q i a b e) (tiles-same (at i) (at (suc i)) a b (pieces q i a b) (λ m j k. more i m ∙ off m j k (ltb m (stroke_start x)) refl) w)
        where
          off : (m : ℕ) → a ≤ m → m < b → (t : Bool) → ltb m (stroke_start x) ≡ t → stroke_over x m (at i m) ≡ at i m
          off m j k true f = over-before x m (at i m) (ltb-true m (stroke_start x) f)
          off m j k false f =
              over-after x m (at i m) (above_earlier (stroke_end x) b m (past (ltb m p) refl) k)
            where
              past : (t : Bool) → ltb m p ≡ t → u ≤ m
              past true g = absurd (omega (arith, below-later a (stroke_start x) m j (ltb-true m p g), ltb-false m (stroke_start x) f))
              past false g = omega (arith, ltb-false m p g, meets-false x a b e)
