-- The pieces of a range, stroke by stroke from the last one back, and how many there are.
use mathlib.Core.Path.{◌≡◌, refl, sym, ap, ◌∙◌}
use mathlib.Core.List.{List, [], ◌∷◌, ◌++◌}
use mathlib.Core.Bool.{Bool, true, false, cond}
use Prim.Native.Nat.{ℕ, zero, suc, ◌+◌, ◌*◌, ◌-◌, ◌≤◌, ◌<◌}
use native.Mathlib.Omega.{arith}
use lib.Dec.{ltb}
use lib.ListN.{length, get_or, length-append}
use borrow.Author.Tests.{lt-ltb, le-ltb, ltb-true, ltb-false}
use Rattle.codes.specs.Number.{closed_number}
use Rattle.day_paint.specs.Stroke.{stroke_start, stroke_end, stroke_state}
use Rattle.day_paint.specs.Piece.{Piece, earlier, meets_from, meets_up_to, meets, last_meeting, painted_over, pieces}
use Rattle.day_paint.proofs.Meeting.{later-up, later-own, earlier-down, later-bound, earlier-bound, meets-true, meets_at, meets-none}

module _ (q : List ℕ) where
  pub step-over : (i a b : ℕ) → meets (get_or q i 0) a b ≡ false → pieces q (suc i) a b ≡ pieces q i a b
  unfolding pieces painted_over
  step-over i a b e = rw (e, painted_over)

  pub step_in : (i a b : ℕ) → meets (get_or q i 0) a b ≡ true
      → pieces q (suc i) a b
      ≡ pieces q i a (meets_from (get_or q i 0) a) ++ (meets_from (get_or q i 0) a, meets_up_to (get_or q i 0) b, stroke_state (get_or q i 0)) ∷ pieces q i
      (meets_up_to (get_or q i 0) b) b
  unfolding pieces painted_over
  step_in i a b e = rw (e, painted_over)

  pub pieces_none : (i a b : ℕ) → b ≤ a → pieces q i a b ≡ []
  unfolding pieces
  pieces_none zero a b h = rw (le-ltb a b h)
  pieces_none (suc i) a b h = step-over i a b (meets-none (get_or q i 0) a b h) ∙ pieces_none i a b h

  pub pieces-bare : (a b : ℕ) → a < b → pieces q 0 a b ≡ (a, b, closed_number) ∷ []
  unfolding pieces
  pieces-bare a b h = rw (lt-ltb a b h)

  -- strokes that don't meet the range show nothing in it
  pub pieces-last : (i a b : ℕ) → pieces q i a b ≡ pieces q (last_meeting q i a b) a b
  unfolding last_meeting
  pieces-last zero a b = refl
  pieces-last (suc i) a b = go (meets (get_or q i 0) a b) refl (pieces-last i a b)
    where
      go : (t : Bool) → meets (get_or q i 0) a b ≡ t → pieces q i a b ≡ pieces q (last_meeting q i a b) a b
          → pieces q (suc i) a b ≡ pieces q (last_meeting q (suc i) a b) a b
      go true e ih = rw e
      go false e ih = rw e (step-over i a b e ∙ ih)

  -- the last stroke of those up to j, x, meets what is left of a range from m up to b
  module _ (j m b : ℕ) (pos : 0 < j) (e : meets (get_or q (j - 1) 0) m b ≡ true) where
    abbrev x : ℕ
    x = get_or q (j - 1) 0

    split : pieces q j m b ≡ pieces q (j - 1) m (meets_from x m) ++ (meets_from x m, meets_up_to x b, stroke_state x) ∷ pieces q (j - 1) (meets_up_to x b) b
    split = let z : j ≡ suc (j - 1) = omega arith in ap (λ n. pieces q n m b) z ∙ step_in (j - 1) m b e

    pub ends-later : m < earlier (stroke_end (get_or q (j - 1) 0)) b
    ends-later = omega (arith, meets-true x m b e, later-bound m (stroke_start x))

    -- it shows from m on
    pub pieces-here : stroke_start (get_or q (j - 1) 0) ≤ m
        → pieces q j m b ≡ (m, meets_up_to (get_or q (j - 1) 0) b, stroke_state (get_or q (j - 1) 0)) ∷ pieces q (j - 1) (meets_up_to (get_or q (j - 1) 0) b) b
    pieces-here h =
        let own : meets_from x m ≡ m = sym (later-own m (stroke_start x) h) in
        let rest : ℕ → List Piece = λ v. (v, meets_up_to x b, stroke_state x) ∷ pieces q (j - 1) (meets_up_to x b) b in
        split ∙ ap (λ v. pieces q (j - 1) m v ++ rest v) own ∙ ap (◌++ rest m) (pieces_none (j - 1) m m (omega arith))

  -- it shows from a later minute s on
  pub pieces-left : (j m b : ℕ) → 0 < j → meets (get_or q (j - 1) 0) m b ≡ true → (s : ℕ) → s ≡ stroke_start (get_or q (j - 1) 0) → m < s
      → pieces q j m b ≡ pieces q (j - 1) m s ++ pieces q j s b
  pieces-left j m b pos e s es h =
      let y : ℕ = get_or q (j - 1) 0 in
      let up : meets_from y m ≡ s = sym (later-up m (stroke_start y) (omega arith)) ∙ sym es in
      let own : meets_from y s ≡ s = sym (later-own s (stroke_start y) (omega arith)) in
      let on : meets y s b ≡ true = meets_at y s b (omega (arith, meets-true y m b e, up, own)) in
      split j m b pos e ∙ ap (λ v. pieces q (j - 1) m v ++ (v, meets_up_to y b, stroke_state y) ∷ pieces q (j - 1) (meets_up_to y b) b) up
      ∙ ap (pieces q (j - 1) m s ++◌) (sym (pieces-here j s b pos on (omega arith)))

-- ## How many pieces there are: one more than the strokes' ends within the range, at most
inside : ℕ → ℕ → ℕ → ℕ
inside x a b = cond (ltb a x) (cond (ltb x b) 1 0) 0

-- it is within, or it counts for nothing
inside-or : (P : ℕ → Type 0) (x a b : ℕ) → (a < x → x < b → P 1) → P 0 → P (inside x a b)
unfolding inside
inside-or P x a b within out = go (ltb a x) refl (ltb x b) refl
  where
    go : (s : Bool) → ltb a x ≡ s → (t : Bool) → ltb x b ≡ t → P (inside x a b)
    go true e true f = rw (e, f) (within (ltb-true a x e) (ltb-true x b f))
    go true e false f = rw (e, f) out
    go false e t f = rw e out

inside-yes : (x a b : ℕ) → a < x → x < b → inside x a b ≡ 1
unfolding inside
inside-yes x a b h k = rw (lt-ltb a x h, lt-ltb x b k)

inside-few : (x a b : ℕ) → inside x a b ≤ 1
inside-few x a b = inside-or (λ n. n ≤ 1) x a b (λ h k. omega arith) (omega arith)

inside-split : (x a p u b : ℕ) → a ≤ p → p ≤ u → u ≤ b → inside x a p + inside x u b ≤ inside x a b
inside-split x a p u b l m r =
    inside-or (λ n. n + inside x u b ≤ inside x a b) x a p
    (λ h k. inside-or (λ n. 1 + n ≤ inside x a b) x u b (λ h' k'. absurd (omega arith)) (omega (arith, inside-yes x a b h (omega arith))))
    (inside-or (λ n. 0 + n ≤ inside x a b) x u b (λ h k. omega (arith, inside-yes x a b (omega arith) k)) (omega arith))

module _ (q : List ℕ) where
  ends : ℕ → ℕ → ℕ → ℕ
  ends zero a b = 0
  ends (suc i) a b = inside (stroke_start (get_or q i 0)) a b + inside (stroke_end (get_or q i 0)) a b + ends i a b

  ends-split : (i a p u b : ℕ) → a ≤ p → p ≤ u → u ≤ b → ends i a p + ends i u b ≤ ends i a b
  unfolding ends
  ends-split zero a p u b l m r = omega arith
  ends-split (suc i) a p u b l m r =
      omega (arith, ends-split i a p u b l m r, inside-split (stroke_start (get_or q i 0)) a p u b l m r, inside-split (stroke_end (get_or q i 0)) a p u b l m r)

  ends-few : (i a b : ℕ) → ends i a b ≤ 2 * i
  unfolding ends
  ends-few zero a b = omega arith
  ends-few (suc i) a b = omega (arith, ends-few i a b, inside-few (stroke_start (get_or q i 0)) a b, inside-few (stroke_end (get_or q i 0)) a b)

  counted : (i a b : ℕ) → length (pieces q i a b) ≤ suc (ends i a b)
  unfolding ends
  counted zero a b = go (ltb a b) refl
    where
      go : (t : Bool) → ltb a b ≡ t → length (pieces q zero a b) ≤ 1
      go true e = omega (arith, ap length (pieces-bare q a b (ltb-true a b e)))
      go false e = omega (arith, ap length (pieces_none q 0 a b (ltb-false a b e)))
  counted (suc i) a b = go (meets x a b) refl (counted i a b) (counted i a p) (counted i u b)
    where
      x : ℕ
      x = get_or q i 0

      s : ℕ
      s = stroke_start x

      e : ℕ
      e = stroke_end x

      p : ℕ
      p = meets_from x a

      u : ℕ
      u = meets_up_to x b

      -- to the left there are pieces only where the stroke's start lies within the range, to the right only where its end does
      left : p < u → length (pieces q i a p) ≤ suc (ends i a p) → length (pieces q i a p) ≤ inside s a b + ends i a p
      left h ih = go (ltb a s) refl
        where
          go : (t : Bool) → ltb a s ≡ t → length (pieces q i a p) ≤ inside s a b + ends i a p
          go true f = omega (arith, ih, inside-yes s a b (ltb-true a s f) (omega (arith, h, later-bound a s, earlier-bound e b)))
          go false f = omega (arith, ap length (pieces_none q i a p (omega (arith, later-own a s (ltb-false a s f)))))

      right : p < u → length (pieces q i u b) ≤ suc (ends i u b) → length (pieces q i u b) ≤ inside e a b + ends i u b
      right h ih = go (ltb e b) refl
        where
          go : (t : Bool) → ltb e b ≡ t → length (pieces q i u b) ≤ inside e a b + ends i u b
          go true f = omega (arith, ih, inside-yes e a b (omega (arith, h, later-bound a s, earlier-bound e b)) (ltb-true e b f))
          go false f = omega (arith, ap length (pieces_none q i u b (omega (arith, earlier-down e b (ltb-false e b f)))))

      go : (t : Bool) → meets x a b ≡ t → length (pieces q i a b) ≤ suc (ends i a b) → length (pieces q i a p) ≤ suc (ends i a p)
          → length (pieces q i u b) ≤ suc (ends i u b)
          → length (pieces q (suc i) a b) ≤ suc (inside s a b + inside e a b + ends i a b)
      go true f ih il ir =
          let h : p < u = meets-true x a b f in
          let all : length (pieces q (suc i) a b) ≡ length (pieces q i a p) + suc (length (pieces q i u b)) =
          ap length (step_in q i a b f) ∙ length-append (pieces q i a p) _ in
          omega (arith, all, left h il, right h ir, ends-split i a p u b (omega (arith, later-bound a s)) (omega arith) (omega (arith, earlier-bound e b)))
      go false f ih il ir = omega (arith, ih, ap length (step-over q i a b f))

  pub pieces-few : (i a b : ℕ) → length (pieces q i a b) ≤ 2 * i + 1
  pieces-few i a b = omega (arith, counted i a b, ends-few i a b)
