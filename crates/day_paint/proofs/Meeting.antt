-- Where a stroke meets a range of minutes, by the later start and the earlier end.
use mathlib.Core.Path.{◌≡◌, refl, sym, ap, ap₂, ◌∙◌}
use mathlib.Core.List.{List}
use mathlib.Core.Bool.{Bool, true, false, cond}
use Prim.Native.Nat.{ℕ, zero, suc, ◌-◌, ◌≤◌, ◌<◌, min, max}
use native.Mathlib.Omega.{arith}
use lib.Dec.{ltb}
use lib.ListN.{get_or}
use borrow.Author.Tests.{lt-ltb, le-ltb, ltb-true, ltb-false}
use Rattle.day_paint.specs.Stroke.{stroke_start, stroke_end}
use Rattle.day_paint.specs.Piece.{later, earlier, meets_from, meets_up_to, meets, last_meeting}

-- ## The later and the earlier of two
pub later-up : (a s : ℕ) → a < s → s ≡ later a s
unfolding later
later-up a s h = rw (lt-ltb a s h)

pub later-own : (a s : ℕ) → s ≤ a → a ≡ later a s
unfolding later
later-own a s h = rw (le-ltb a s h)

pub earlier-down : (e b : ℕ) → b ≤ e → b ≡ earlier e b
unfolding earlier
earlier-down e b h = rw (le-ltb e b h)

-- the later is one of the two, and so is the earlier
later-or : (P : ℕ → Type 0) (a s : ℕ) → (s ≤ a → P a) → (a < s → P s) → P (later a s)
unfolding later
later-or P a s own up = go (ltb a s) refl
  where
    go : (t : Bool) → ltb a s ≡ t → P (later a s)
    go true e = rw e (up (ltb-true a s e))
    go false e = rw e (own (ltb-false a s e))

earlier-or : (P : ℕ → Type 0) (e b : ℕ) → (e < b → P e) → (b ≤ e → P b) → P (earlier e b)
unfolding earlier
earlier-or P e b own down = go (ltb e b) refl
  where
    go : (t : Bool) → ltb e b ≡ t → P (earlier e b)
    go true q = rw q (own (ltb-true e b q))
    go false q = rw q (down (ltb-false e b q))

pub later-bound : (a s : ℕ) → (a ≤ later a s) × (s ≤ later a s)
later-bound a s = later-or (λ v. (a ≤ v) × (s ≤ v)) a s (λ h. omega arith) (λ h. omega arith)

pub earlier-bound : (e b : ℕ) → (earlier e b ≤ e) × (earlier e b ≤ b)
earlier-bound e b = earlier-or (λ v. (v ≤ e) × (v ≤ b)) e b (λ h. omega arith) (λ h. omega arith)

-- what lies below the later of two, but not below the first, lies below the second
pub below-later : (a s m : ℕ) → a ≤ m → m < later a s → m < s
below-later a s m l = later-or (λ v. m < v → m < s) a s (λ h k. absurd (omega arith)) (λ h k. k)

pub above_earlier : (e b m : ℕ) → earlier e b ≤ m → m < b → e ≤ m
above_earlier e b m = earlier-or (λ v. v ≤ m → m < b → e ≤ m) e b (λ h l k. l) (λ h l k. absurd (omega arith))

-- ## Whether a stroke meets a range
module _ (x a b : ℕ) where
  pub meets-true : meets x a b ≡ true → meets_from x a < meets_up_to x b
  unfolding meets
  meets-true h = ltb-true (meets_from x a) (meets_up_to x b) h

  pub meets-false : meets x a b ≡ false → meets_up_to x b ≤ meets_from x a
  unfolding meets
  meets-false h = ltb-false (meets_from x a) (meets_up_to x b) h

  pub meets_at : meets_from x a < meets_up_to x b → meets x a b ≡ true
  unfolding meets
  meets_at h = lt-ltb (meets_from x a) (meets_up_to x b) h

  off : meets_up_to x b ≤ meets_from x a → meets x a b ≡ false
  unfolding meets
  off h = le-ltb (meets_from x a) (meets_up_to x b) h

  bounds : (a ≤ meets_from x a) × (stroke_start x ≤ meets_from x a) × (meets_up_to x b ≤ stroke_end x) × (meets_up_to x b ≤ b)
  bounds = omega (arith, later-bound a (stroke_start x), earlier-bound (stroke_end x) b)

  -- the range has no minutes
  pub meets-none : b ≤ a → meets x a b ≡ false
  meets-none h = off (omega (arith, bounds))

-- ## The last stroke that meets a range
module _ (q : List ℕ) (a b : ℕ) where
  pub last-few : (i : ℕ) → last_meeting q i a b ≤ i
  unfolding last_meeting
  last-few zero = omega arith
  last-few (suc i) = go (meets (get_or q i 0) a b) refl (last-few i)
    where
      go : (t : Bool) → meets (get_or q i 0) a b ≡ t → last_meeting q i a b ≤ i → last_meeting q (suc i) a b ≤ suc i
      go true e ih = rw e (omega arith)
      go false e ih = rw e (omega arith)

  pub last_meets : (i : ℕ) → 0 < last_meeting q i a b → meets (get_or q (last_meeting q i a b - 1) 0) a b ≡ true
  unfolding last_meeting
  last_meets zero = λ h. absurd (omega arith)
  last_meets (suc i) = go (meets (get_or q i 0) a b) refl (last_meets i)
    where
      go : (t : Bool) → meets (get_or q i 0) a b ≡ t → (0 < last_meeting q i a b → meets (get_or q (last_meeting q i a b - 1) 0) a b ≡ true)
          → 0 < last_meeting q (suc i) a b → meets (get_or q (last_meeting q (suc i) a b - 1) 0) a b ≡ true
      go true e ih = let z : suc i - 1 ≡ i = omega arith in rw (e, z) (λ h. e)
      go false e ih = rw e ih

  -- one stroke looked at, from the last back
  module _ (i : ℕ) (pos : 0 < i) where
    one : last_meeting q i a b ≡ cond (meets (get_or q (i - 1) 0) a b) (suc (i - 1)) (last_meeting q (i - 1) a b)
    unfolding last_meeting
    one = let z : i ≡ suc (i - 1) = omega arith in ap (λ n. last_meeting q n a b) z

    pub last-here : meets (get_or q (i - 1) 0) a b ≡ true → i ≡ last_meeting q i a b
    last-here e = let z : i ≡ suc (i - 1) = omega arith in z ∙ sym (rw e at one)

    pub last-below : meets (get_or q (i - 1) 0) a b ≡ false → last_meeting q (i - 1) a b ≡ last_meeting q i a b
    last-below e = sym (rw e at one)

  pub last_none : (i : ℕ) → i ≡ 0 → 0 ≡ last_meeting q i a b
  unfolding last_meeting
  last_none i e = ap (λ n. last_meeting q n a b) (sym e)

-- as the library chooses the later and the earlier of two minutes
pub max-later : (a b : ℕ) → max a b ≡ later a b
unfolding later
max-later a b = go (ltb a b) refl
  where
    go : (t : Bool) → ltb a b ≡ t → max a b ≡ cond t b a
    go true e = omega (arith, ltb-true a b e)
    go false e = omega (arith, ltb-false a b e)

pub min-earlier : (a b : ℕ) → min a b ≡ earlier a b
unfolding earlier
min-earlier a b = go (ltb a b) refl
  where
    go : (t : Bool) → ltb a b ≡ t → min a b ≡ cond t a b
    go true e = omega (arith, ltb-true a b e)
    go false e = omega (arith, ltb-false a b e)

pub meets-met : (x a b s e : ℕ) → s ≡ stroke_start x → e ≡ stroke_end x → ltb (max a s) (min e b) ≡ meets x a b
unfolding meets
meets-met x a b s e es ee = ap₂ ltb (max-later a s ∙ ap (later a) es) (min-earlier e b ∙ ap (λ v. earlier v b) ee)
