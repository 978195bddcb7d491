-- How many pages end at a place: each has at least five numbers, so only one number of pages ends there. And the invariant of the loop that
-- counts them.
use mathlib.Core.Path.{◌≡◌, refl, sym, ap, subst}
use mathlib.Core.List.{List}
use Prim.Native.Nat.{ℕ, zero, suc, ◌+◌, ◌*◌, ◌≤◌, ◌<◌}
use native.Mathlib.Omega.{arith}
use Rattle.tables.specs.Pages.{page_size, Counted}
use Rattle.tables.proofs.Pages.{size_low}

module _ (pages : List ℕ) (stop : ℕ) where
  counted-low : (n at : ℕ) → Counted pages n at stop → at + 5 * n ≤ stop
  unfolding Counted
  counted-low zero at h = omega (arith, h)
  counted-low (suc n) at h = omega (arith, counted-low n (at + page_size pages at) h.1, size_low pages at)

  -- ONE PLACE, ONE NUMBER OF PAGES
  counted-one : (m n at : ℕ) → Counted pages m at stop → Counted pages n at stop → m ≡ n
  unfolding Counted
  counted-one zero zero at h k = refl
  counted-one zero (suc n) at h k = absurd (omega (arith, counted-low (suc n) at k, h))
  counted-one (suc m) zero at h k = absurd (omega (arith, counted-low (suc m) at h, k))
  counted-one (suc m) (suc n) at h k = ap suc (counted-one m n (at + page_size pages at) h.1 k.1)

  -- so many pages passed, the others still to come
  pub record Passing (at count : ℕ) : Type 0 where
    pub left : ℕ
    pub later : Counted pages left at stop
    pub all : Counted pages (count + left) 0 stop

  pub pass-first : (n : ℕ) × Counted pages n 0 stop → Passing 0 0
  pass-first h = let none : h.0 ≡ 0 + h.0 = omega arith in record { left = h.0; later = h.1; all = subst (λ n. Counted pages n 0 stop) none h.1 }

  module _ (at count : ℕ) (p : Passing at count) where
    -- the next page, where the place is not reached
    pub pass-inside : at < stop → at + page_size pages at ≤ stop
    unfolding Counted
    pass-inside = go p.left p.later
      where
        go : (n : ℕ) → Counted pages n at stop → at < stop → at + page_size pages at ≤ stop
        go zero h l = absurd (omega (arith, h))
        go (suc n) h l = h.0

    pub pass-next : (size : ℕ) → size ≡ page_size pages at → at < stop → Passing (at + size) (count + 1)
    unfolding Counted
    pass-next size e = go p.left p.later p.all
      where
        go : (n : ℕ) → Counted pages n at stop → Counted pages (count + n) 0 stop → at < stop → Passing (at + size) (count + 1)
        go zero h k l = absurd (omega (arith, h))
        go (suc n) h k l =
            let more : count + suc n ≡ count + 1 + n = omega arith in
            record { left = n; later = subst (λ s. Counted pages n (at + s) stop) (sym e) h.1; all = subst (λ m. Counted pages m 0 stop) more k }

    pub pass-few : 5 * count ≤ stop
    pass-few = omega (arith, counted-low (count + p.left) 0 p.all)

    -- the place is reached: no other number of pages ends there
    pub pass-last : stop ≤ at → (n : ℕ) → Counted pages n 0 stop → count ≡ n
    pass-last l n h =
        let low = counted-low p.left at p.later in
        let same = counted-one (count + p.left) n 0 p.all h in
        omega (arith, low, same)
