-- The weekday of 1 January has a period of 400 years; so a table of one period, computed by the rule, has it for every year.
use mathlib.Core.Path.{◌≡◌, refl, sym, ap, ◌∙◌}
use mathlib.Core.List.{List, [], ◌∷◌}
use mathlib.Core.Bool.{cond}
use Prim.Native.Nat.{ℕ, zero, suc, ◌+◌, ◌*◌, ◌-◌, ◌/◌, ◌%◌, ◌≤◌, ◌<◌}
use native.Mathlib.Omega.{arith}
use lib.ListN.{get_or}
use Rattle.definition.specs.Date.{is_leap, new_year}

leap-period : (y : ℕ) → is_leap (y + 400) ≡ is_leap y
unfolding is_leap
leap-period y =
    let a : (y + 400) % 4 ≡ y % 4 = omega arith in
    let b : (y + 400) % 100 ≡ y % 100 = omega arith in
    let c : (y + 400) % 400 ≡ y % 400 = omega arith in rw (a, b, c)

-- 400 years are a whole number of weeks
one-period : new_year (0 + 400) ≡ new_year 0
unfolding new_year is_leap
one-period = refl

pub new-year-period : (n : ℕ) → new_year (n + 400) ≡ new_year n
unfolding new_year
new-year-period zero = one-period
new-year-period (suc n) =
    let more : suc n + 400 ≡ suc (n + 400) = omega arith in
    let on : 1900 + (n + 400) ≡ 1900 + n + 400 = omega arith in
    ap new_year more ∙ rw (new-year-period n, on, leap-period (1900 + n))

new-year-periods : (q n : ℕ) → new_year (n + 400 * q) ≡ new_year n
new-year-periods zero n = let e : n + 400 * 0 ≡ n = omega arith in ap new_year e
new-year-periods (suc q) n =
    let e : n + 400 * suc q ≡ n + 400 * q + 400 = omega arith in ap new_year e ∙ new-year-period (n + 400 * q) ∙ new-year-periods q n

-- the weekdays of n times 1 January from a year on, whose first is w: each steps by one, by two after a leap year
unfoldable pub stepped : ℕ → ℕ → ℕ → List ℕ
stepped w y zero = []
stepped w y (suc n) = w ∷ stepped ((w + cond (is_leap y) 2 1) % 7) (suc y) n

-- one period from the year 2000 on, with which a cycle begins, a Saturday
unfoldable pub cycle : List ℕ
cycle = stepped 5 2000 400

stepped-new-year : (a n k : ℕ) → k < n → get_or (stepped (new_year a) (1900 + a) n) k 0 ≡ new_year (a + k)
unfolding stepped new_year
stepped-new-year a zero k l = absurd (omega arith)
stepped-new-year a (suc n) zero l = let e : a ≡ a + 0 = omega arith in ap new_year e
stepped-new-year a (suc n) (suc k) l =
    let e : suc (1900 + a) ≡ 1900 + suc a = omega arith in
    let f : suc a + k ≡ a + suc k = omega arith in
    rw e (stepped-new-year (suc a) n k (omega arith)) ∙ ap new_year f

year-2000 : new_year 100 ≡ 5
unfolding new_year is_leap
year-2000 = refl

-- the cycle has the weekday of every 1 January from 1900 on
pub cycle-new-year : (y : ℕ) → 1900 ≤ y → get_or cycle (y % 400) 0 ≡ new_year (y - 1900)
unfolding cycle
cycle-new-year y h =
    let e : 100 + y % 400 + 400 * (y / 400 - 4) ≡ y - 1900 + 400 = omega arith in
    rw (← year-2000) (stepped-new-year 100 400 (y % 400) (omega arith))
    ∙ sym (new-year-periods (y / 400 - 4) (100 + y % 400))
    ∙ ap new_year e
    ∙ new-year-period (y - 1900)
