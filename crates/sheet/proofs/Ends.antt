-- Where items end: how far each goes, and a row of items one by one.
use mathlib.Core.Path.{◌≡◌, refl, sym, ap, ◌∙◌, subst}
use mathlib.Core.List.{List}
use Rattle.std.specs.Prelude.{Result, Err}
use Rattle.std.specs.Result.{IsErrAnd}
use Rattle.std.proofs.lemmas.Result.{err_from_is_err_and}
use Rattle.answers.specs.declared.refusal.Refusal.{Refusal}
use Prim.Native.Nat.{ℕ, zero, suc, ◌+◌, ◌*◌, ◌≤◌, ◌<◌}
use native.Mathlib.Omega.{arith}
use Rattle.definition.specs.Field.{Read, got, refused, and_then, Layout}
use Rattle.definition.specs.Sheet.{year_range, monthday_range, week_range, week_day_range, span}
use Rattle.definition.proofs.Faithful.{clash}
use Rattle.definition.proofs.Reading.{Short}
use Rattle.definition.proofs.Lengths.{years-short, monthdays-short, weeks-short, weekdays-short, span-short}
use Rattle.item.specs.Sort.{named}
use Rattle.item.proofs.Sorts.{of-each, of-named}
use Rattle.sheet.specs.End.{End, ends, item_ends, skip_all}

-- a refusal that a `?` passes on
pub fails_on : {T P : Type 0} (f : Result T Refusal → P) (r : Result T Refusal) (e : Refusal) (whole : P) → IsErrAnd r (λ y. y ≡ e) → whole ≡ f (Err e) → f r ≡ whole
fails_on f r e whole h w = let p = err_from_is_err_and r h in ap f (p.1 ∙ ap Err p.2) ∙ sym w

-- what is known to end was read
pub ends-got : {A : Type 0} (w : Read A) (q : ℕ) → ends w ≡ got tt q → (x : A) × (w ≡ got x q)
ends-got (refused c i) q h = clash c i tt q h
ends-got (got x j) q h = let z : j ≡ q = cc in (x, ap (got x) z)

-- ## No item takes more than 52 bits
end_short : {A : Type 0} (L : Layout A) (n : ℕ) → Short L n → n ≤ 52 → (s : List ℕ) (p q : ℕ) → ends (L.read s p) ≡ got tt q → q ≤ p + 52
end_short L n a l s p q e = let w = ends-got (L.read s p) q e in omega (arith, a s p w.0 q w.1)

pub item-short : (sort : ℕ) (s : List ℕ) (p q : ℕ) → item_ends sort s p ≡ got tt q → q ≤ p + 52
item-short sort s p q =
    of-each _ _ _ _ _ sort s p (λ (w : End). w ≡ got tt q → q ≤ p + 52) (end_short year_range 44 years-short (omega arith) s p q)
    (end_short monthday_range 34 monthdays-short (omega arith) s p q) (end_short week_range 20 weeks-short (omega arith) s p q)
    (end_short week_day_range 33 weekdays-short (omega arith) s p q) (end_short span 52 span-short (omega arith) s p q)

-- ## A row of items, one by one
module _ (r : List ℕ → ℕ → End) (s : List ℕ) (p : ℕ) where
  pub skip-goes : (n m q : ℕ) → n ≡ suc m → r s p ≡ got tt q → skip_all r n s p ≡ skip_all r m s q
  unfolding skip_all
  skip-goes n m q e h = ap (λ k. skip_all r k s p) e ∙ rw h refl

  pub skip-stops : (n c q : ℕ) → 0 < n → r s p ≡ refused c q → skip_all r n s p ≡ refused c q
  unfolding skip_all
  skip-stops zero c q l h = absurd (omega arith)
  skip-stops (suc n) c q l h = rw h

  pub skip-ends : (n : ℕ) → n ≡ 0 → skip_all r n s p ≡ got tt p
  unfolding skip_all
  skip-ends n e = ap (λ m. skip_all r m s p) e

-- what each step keeps, a row keeps: I speaks of how many are left and of the place
pub skip-keeps : (r : List ℕ → ℕ → End) (s : List ℕ) (I : ℕ → ℕ → Type 0) → ((n p q : ℕ) → I (suc n) p → r s p ≡ got tt q → I n q)
    → (n p q : ℕ) → I n p → skip_all r n s p ≡ got tt q → I 0 q
unfolding skip_all
skip-keeps r s I step zero p q i e = let z : p ≡ q = cc in subst (I 0) z i
skip-keeps r s I step (suc n) p q i e = go (r s p) refl e (skip-keeps r s I step n)
  where
    go : (w : End) → r s p ≡ w → and_then (λ u j. skip_all r n s j) w ≡ got tt q → ((p q : ℕ) → I n p → skip_all r n s p ≡ got tt q → I 0 q) → I 0 q
    go (refused c j) h g ih = clash c j tt q g
    go (got u j) h g ih = ih j q (step n p j i h) g

-- a row takes at most as often as many bits as one
pub skip-short : (r : List ℕ → ℕ → End) (m : ℕ) (s : List ℕ) → ((p q : ℕ) → r s p ≡ got tt q → q ≤ p + m) → (n p q : ℕ) → skip_all r n s p ≡ got tt q
    → q ≤ p + n * m
skip-short r m s short n p q e =
    let end = skip-keeps r s (λ k j. j + k * m ≤ p + n * m) (λ k j i l h. omega (arith, short j i h)) n p q (omega arith) e in
    omega (arith, end)

-- two readings that agree at each bit make the same row
pub skip-alike : (r t : List ℕ → ℕ → End) → ((s : List ℕ) (p : ℕ) → r s p ≡ t s p) → (n : ℕ) (s : List ℕ) (p : ℕ) → skip_all r n s p ≡ skip_all t n s p
unfolding skip_all
skip-alike r t f zero s p = refl
skip-alike r t f (suc n) s p = rw (f s p) (go (t s p) (skip-alike r t f n s))
  where
    go : (w : End) → ((q : ℕ) → skip_all r n s q ≡ skip_all t n s q) → and_then (λ u q. skip_all r n s q) w ≡ and_then (λ u q. skip_all t n s q) w
    go (refused c q) ih = refl
    go (got u q) ih = ih q

-- a number says what the sort says that it names
pub skip-named : (sort number n : ℕ) (s : List ℕ) (p : ℕ) → number ≡ named sort → skip_all (item_ends number) n s p ≡ skip_all (item_ends sort) n s p
skip-named sort number n s p e = skip-alike _ _ (λ s p. of-named _ _ _ _ _ sort s p number e) n s p
