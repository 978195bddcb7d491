-- HOW A SHEET ENDS: the padding's first set bit, bytes that follow, or neither; and what reading answers in each case. Rests on the
-- definition of the first bit that is set.
use mathlib.Core.Path.{◌≡◌, refl, sym, ap, ◌∙◌}
use mathlib.Core.List.{List, [], ◌∷◌}
use mathlib.Core.Option.{none, some}
use mathlib.Core.Logic.{◌⊎◌, inl, inr}
use mathlib.Core.Bool.{Bool, true, false}
use Prim.Native.Nat.{ℕ, zero, suc, ◌+◌, ◌*◌, ◌-◌, ◌≤◌, ◌<◌}
use native.Mathlib.Omega.{arith}
use lib.Dec.{eqb, ltb}
use lib.ListN.{length, take, drop, get_or, length-take}
use lib.Seq.{get_or-take, get_or-drop}
use borrow.Author.Tests.{eqb-true, eqb-false, ltb-true, ltb-false}
use Rattle.laws.proofs.Numbers.{order}
use Rattle.definition.specs.Field.{got, refused, bytes_for, bad_end}
use Rattle.definition.specs.Sheet.{first_set, ended}
use Rattle.promises.specs.Conditions.{Zeros, PaddingSet, BytesFollow}

-- ## The first bit that is set
-- it is set and none before it is
record First (bs : List ℕ) (i : ℕ) : Type 0 where
  within : i < length bs
  set : get_or bs i 0 ≡ 0 → ⊥
  zeros : (j : ℕ) → j < i → get_or bs j 0 ≡ 0

abbrev None : List ℕ → Type 0
None bs = (j : ℕ) → get_or bs j 0 ≡ 0

abbrev SetCases : List ℕ → ℕ → Type 0
SetCases bs q = ((i : ℕ) × First bs i × (first_set bs q ≡ some (q + i))) ⊎ (None bs × (first_set bs q ≡ none))

set_cases : (bs : List ℕ) (q : ℕ) → SetCases bs q
unfolding first_set
set_cases [] q = inr (λ j. refl, refl)
set_cases (b ∷ bs) q = go (eqb b 0) refl (set_cases bs (suc q))
  where
    go : (t : Bool) → eqb b 0 ≡ t → SetCases bs (suc q) → SetCases (b ∷ bs) q
    go false e ih = inl (0, record { within = omega arith; set = eqb-false b 0 e; zeros = λ j l. absurd (omega arith) }, rw (e, first_set) (ap some at))
      where
        at : q ≡ q + 0
        at = omega arith
    go true e (inl k) =
        inl (suc k.0, record { within = omega (arith, k.1.within); set = k.1.set; zeros = zeros }, rw (e, first_set) (k.2 ∙ ap some next))
      where
        next : suc q + k.0 ≡ q + suc k.0
        next = omega arith

        zeros : (j : ℕ) → j < suc k.0 → get_or (b ∷ bs) j 0 ≡ 0
        zeros zero l = eqb-true b 0 e
        zeros (suc j) l = k.1.zeros j (omega arith)
    go true e (inr k) = inr (zeros, rw (e, first_set) k.1)
      where
        zeros : (j : ℕ) → get_or (b ∷ bs) j 0 ≡ 0
        zeros zero = eqb-true b 0 e
        zeros (suc j) = k.0 j

-- ## Behind the fields
module _ {A : Type 0} (s : List ℕ) (x : A) (q : ℕ) where
  abbrev end : ℕ
  end = 8 * bytes_for q

  abbrev padding : List ℕ
  padding = take (end - q) (drop q s)

  padding-bit : (j : ℕ) → q ≤ j → j < end → get_or padding (j - q) 0 ≡ get_or s j 0
  padding-bit j l k =
      let z : q + (j - q) ≡ j = omega arith in
      get_or-take (end - q) (drop q s) (j - q) 0 (omega arith) ∙ get_or-drop q s (j - q) 0 ∙ ap (λ i. get_or s i 0) z

  -- a padding bit is set, or bytes follow, or neither
  abbrev pub EndCases : Type 0
  EndCases = ((p : ℕ) × PaddingSet s q p × (ended s x q ≡ refused bad_end p))
      ⊎ (Zeros s q end × (((end < length s) × (ended s x q ≡ refused bad_end end)) ⊎ ((length s ≤ end) × (ended s x q ≡ got x q))))

  pub ended-cases : EndCases
  unfolding ended
  ended-cases = go (set_cases padding q)
    where
      follow : first_set padding q ≡ none → (b : Bool) → ltb end (length s) ≡ b
          → ((end < length s) × (ended s x q ≡ refused bad_end end)) ⊎ ((length s ≤ end) × (ended s x q ≡ got x q))
      follow f true e = inl (ltb-true end (length s) e, rw (f, e, ended))
      follow f false e = inr (ltb-false end (length s) e, rw (f, e, ended))

      go : SetCases padding q → EndCases
      go (inl k) = inl (q + k.0, (omega arith, below, set, zeros), rw (k.2, ended))
        where
          below : q + k.0 < end
          below = omega (arith, k.1.within, length-take (end - q) (drop q s))

          back : q + k.0 - q ≡ k.0
          back = omega arith

          set : get_or s (q + k.0) 0 ≡ 0 → ⊥
          set e = k.1.set (ap (λ i. get_or padding i 0) (sym back) ∙ padding-bit (q + k.0) (omega arith) below ∙ e)

          zeros : Zeros s q (q + k.0)
          zeros j l m = sym (padding-bit j l (omega (arith, below))) ∙ k.1.zeros (j - q) (omega arith)
      go (inr k) = inr (λ j l m. sym (padding-bit j l m) ∙ k.0 (j - q), follow k.1 (ltb end (length s)) refl)

  -- THE PLACE OF CODE 3, whichever way the bits end badly
  pub ended-badly : (p : ℕ) → PaddingSet s q p ⊎ BytesFollow s q p → ended s x q ≡ refused bad_end p
  ended-badly p h = go ended-cases h
    where
      same : (i : ℕ) → PaddingSet s q i → PaddingSet s q p → (i < p) ⊎ ((i ≡ p) ⊎ (p < i)) → i ≡ p
      same i f g (inl l) = absurd (f.2 (g.3 i f.0 l))
      same i f g (inr (inl e)) = e
      same i f g (inr (inr l)) = absurd (g.2 (f.3 p g.0 l))

      go : EndCases → PaddingSet s q p ⊎ BytesFollow s q p → ended s x q ≡ refused bad_end p
      go (inl f) (inl g) = f.2 ∙ ap (refused bad_end) (same f.0 f.1 g (order f.0 p))
      go (inl f) (inr g) = absurd (f.1.2 (g.0 f.0 f.1.0 f.1.1))
      go (inr z) (inl g) = absurd (g.2 (z.0 p g.0 g.1))
      go (inr (z, inl f)) (inr g) = f.1 ∙ ap (refused bad_end) (sym g.2)
      go (inr (z, inr f)) (inr g) = absurd (omega (arith, f.0, g.1))
