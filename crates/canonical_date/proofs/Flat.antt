-- Ranges as numbers, start, end, start, end .., and how `put_range` and `put_split` lay them into the table.
use mathlib.Core.Path.{◌≡◌, refl, ap, ◌∙◌}
use mathlib.Core.List.{List, [], ◌∷◌, ◌++◌}
use Prim.Native.Nat.{ℕ, suc, ◌+◌, ◌*◌}
use native.Mathlib.Omega.{arith}
use lib.ListN.{length, set}
use lib.Seq.{sets}
use Rattle.grid.specs.Cut.{Range}
use Rattle.bounded.specs.declared.StrictRange.{StrictRange}
use Rattle.bounded.specs.declared.Split.{Split}
use Rattle.bounded.specs.declared.Split.TheVariants.{One, Two}
use Rattle.bounded.specs.Strict.{pair_of, list_of}
use Rattle.canonical_date.specs.Row.{flat}

pub flat_append : (R Q : List Range) → flat (R ++ Q) ≡ flat R ++ flat Q
unfolding flat
flat_append [] Q = refl
flat_append (r ∷ R) Q = ap (λ ns. r.0 ∷ r.1 ∷ ns) (flat_append R Q)

pub flat-length : (R : List Range) → length (flat R) ≡ 2 * length R
unfolding flat
flat-length [] = refl
flat-length (r ∷ R) = omega (arith, flat-length R)

-- ## Ranges put one by one
module _ (l : List ℕ) (p : ℕ) where
  pub put_one : (r : Range) → set (set l p r.0) (p + 1) r.1 ≡ sets l p (flat (r ∷ []))
  unfolding flat
  put_one r = let z : p + 1 ≡ suc p = omega arith in ap (λ j. set (set l p r.0) j r.1) z

  pub put-single : (v : Split) (r : StrictRange) (m : List ℕ) → v ≡ One r → m ≡ sets l p (flat (pair_of r ∷ []))
      → (p + 2 ≡ p + length (flat (list_of v))) × (m ≡ sets l p (flat (list_of v)))
  unfolding flat
  put-single v r m e h = rw e (refl, h)

  pub put-double : (v : Split) (r q : StrictRange) (m n : List ℕ) → v ≡ Two r q → m ≡ sets l p (flat (pair_of r ∷ [])) → n ≡ sets m (p + 2) (flat (pair_of q ∷ []))
      → (p + 4 ≡ p + length (flat (list_of v))) × (n ≡ sets l p (flat (list_of v)))
  unfolding flat
  put-double v r q m n e h k = let z : p + 2 ≡ suc (suc p) = omega arith in rw e (refl, k ∙ ap (λ j. sets m j (flat (pair_of q ∷ []))) z ∙ ap (λ x. sets x (suc (suc p)) (flat (pair_of q ∷ []))) h)
