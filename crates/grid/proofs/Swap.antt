-- In whatever order values are cut at, the cuts are the same.
use mathlib.Core.Path.{◌≡◌, sym, ap, ◌∙◌}
use mathlib.Core.List.{List, [], ◌∷◌}
use mathlib.Core.Logic.{◌⊎◌, inl, inr}
use Prim.Native.Nat.{ℕ, ◌<◌}
use native.Mathlib.Omega.{arith}
use borrow.Author.Tests.{lt-ltb, le-ltb, eq-eqb, ne_eqb}
use Rattle.laws.proofs.Numbers.{order}
use Rattle.grid.specs.Cut.{cut_at}

cut-before : (x y : ℕ) (ys : List ℕ) → x < y → cut_at x (y ∷ ys) ≡ x ∷ y ∷ ys
unfolding cut_at
cut-before x y ys h = rw (lt-ltb x y h, cut_at)

cut-there : (x y : ℕ) (ys : List ℕ) → x ≡ y → cut_at x (y ∷ ys) ≡ y ∷ ys
unfolding cut_at
cut-there x y ys h = rw (le-ltb x y (omega arith), eq-eqb x y h, cut_at)

cut-after : (x y : ℕ) (ys : List ℕ) → y < x → cut_at x (y ∷ ys) ≡ y ∷ cut_at x ys
unfolding cut_at
cut-after x y ys h = rw (le-ltb x y (omega arith), ne_eqb x y (omega arith), cut_at)

lower_last : (x y : ℕ) (cs : List ℕ) → x < y → cut_at x (cut_at y cs) ≡ cut_at y (cut_at x cs)
lower_last x y [] h = (unfold cut_at in cut-before x y [] h ∙ sym (cut-after y x [] h))
lower_last x y (c ∷ cs) h = go (order x c) (order y c) (lower_last x y cs h)
  where
    first : (zs : List ℕ) (z : ℕ) → cut_at y (c ∷ cs) ≡ z ∷ zs → x < z → x < c → cut_at x (cut_at y (c ∷ cs)) ≡ cut_at y (cut_at x (c ∷ cs))
    first zs z e l k =
        ap (cut_at x) e ∙ cut-before x z zs l ∙ ap (x ∷◌) (sym e) ∙ sym (ap (cut_at y) (cut-before x c cs k) ∙ cut-after y x (c ∷ cs) h)

    go : (x < c) ⊎ ((x ≡ c) ⊎ (c < x)) → (y < c) ⊎ ((y ≡ c) ⊎ (c < y)) → cut_at x (cut_at y cs) ≡ cut_at y (cut_at x cs)
        → cut_at x (cut_at y (c ∷ cs)) ≡ cut_at y (cut_at x (c ∷ cs))
    go (inl a) (inl b) ih = first (c ∷ cs) y (cut-before y c cs b) h a
    go (inl a) (inr (inl b)) ih = first cs c (cut-there y c cs b) a a
    go (inl a) (inr (inr b)) ih = first (cut_at y cs) c (cut-after y c cs b) a a
    go (inr (inl a)) b ih =
        let l : c < y = omega arith in
        ap (cut_at x) (cut-after y c cs l) ∙ cut-there x c (cut_at y cs) a ∙ sym (ap (cut_at y) (cut-there x c cs a) ∙ cut-after y c cs l)
    go (inr (inr a)) b ih =
        let l : c < y = omega arith in
        ap (cut_at x) (cut-after y c cs l) ∙ cut-after x c (cut_at y cs) a ∙ ap (c ∷◌) ih ∙ sym (ap (cut_at y) (cut-after x c cs a) ∙ cut-after y c (cut_at x cs) l)

-- THE ORDER DOES NOT MATTER
pub cut-swap : (x y : ℕ) (cs : List ℕ) → cut_at x (cut_at y cs) ≡ cut_at y (cut_at x cs)
cut-swap x y cs = go (order x y)
  where
    go : (x < y) ⊎ ((x ≡ y) ⊎ (y < x)) → cut_at x (cut_at y cs) ≡ cut_at y (cut_at x cs)
    go (inl h) = lower_last x y cs h
    go (inr (inl h)) = rw h
    go (inr (inr h)) = sym (lower_last y x cs h)
