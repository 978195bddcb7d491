-- The items of a dimension lie below its last cut. Rests on the runs of columns.
use mathlib.Core.Path.{◌≡◌, refl, sym, ap, subst}
use mathlib.Core.Bool.{Bool, true, false, ◌&&◌}
use mathlib.Core.List.{List, [], ◌∷◌}
use Prim.Native.Nat.{ℕ, zero, suc, ◌+◌, ◌≤◌, ◌<◌}
use native.Mathlib.Omega.{arith}
use lib.Dec.{eqb}
use borrow.Author.Tests.{eqb-true}
use Rattle.laws.specs.Lists.{All}
use Rattle.laws.proofs.Lists.{All-map, All-image}
use Rattle.grid.specs.Cut.{Range, glue}
use Rattle.definition.specs.Range.{Ends}
use Rattle.definition.specs.Group.{items_of}
use Rattle.date_items.specs.Runs.{runs_of, cut_of, Cuts, as_item}
use Rattle.tables.specs.Cuts.{interval_at}
use Rattle.date_items.proofs.Joining.{Rises, runs_none, runs-in, runs-out}

-- ## Runs below a top
abbrev Inside : ℕ → Range → Type 0
Inside top r = (r.0 < r.1) × (r.1 ≤ top)

glue-inside : (top : ℕ) (i : Range) (rs : List Range) → Inside top i → All (Inside top) rs → All (Inside top) (glue i rs)
unfolding glue
glue-inside top i [] h a = (h, tt)
glue-inside top i (j ∷ rs) h a = go (eqb i.1 j.0) refl
  where
    go : (b : Bool) → eqb i.1 j.0 ≡ b → All (Inside top) (glue i (j ∷ rs))
    go true e = rw (e, glue) ((omega (arith, h.0, a.0.0, eqb-true i.1 j.0 e), a.0.1), a.1)
    go false e = rw (e, glue) (h, a)

module _ (cut : ℕ → ℕ) (t : ℕ → Bool) where
  rises-top : (n x : ℕ) → Rises cut x n → cut x ≤ cut (x + n)
  rises-top zero x up = let e : x + 0 ≡ x = omega arith in omega (arith, ap cut e)
  rises-top (suc n) x up =
      let e : x + suc n ≡ suc x + n = omega arith in
      omega (arith, ap cut e, up x (omega arith) (omega arith), rises-top n (suc x) (λ y l k. up y (omega arith) (omega arith)))

  runs-inside : (n x top : ℕ) → cut (x + n) ≤ top → Rises cut x n → All (Inside top) (runs_of cut t x n)
  runs-inside zero x top h up = subst (All (Inside top)) (sym (runs_none cut t x)) tt
  runs-inside (suc n) x top h up = go (t x) refl (runs-inside n (suc x) top (omega (arith, ap cut next)) later)
    where
      next : x + suc n ≡ suc x + n
      next = omega arith

      later : Rises cut (suc x) n
      later y l k = up y (omega arith) (omega arith)

      go : (b : Bool) → t x ≡ b → All (Inside top) (runs_of cut t (suc x) n) → All (Inside top) (runs_of cut t x (suc n))
      go true e ih =
          subst (All (Inside top)) (sym (runs-in cut t x n e))
          (glue-inside top (interval_at cut x) (runs_of cut t (suc x) n)
          (up x (omega arith) (omega arith), omega (arith, h, ap cut next, rises-top n (suc x) later)) ih)
      go false e ih = subst (All (Inside top)) (sym (runs-out cut t x n e)) ih

-- ## Items
abbrev Under : ℕ → Ends → Type 0
Under upper e = (e.0 < upper) × (e.1 < upper)

items-under : (b : Range) (top : ℕ) (rs : List Range) → All (Inside top) rs → All (Under top) (items_of b rs)
unfolding items_of
items-under b top [] a = tt
items-under b top (r ∷ rs) a = go (eqb r.0 b.0 && eqb r.1 b.1) refl
  where
    lower : (q : Range) → Inside top q → Under top (as_item q)
    lower q i = (omega (arith, i.0, i.1), omega (arith, i.0, i.1))

    go : (s : Bool) → eqb r.0 b.0 && eqb r.1 b.1 ≡ s → All (Under top) (items_of b (r ∷ rs))
    go true e = rw (e, items_of) tt
    go false e = rw (e, items_of) (All-image (Under top) as_item (r ∷ rs) (All-map lower (r ∷ rs) a))

-- the items of the columns that pass a test
pub items-below : (t : ℕ → Bool) (cuts : List ℕ) (row width upper : ℕ) → Cuts cuts row width → cut_of cuts row width ≤ upper
    → All (λ e. (e.0 < upper) × (e.1 < upper)) (items_of (cut_of cuts row 0, cut_of cuts row width) (runs_of (cut_of cuts row) t 0 width))
items-below t cuts row width upper lawful h =
    let e : 0 + width ≡ width = omega arith in
    items-under (cut_of cuts row 0, cut_of cuts row width) upper (runs_of (cut_of cuts row) t 0 width)
    (runs-inside (cut_of cuts row) t width 0 upper (omega (arith, h, ap (cut_of cuts row) e)) (λ y l k. lawful.rising y (omega arith)))
