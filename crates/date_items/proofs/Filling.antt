-- A full dimension has no items; any other has its runs as items. Rests on the runs of columns.
use mathlib.Core.Path.{◌≡◌, refl, ap, ◌∙◌}
use mathlib.Core.Bool.{Bool, true, false}
use mathlib.Core.List.{List, [], ◌∷◌, map}
use Prim.Native.Nat.{ℕ, zero, suc, ◌+◌, ◌-◌, ◌<◌}
use native.Mathlib.Omega.{arith}
use lib.Dec.{eqb}
use borrow.Author.Tests.{eq-eqb, ne_eqb}
use Rattle.grid.specs.Cut.{Range, glue}
use Rattle.definition.specs.Group.{items_of}
use Rattle.date_items.specs.Runs.{runs_of, run_end, as_item}
use Rattle.tables.specs.Cuts.{interval_at}
use Rattle.date_items.proofs.Joining.{Rises, runs_none, runs-out, runs-in, runs-run, end-within}

-- ## The first run decides
items-full : (b : Range) → items_of b (b ∷ []) ≡ []
unfolding items_of
items-full b = rw (eq-eqb b.0 b.0 refl, eq-eqb b.1 b.1 refl, items_of)

items-late : (b r : Range) (rs : List Range) → b.0 < r.0 → items_of b (r ∷ rs) ≡ map as_item (r ∷ rs)
unfolding items_of
items-late b r rs h = rw (ne_eqb r.0 b.0 (omega arith), items_of)

items-short : (b r : Range) (rs : List Range) → r.0 ≡ b.0 → r.1 < b.1 → items_of b (r ∷ rs) ≡ map as_item (r ∷ rs)
unfolding items_of
items-short b r rs e h = rw (eq-eqb r.0 b.0 e, ne_eqb r.1 b.1 (omega arith), items_of)

items-glued : (b j : Range) (rs : List Range) → b.0 < j.0 → items_of b (glue j rs) ≡ map as_item (glue j rs)
unfolding glue
items-glued b j [] h = items-late b j [] h
items-glued b j (k ∷ rs) h = go (eqb j.1 k.0) refl
  where
    go : (t : Bool) → eqb j.1 k.0 ≡ t → items_of b (glue j (k ∷ rs)) ≡ map as_item (glue j (k ∷ rs))
    go true e = rw (e, glue) (items-late b (j.0, k.1) rs h)
    go false e = rw (e, glue) (items-late b j (k ∷ rs) h)

module _ (cut : ℕ → ℕ) (t : ℕ → Bool) where
  rises-far : (d x : ℕ) → Rises cut x (suc d) → cut x < cut (suc x + d)
  rises-far zero x up = let e : suc x + 0 ≡ suc x = omega arith in omega (arith, up x (omega arith) (omega arith), ap cut e)
  rises-far (suc d) x up =
      let e : suc x + suc d ≡ suc (suc x + d) = omega arith in
      omega (arith, rises-far d x (λ y l k. up y l (omega arith)), up (suc x + d) (omega arith) (omega arith), ap cut e)

  items-later : (b : Range) (n x : ℕ) → b.0 < cut x → Rises cut x n → items_of b (runs_of cut t x n) ≡ map as_item (runs_of cut t x n)
  unfolding items_of
  items-later b zero x h up = rw (runs_none cut t x) refl
  items-later b (suc n) x h up = go (t x) refl (items-later b n (suc x))
    where
      go : (a : Bool) → t x ≡ a → (b.0 < cut (suc x) → Rises cut (suc x) n → items_of b (runs_of cut t (suc x) n) ≡ map as_item (runs_of cut t (suc x) n))
          → items_of b (runs_of cut t x (suc n)) ≡ map as_item (runs_of cut t x (suc n))
      go true e ih = rw (runs-in cut t x n e) (items-glued b (interval_at cut x) (runs_of cut t (suc x) n) h)
      go false e ih = rw (runs-out cut t x n e) (ih (omega (arith, up x (omega arith) (omega arith))) (λ y l k. up y (omega arith) (omega arith)))

  -- all columns pass
  pub full-none : (w : ℕ) → Rises cut 0 w → run_end t 0 w ≡ w → items_of (cut 0, cut w) (runs_of cut t 0 w) ≡ []
  unfolding run_end items_of
  full-none zero up h = ap (items_of (cut 0, cut 0)) (runs_none cut t 0)
  full-none (suc w) up h = go (t 0) refl
    where
      go : (a : Bool) → t 0 ≡ a → items_of (cut 0, cut (suc w)) (runs_of cut t 0 (suc w)) ≡ []
      go true e =
          let q : run_end t 1 w ≡ suc w = rw (e, run_end) at h in
          let z : suc w - suc w ≡ 0 = omega arith in
          ap (items_of (cut 0, cut (suc w))) (runs-run cut t w 0 (suc w) (omega arith) up e ∙ ap (λ x. (cut 0, cut x) ∷ runs_of cut t x (suc w - x)) q
          ∙ ap (λ n. (cut 0, cut (suc w)) ∷ runs_of cut t (suc w) n) z ∙ ap ((cut 0, cut (suc w)) ∷◌) (runs_none cut t (suc w)))
          ∙ items-full (cut 0, cut (suc w))
      go false e = let q : 0 ≡ suc w = rw (e, run_end) at h in absurd (omega arith)

  -- some column fails
  pub not_full : (w : ℕ) → Rises cut 0 w → (run_end t 0 w ≡ w → ⊥) → items_of (cut 0, cut w) (runs_of cut t 0 w) ≡ map as_item (runs_of cut t 0 w)
  unfolding run_end
  not_full zero up h = absurd (h refl)
  not_full (suc w) up h = go (t 0) refl
    where
      go : (a : Bool) → t 0 ≡ a → items_of (cut 0, cut (suc w)) (runs_of cut t 0 (suc w)) ≡ map as_item (runs_of cut t 0 (suc w))
      go true e =
          let q : run_end t 1 w ≡ suc w → ⊥ = rw (e, run_end) at h in
          let k = end-within cut t w 1 in
          let x = run_end t 1 w in
          let l : suc x + (w - x) ≡ suc w = omega (arith, k.1, q) in
          let far : cut x < cut (suc w) = rw l at (rises-far (w - x) x (λ y a b. up y (omega arith) (omega (arith, k.1, q)))) in
          rw (runs-run cut t w 0 (suc w) (omega arith) up e) (items-short (cut 0, cut (suc w)) (cut 0, cut x) (runs_of cut t x (suc w - x)) refl far)
      go false e =
          rw (runs-out cut t 0 w e)
          (items-later (cut 0, cut (suc w)) w 1 (up 0 (omega arith) (omega arith)) (λ y l k. up y (omega arith) (omega arith)))
