-- The runs of marked columns, column by column: an unmarked column is passed over, a marked one begins a run that goes on to its end. And how
-- many runs there are at most.
use mathlib.Core.Path.{◌≡◌, refl, sym, ap, ◌∙◌}
use mathlib.Core.Bool.{Bool, true, false}
use mathlib.Core.List.{List, [], ◌∷◌}
use Prim.Native.Nat.{ℕ, zero, suc, ◌+◌, ◌-◌, ◌*◌, ◌≤◌, ◌<◌}
use native.Mathlib.Omega.{arith}
use lib.Dec.{eqb}
use lib.ListN.{length}
use borrow.Author.Tests.{eq-eqb, ne_eqb}
use Rattle.laws.specs.Lists.{from, keep}
use Rattle.grid.specs.Cut.{Range, glue, joined}
use Rattle.date_items.specs.Runs.{runs_of, run_end}
use Rattle.tables.specs.Cuts.{interval_at}
use Rattle.grid.proofs.Count.{glue-more}

-- ## Touching and apart
glue-touch : (a b c : ℕ) (rs : List Range) → glue (a, b) ((b, c) ∷ rs) ≡ (a, c) ∷ rs
unfolding glue
glue-touch a b c rs = rw (eq-eqb b b refl, glue)

glue-apart : (i j : Range) (rs : List Range) → i.1 < j.0 → glue i (glue j rs) ≡ i ∷ glue j rs
unfolding glue
glue-apart i j [] h = rw (ne_eqb i.1 j.0 (omega arith), glue)
glue-apart i j (k ∷ rs) h = go (eqb j.1 k.0) refl
  where
    go : (b : Bool) → eqb j.1 k.0 ≡ b → glue i (glue j (k ∷ rs)) ≡ i ∷ glue j (k ∷ rs)
    go true e = rw (e, glue, ne_eqb i.1 j.0 (omega arith))
    go false e = rw (e, glue, ne_eqb i.1 j.0 (omega arith))

glue-none : (i : Range) (rs : List Range) → rs ≡ [] → glue i rs ≡ i ∷ rs
unfolding glue
glue-none i rs e = rw e refl

-- a range that touches the next makes no run more
glue-same : (a b c : ℕ) (rs : List Range) → length (glue (a, b) (glue (b, c) rs)) ≡ length (glue (b, c) rs)
unfolding glue
glue-same a b c [] = rw (eq-eqb b b refl, glue)
glue-same a b c (k ∷ rs) = go (eqb c k.0) refl
  where
    go : (t : Bool) → eqb c k.0 ≡ t → length (glue (a, b) (glue (b, c) (k ∷ rs))) ≡ length (glue (b, c) (k ∷ rs))
    go true e = rw (e, glue, eq-eqb b b refl)
    go false e = rw (e, glue, eq-eqb b b refl)

-- cuts that rise over n columns from x on
abbrev pub Rises : (ℕ → ℕ) → ℕ → ℕ → Type 0
Rises cut x n = (y : ℕ) → x ≤ y → y < x + n → cut y < cut (suc y)

rises-on : (cut : ℕ → ℕ) (x n : ℕ) → Rises cut x (suc n) → Rises cut (suc x) n
rises-on cut x n up y l k = up y (omega arith) (omega arith)

module _ (cut : ℕ → ℕ) (t : ℕ → Bool) where
  -- ## Column by column
  pub runs_none : (x : ℕ) → runs_of cut t x 0 ≡ []
  unfolding runs_of keep from joined
  runs_none x = refl

  pub runs-out : (x n : ℕ) → t x ≡ false → runs_of cut t x (suc n) ≡ runs_of cut t (suc x) n
  unfolding runs_of keep from
  runs-out x n h = rw (h, keep)

  pub runs-in : (x n : ℕ) → t x ≡ true → runs_of cut t x (suc n) ≡ glue (interval_at cut x) (runs_of cut t (suc x) n)
  unfolding runs_of keep from joined
  runs-in x n h = rw (h, keep, joined)

  runs-apart : (n x : ℕ) (i : Range) → Rises cut x n → i.1 < cut x → glue i (runs_of cut t x n) ≡ i ∷ runs_of cut t x n
  runs-apart zero x i up h = glue-none i (runs_of cut t x 0) (runs_none x)
  runs-apart (suc n) x i up h = go (t x) refl (runs-apart n (suc x) i (rises-on cut x n up))
    where
      go : (b : Bool) → t x ≡ b → (i.1 < cut (suc x) → glue i (runs_of cut t (suc x) n) ≡ i ∷ runs_of cut t (suc x) n)
          → glue i (runs_of cut t x (suc n)) ≡ i ∷ runs_of cut t x (suc n)
      go true e ih = ap (glue i) (runs-in x n e) ∙ glue-apart i (interval_at cut x) (runs_of cut t (suc x) n) h ∙ ap (i ∷◌) (sym (runs-in x n e))
      go false e ih = ap (glue i) (runs-out x n e) ∙ ih (omega (arith, up x (omega arith) (omega arith))) ∙ ap (i ∷◌) (sym (runs-out x n e))

  -- A RUN GOES ON TO ITS END
  pub runs-run : (n x w : ℕ) → x + suc n ≡ w → Rises cut x (suc n) → t x ≡ true
      → runs_of cut t x (suc n) ≡ (cut x, cut (run_end t (suc x) n)) ∷ runs_of cut t (run_end t (suc x) n) (w - run_end t (suc x) n)
  unfolding run_end
  runs-run zero x w q up h =
      let z : 0 ≡ w - suc x = omega arith in
      runs-in x 0 h ∙ glue-none (interval_at cut x) (runs_of cut t (suc x) 0) (runs_none (suc x)) ∙ ap (λ n. interval_at cut x ∷ runs_of cut t (suc x) n) z
  runs-run (suc n) x w q up h = go (t (suc x)) refl (runs-run n (suc x) w (omega arith) (rises-on cut x (suc n) up))
    where
      Goal : ℕ → Type 0
      Goal e = runs_of cut t x (suc (suc n)) ≡ (cut x, cut e) ∷ runs_of cut t e (w - e)

      go : (b : Bool) → t (suc x) ≡ b
          → (t (suc x) ≡ true → runs_of cut t (suc x) (suc n)
          ≡ (cut (suc x), cut (run_end t (suc (suc x)) n)) ∷ runs_of cut t (run_end t (suc (suc x)) n) (w - run_end t (suc (suc x)) n))
          → Goal (run_end t (suc x) (suc n))
      go true e ih =
          rw (e, run_end) (runs-in x (suc n) h ∙ ap (glue (interval_at cut x)) (ih e)
          ∙ glue-touch (cut x) (cut (suc x)) (cut (run_end t (suc (suc x)) n)) (runs_of cut t (run_end t (suc (suc x)) n) (w - run_end t (suc (suc x)) n)))
      go false e ih =
          let z : suc n ≡ w - suc x = omega arith in
          let l : cut (suc x) < cut (suc (suc x)) = up (suc x) (omega arith) (omega arith) in
          rw (e, run_end) (runs-in x (suc n) h ∙ ap (glue (interval_at cut x)) (runs-out (suc x) n e)
          ∙ runs-apart n (suc (suc x)) (interval_at cut x) (rises-on cut (suc x) n (rises-on cut x (suc n) up)) l
          ∙ ap (interval_at cut x ∷◌) (sym (runs-out (suc x) n e)) ∙ ap (λ m. interval_at cut x ∷ runs_of cut t (suc x) m) z)

  pub end-within : (n x : ℕ) → (x ≤ run_end t x n) × (run_end t x n ≤ x + n)
  unfolding run_end
  end-within zero x = (omega arith, omega arith)
  end-within (suc n) x = go (t x) refl (end-within n (suc x))
    where
      go : (b : Bool) → t x ≡ b → (suc x ≤ run_end t (suc x) n) × (run_end t (suc x) n ≤ suc x + n) → (x ≤ run_end t x (suc n)) × (run_end t x (suc n) ≤ x + suc n)
      go true e ih = rw (e, run_end) (omega (arith, ih.0), omega (arith, ih.1))
      go false e ih = rw (e, run_end) (omega arith, omega arith)

  -- every other column at most begins a run
  pub runs-few : (n x : ℕ) → 2 * length (runs_of cut t x n) ≤ n + 1
  runs-few zero x = omega (arith, ap length (runs_none x))
  runs-few (suc zero) x = go (t x) refl
    where
      go : (b : Bool) → t x ≡ b → 2 * length (runs_of cut t x 1) ≤ 2
      go true e = omega (arith, ap length (runs-in x 0 e), glue-more (interval_at cut x) (runs_of cut t (suc x) 0), ap length (runs_none (suc x)))
      go false e = omega (arith, ap length (runs-out x 0 e), ap length (runs_none (suc x)))
  runs-few (suc (suc n)) x = go (t x) refl (t (suc x)) refl (runs-few (suc n) (suc x)) (runs-few n (suc (suc x)))
    where
      go : (a : Bool) → t x ≡ a → (b : Bool) → t (suc x) ≡ b → 2 * length (runs_of cut t (suc x) (suc n)) ≤ suc n + 1
          → 2 * length (runs_of cut t (suc (suc x)) n) ≤ n + 1 → 2 * length (runs_of cut t x (suc (suc n))) ≤ suc (suc n) + 1
      go false e b f next later = omega (arith, ap length (runs-out x (suc n) e), next)
      go true e true f next later =
          omega (
            arith,
            ap length (runs-in x (suc n) e ∙ ap (glue (interval_at cut x)) (runs-in (suc x) n f)),
            glue-same (cut x) (cut (suc x)) (cut (suc (suc x))) (runs_of cut t (suc (suc x)) n),
            ap length (runs-in (suc x) n f),
            next,
          )
      go true e false f next later =
          omega (
            arith,
            ap length (runs-in x (suc n) e ∙ ap (glue (interval_at cut x)) (runs-out (suc x) n f)),
            glue-more (interval_at cut x) (runs_of cut t (suc (suc x)) n),
            later,
          )
