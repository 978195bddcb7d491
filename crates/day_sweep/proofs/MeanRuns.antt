-- What the runs of a state mean: its intervals, with those that touch joined.
use mathlib.Core.Path.{◌≡◌, refl, sym, ap, ◌∙◌}
use mathlib.Core.List.{List, [], ◌∷◌, ◌++◌, map}
use mathlib.Core.Bool.{Bool, true, false, cond}
use Prim.Native.Nat.{ℕ, zero, suc, ◌+◌, ◌≤◌, ◌<◌}
use native.Mathlib.Omega.{arith}
use lib.Dec.{eqb, ltb}
use lib.ListN.{get_or}
use borrow.Author.Tests.{lt-ltb, le-ltb, eq-eqb, ne_eqb, ltb-false}
use Rattle.grid.specs.Cut.{Range, glue, joined}
use Rattle.codes.specs.Number.{parts_number}
use Rattle.day_sweep.specs.Row.{run_up_to, runs_from}

-- a range as a span's word
abbrev pub range_word : Range → ℕ
range_word r = parts_number r.0 r.1 0 0

-- the intervals of a state, from interval j on
unfoldable pub picked : List ℕ → List ℕ → ℕ → ℕ → ℕ → List Range
picked cs vs S j zero = []
picked cs vs S j (suc r) = elim (eqb (get_or vs j 0) S) [ true ↦ (get_or cs j 0, get_or cs (j + 1) 0) ∷ picked cs vs S (j + 1) r | false ↦ picked cs vs S (j + 1) r ]

-- runs, where one goes on from a up to c before them
abbrev joined_from : ℕ → ℕ → List Range → List Range
joined_from a c J = cond (ltb a c) (glue (a, c) J) J

glue-glue : (a c d : ℕ) (J : List Range) → glue (a, c) (glue (c, d) J) ≡ glue (a, d) J
unfolding glue
glue-glue a c d [] = rw (eq-eqb c c refl, glue)
glue-glue a c d (j ∷ J) = go (eqb d j.0) refl
  where
    go : (b : Bool) → eqb d j.0 ≡ b → glue (a, c) (glue (c, d) (j ∷ J)) ≡ glue (a, d) (j ∷ J)
    go true q = rw (q, glue, eq-eqb c c refl)
    go false q = rw (q, glue, eq-eqb c c refl)

-- the first range begins at lo at least
abbrev Starts : ℕ → List Range → Type 0
Starts lo [] = Unit {0}
Starts lo (j ∷ J) = lo ≤ j.0

starts_from : (lo hi : ℕ) (J : List Range) → lo ≤ hi → Starts hi J → Starts lo J
starts_from lo hi [] h s = tt
starts_from lo hi (j ∷ J) h s = omega arith

glue-starts : (c d : ℕ) (J : List Range) → Starts c (glue (c, d) J)
unfolding glue
glue-starts c d [] = omega arith
glue-starts c d (j ∷ J) = go (eqb d j.0) refl
  where
    go : (b : Bool) → eqb d j.0 ≡ b → Starts c (glue (c, d) (j ∷ J))
    go true q = rw (q, glue) (omega arith)
    go false q = rw (q, glue) (omega arith)

-- ## One interval more
join-on : (a c d : ℕ) (J : List Range) → a ≤ c → c < d → joined_from a d J ≡ joined_from a c (glue (c, d) J)
join-on a c d J h k = rw (lt-ltb a d (omega arith)) (go (ltb a c) refl)
  where
    go : (b : Bool) → ltb a c ≡ b → glue (a, d) J ≡ cond b (glue (a, c) (glue (c, d) J)) (glue (c, d) J)
    go true e = sym (glue-glue a c d J)
    go false e = let z : a ≡ c = omega (arith, ltb-false a c e) in ap (λ v. glue (v, d) J) z

join-break : (a c d : ℕ) (J : List Range) → c < d → Starts d J → run_up_to a c ++ map range_word J ≡ map range_word (joined_from a c J)
unfolding run_up_to
join-break a c d J k s = go (ltb a c) refl
  where
    apart : (J : List Range) → Starts d J → glue (a, c) J ≡ (a, c) ∷ J
    apart [] s = unfold glue in refl
    apart (j ∷ J) s = unfold glue in rw (ne_eqb c j.0 (omega arith), glue)

    go : (b : Bool) → ltb a c ≡ b → run_up_to a c ++ map range_word J ≡ map range_word (cond b (glue (a, c) J) J)
    go true e = rw e (sym (ap (map range_word) (apart J s)))
    go false e = rw e

module _ (cs vs : List ℕ) (n : ℕ) (climbs : (k : ℕ) → k < n → get_or cs k 0 < get_or cs (k + 1) 0) (S : ℕ) where
  picked-starts : (j r : ℕ) → j + r ≤ n → Starts (get_or cs j 0) (joined (picked cs vs S j r))
  unfolding picked joined
  picked-starts j zero h = tt
  picked-starts j (suc r) h = go (eqb (get_or vs j 0) S) refl (picked-starts (j + 1) r (omega arith))
    where
      go : (b : Bool) → eqb (get_or vs j 0) S ≡ b → Starts (get_or cs (j + 1) 0) (joined (picked cs vs S (j + 1) r))
          → Starts (get_or cs j 0) (joined (picked cs vs S j (suc r)))
      go true e ih = rw (e, picked) (glue-starts (get_or cs j 0) (get_or cs (j + 1) 0) (joined (picked cs vs S (j + 1) r)))
      go false e ih = rw (e, picked)
          (starts_from (get_or cs j 0) (get_or cs (j + 1) 0) (joined (picked cs vs S (j + 1) r)) (omega (arith, climbs j (omega arith))) ih)

  -- THE RUNS OF A STATE
  runs-mean : (a j r : ℕ) → j + r ≤ n → a ≤ get_or cs j 0 → runs_from cs vs S a j r ≡ map range_word (joined_from a (get_or cs j 0) (joined (picked cs vs S j r)))
  unfolding picked joined runs_from
  runs-mean a j zero h l = go (ltb a (get_or cs j 0)) refl
    where
      go : (b : Bool) → ltb a (get_or cs j 0) ≡ b → run_up_to a (get_or cs j 0) ≡ map range_word (joined_from a (get_or cs j 0) [])
      go true e = unfold run_up_to glue in rw e
      go false e = unfold run_up_to glue in rw e
  runs-mean a j (suc r) h l = go (eqb (get_or vs j 0) S) refl (λ b q. runs-mean b (j + 1) r (omega arith) q)
    where
      up : get_or cs j 0 < get_or cs (j + 1) 0
      up = climbs j (omega arith)

      go : (b : Bool) → eqb (get_or vs j 0) S ≡ b
          → ((b : ℕ) → b ≤ get_or cs (j + 1) 0
          → runs_from cs vs S b (j + 1) r ≡ map range_word (joined_from b (get_or cs (j + 1) 0) (joined (picked cs vs S (j + 1) r))))
          → runs_from cs vs S a j (suc r) ≡ map range_word (joined_from a (get_or cs j 0) (joined (picked cs vs S j (suc r))))
      go true e ih = rw (e, runs_from, picked)
          (ih a (omega (arith, up)) ∙ ap (map range_word) (join-on a (get_or cs j 0) (get_or cs (j + 1) 0) (joined (picked cs vs S (j + 1) r)) l up))
      go false e ih = rw (e, runs_from, picked)
          (ap (run_up_to a (get_or cs j 0) ++◌) (ih (get_or cs (j + 1) 0) (omega arith) ∙ ap (map range_word) own)
          ∙ join-break a (get_or cs j 0) (get_or cs (j + 1) 0) (joined (picked cs vs S (j + 1) r)) up (picked-starts (j + 1) r (omega arith)))
        where
          own : joined_from (get_or cs (j + 1) 0) (get_or cs (j + 1) 0) (joined (picked cs vs S (j + 1) r)) ≡ joined (picked cs vs S (j + 1) r)
          own = rw (le-ltb (get_or cs (j + 1) 0) (get_or cs (j + 1) 0) (omega arith))

  -- from a state's own first interval on
  pub own_runs : (j r : ℕ) → j + suc r ≤ n → get_or vs j 0 ≡ S
      → runs_from cs vs S (get_or cs j 0) j (suc r) ≡ map range_word (joined ((get_or cs j 0, get_or cs (j + 1) 0) ∷ picked cs vs S (j + 1) r))
  unfolding picked
  own_runs j r h e =
      let z : joined_from (get_or cs j 0) (get_or cs j 0) (joined (picked cs vs S j (suc r)))
      ≡ joined ((get_or cs j 0, get_or cs (j + 1) 0) ∷ picked cs vs S (j + 1) r) =
      rw (le-ltb (get_or cs j 0) (get_or cs j 0) (omega arith), eq-eqb (get_or vs j 0) S e, picked) in
      runs-mean (get_or cs j 0) j (suc r) h (omega arith) ∙ ap (map range_word) z
