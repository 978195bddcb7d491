-- One lemma for each return of the functions that write the runs of a state and empty its intervals. Rests on the laws of emptied cells.
use mathlib.Core.Path.{◌≡◌, refl, sym, ap, ap₂, ◌∙◌}
use mathlib.Core.List.{List, [], ◌∷◌, ◌++◌, append-nil}
use mathlib.Core.Bool.{Bool, true, false}
use Prim.Native.Nat.{ℕ, zero, suc, ◌+◌, ◌-◌, ◌≤◌, ◌<◌}
use native.Mathlib.Omega.{arith}
use lib.Dec.{eqb, ltb}
use lib.ListN.{length, get_or, set, length-append}
use lib.Seq.{sets}
use borrow.Author.Tests.{le-ltb, eq-eqb, ne_eqb, ltb-true, ltb-false, eqb-true, eqb-false}
use Rattle.laws.proofs.Stores.{sets-append, sets_behind}
use Rattle.codes.specs.Number.{closed_number}
use Rattle.words.specs.Words.{entry_words}
use Rattle.words.proofs.Sets.{left_in, left-none}
use Rattle.day_sweep.specs.Row.{run_up_to, runs_from, clear_from}
use Rattle.day_sweep.proofs.ClearedCells.{clear_above, clear-more, clear-past}

-- ## Intervals that follow one another
module _ (vs₀ : List ℕ) (S i n : ℕ) where
  -- emptied from i on up to an interval
  pub record Emptying (vs : List ℕ) (next : ℕ) : Type 0 where
    pub from : i ≤ next
    pub up_to : next ≤ n
    pub cells : vs ≡ clear_from vs₀ S i (next - i)
    pub own : (k : ℕ) → i ≤ k → k < next → get_or vs₀ k 0 ≡ S

  pub emptying-start : i ≤ n → Emptying vs₀ i
  unfolding clear_from
  emptying-start h = let z : i - i ≡ 0 = omega arith in record {
    from = omega arith;
    up_to = h;
    cells = sym (ap (clear_from vs₀ S i) z);
    own = λ k l u. absurd (omega arith);
  }

  module _ (vs : List ℕ) (next : ℕ) (g : Emptying vs next) where
    -- the next interval is as it was
    pub emptying-next : get_or vs next 0 ≡ get_or vs₀ next 0
    emptying-next = ap (λ v. get_or v next 0) g.cells ∙ clear_above vs₀ S i (next - i) next (omega (arith, g.from))

    -- up to the end; m is how many intervals there are, as the code counts them
    pub emptying-done : n ≤ next → (m : ℕ) → m ≡ n
        → (i ≤ m) × (m ≤ n) × (vs ≡ clear_from vs₀ S i (m - i)) × ((k : ℕ) → i ≤ k → k < m → get_or vs₀ k 0 ≡ S) × (m < n → get_or vs₀ m 0 ≡ S → ⊥)
    emptying-done h m e =
        let z : next ≡ m = omega (arith, g.up_to) in
        (omega (arith, g.from, g.up_to), omega arith, g.cells ∙ ap (λ k. clear_from vs₀ S i (k - i)) z, λ k l u. g.own k l (omega arith), λ l. absurd (omega arith))

    pub emptying-on : next < n → get_or vs next 0 ≡ S → Emptying (set vs next closed_number) (next + 1)
    unfolding clear_from
    emptying-on h e =
        let z : next - i + 1 ≡ next + 1 - i = omega (arith, g.from) in
        let p : next ≡ i + (next - i) = omega (arith, g.from) in
        let more : clear_from vs S next 1 ≡ clear_from vs₀ S i (next + 1 - i) =
        ap₂ (λ v k. clear_from v S k 1) g.cells p ∙ clear-more vs₀ S i (next - i) 1 ∙ ap (clear_from vs₀ S i) z in
        record {
          from = omega (arith, g.from);
          up_to = omega arith;
          cells = emptied ∙ more;
          own = λ k l u. go k l u (eqb k next) refl;
        }
      where
        emptied : set vs next closed_number ≡ clear_from vs S next 1
        emptied = rw (eq-eqb (get_or vs next 0) S e)

        go : (k : ℕ) → i ≤ k → k < next + 1 → (b : Bool) → eqb k next ≡ b → get_or vs₀ k 0 ≡ S
        go k l u true q = ap (λ v. get_or vs₀ v 0) (eqb-true k next q) ∙ sym emptying-next ∙ e
        go k l u false q = g.own k l (omega (arith, eqb-false k next q))

-- ## Runs along intervals
module _ (cs vs : List ℕ) (S n : ℕ) where
  -- a run goes on through intervals of the state
  runs-through : (d a i : ℕ) → i + d ≤ n → ((k : ℕ) → i ≤ k → k < i + d → get_or vs k 0 ≡ S)
      → runs_from cs vs S a i (n - i) ≡ runs_from cs vs S a (i + d) (n - (i + d))
  unfolding runs_from
  runs-through zero a i h own = let z : i ≡ i + 0 = omega arith in ap (λ k. runs_from cs vs S a k (n - k)) z
  runs-through (suc d) a i h own =
      let z : i + 1 + d ≡ i + suc d = omega arith in
      ap (runs_from cs vs S a i) (left_in i n (omega arith)) ∙ rw (eq-eqb (get_or vs i 0) S (own i (omega arith) (omega arith)), runs_from)
      (runs-through d a (i + 1) (omega arith) (λ k l u. own k (omega arith) (omega arith)) ∙ ap (λ k. runs_from cs vs S a k (n - k)) z)

  no_run : (a : ℕ) → run_up_to a a ≡ []
  unfolding run_up_to
  no_run a = rw (le-ltb a a (omega arith))

  -- none goes on past others
  runs_past : (d i : ℕ) → i + d ≤ n → ((k : ℕ) → i ≤ k → k < i + d → get_or vs k 0 ≡ S → ⊥)
      → runs_from cs vs S (get_or cs i 0) i (n - i) ≡ runs_from cs vs S (get_or cs (i + d) 0) (i + d) (n - (i + d))
  unfolding runs_from
  runs_past zero i h other = let z : i ≡ i + 0 = omega arith in ap (λ k. runs_from cs vs S (get_or cs k 0) k (n - k)) z
  runs_past (suc d) i h other =
      let z : i + 1 + d ≡ i + suc d = omega arith in
      ap (runs_from cs vs S (get_or cs i 0) i) (left_in i n (omega arith)) ∙ rw (ne_eqb (get_or vs i 0) S (other i (omega arith) (omega arith)), runs_from)
      (ap (◌++ runs_from cs vs S (get_or cs (i + 1) 0) (i + 1) (n - (i + 1))) (no_run (get_or cs i 0))
      ∙ runs_past d (i + 1) (omega arith) (λ k l u. other k (omega arith) (omega arith)) ∙ ap (λ k. runs_from cs vs S (get_or cs k 0) k (n - k)) z)

  -- one ends before an interval of another state, or at the end
  runs-break : (a i : ℕ) → (i < n → get_or vs i 0 ≡ S → ⊥)
      → runs_from cs vs S a i (n - i) ≡ run_up_to a (get_or cs i 0) ++ runs_from cs vs S (get_or cs i 0) i (n - i)
  unfolding runs_from
  runs-break a i other = go (ltb i n) refl
    where
      go : (b : Bool) → ltb i n ≡ b → runs_from cs vs S a i (n - i) ≡ run_up_to a (get_or cs i 0) ++ runs_from cs vs S (get_or cs i 0) i (n - i)
      go true e =
          let h = ltb-true i n e in
          rw (left_in i n h, ne_eqb (get_or vs i 0) S (other h), runs_from)
          (ap (run_up_to a (get_or cs i 0) ++◌) (sym (ap (◌++ runs_from cs vs S (get_or cs (i + 1) 0) (i + 1) (n - (i + 1))) (no_run (get_or cs i 0)))))
      go false e =
          rw (left-none i n (ltb-false i n e)) (sym (ap (run_up_to a (get_or cs i 0) ++◌) (no_run (get_or cs i 0)) ∙ append-nil (run_up_to a (get_or cs i 0))))

  runs_none : (i : ℕ) → n ≤ i → runs_from cs vs S (get_or cs i 0) i (n - i) ≡ []
  unfolding runs_from
  runs_none i h = ap (runs_from cs vs S (get_or cs i 0) i) (left-none i n h) ∙ no_run (get_or cs i 0)

-- ## The runs of a state
-- a word more, and an interval fewer
room-on : (place next i m n limit : ℕ) → place + (n - i) ≤ limit → next ≤ place + 1 → i < m → m ≤ n → next + (n - m) ≤ limit
room-on place next i m n limit h k l u = omega arith

module _ (cs vs₀ : List ℕ) (S n : ℕ) (s₀ : List ℕ) (at j : ℕ) where
  abbrev runs_at : ℕ → List ℕ
  runs_at i = runs_from cs vs₀ S (get_or cs i 0) i (n - i)

  -- taken from interval j on up to interval i, which has the state: laid over what is written, the rest gives the whole
  pub record Taking (s : List ℕ) (place : ℕ) (vs : List ℕ) (i : ℕ) : Type 0 where
    pub from : j ≤ i
    pub up_to : i ≤ n
    pub room : place + (n - i) ≤ at + (n - j)
    pub own : i < n → get_or vs i 0 ≡ S
    pub cells : vs ≡ clear_from vs₀ S j (i - j)
    pub laid : sets s place (runs_at i) ≡ sets s₀ at (runs_at j)
    pub placed : place + length (runs_at i) ≡ at + length (runs_at j)

  pub taking-start : j < n → get_or vs₀ j 0 ≡ S → Taking s₀ at vs₀ j
  unfolding clear_from
  taking-start h e = record {
    from = omega arith;
    up_to = omega arith;
    room = omega arith;
    own = λ l. e;
    cells = bare;
    laid = refl;
    placed = refl;
  }
    where
      bare : vs₀ ≡ clear_from vs₀ S j (j - j)
      bare = let z : j - j ≡ 0 = omega arith in sym (ap (clear_from vs₀ S j) z)

  module _ (s : List ℕ) (place : ℕ) (vs : List ℕ) (i : ℕ) (g : Taking s place vs i) where
    pub taking-ends : n ≤ i
        → (s ≡ sets s₀ at (runs_at j)) × (place ≡ at + length (runs_at j)) × (vs ≡ clear_from vs₀ S j (n - j)) × (place ≤ at + n)
    taking-ends h =
        let e = runs_none cs vs₀ S n i h in
        let z : i ≡ n = omega (arith, g.up_to) in (
          sym (ap (sets s place) e) ∙ g.laid,
          omega (arith, ap length e, g.placed),
          g.cells ∙ ap (λ k. clear_from vs₀ S j (k - j)) z,
          omega (arith, g.room),
        )

    -- the run from i up to an interval, and the next interval of the state after that
    module _ (h : i < n) (end : ℕ) (vs₁ : List ℕ)
        (run : (i ≤ end) × (end ≤ n) × (vs₁ ≡ clear_from vs S i (end - i)) × ((k : ℕ) → i ≤ k → k < end → get_or vs k 0 ≡ S) × (end < n → get_or vs end 0 ≡ S → ⊥)) where
      pub run_on : i < end
      run_on = go (ltb i end) refl
        where
          go : (b : Bool) → ltb i end ≡ b → i < end
          go true e = ltb-true i end e
          go false e =
              let z : end ≡ i = omega (arith, run.0, ltb-false i end e) in
              absurd (run.4 (omega arith) (ap (λ k. get_or vs k 0) z ∙ g.own h))

      -- the intervals from i on are as they were
      later : (k : ℕ) → i ≤ k → get_or vs k 0 ≡ get_or vs₀ k 0
      later k l = ap (λ v. get_or v k 0) g.cells ∙ clear_above vs₀ S j (i - j) k (omega (arith, g.from))

      cells₁ : vs₁ ≡ clear_from vs₀ S j (end - j)
      cells₁ =
          let p : i ≡ j + (i - j) = omega (arith, g.from) in
          let z : i - j + (end - i) ≡ end - j = omega (arith, g.from, run.0) in
          run.2 ∙ ap₂ (λ v k. clear_from v S k (end - i)) g.cells p ∙ clear-more vs₀ S j (i - j) (end - i) ∙ ap (clear_from vs₀ S j) z

      later₁ : (k : ℕ) → end ≤ k → get_or vs₁ k 0 ≡ get_or vs₀ k 0
      later₁ k l = ap (λ v. get_or v k 0) cells₁ ∙ clear_above vs₀ S j (end - j) k (omega (arith, g.from, run.0))

      pub taking-on : (s₁ : List ℕ) (next : ℕ) → (s₁ ≡ sets s place (run_up_to (get_or cs i 0) (get_or cs end 0)))
          × (next ≡ place + length (run_up_to (get_or cs i 0) (get_or cs end 0))) × (next ≤ place + 1)
          → (m : ℕ) → (end - 1 < m) × (m ≤ n) × (m < n → get_or vs₁ m 0 ≡ S) × ((k : ℕ) → end - 1 < k → k < m → get_or vs₁ k 0 ≡ S → ⊥)
          → Taking s₁ next vs₁ m
      taking-on s₁ next put m found =
          let up : i < end = run_on in
          let ahead : end ≤ m = omega (arith, found.0) in
          let first : List ℕ = run_up_to (get_or cs i 0) (get_or cs end 0) in
          let q : end ≡ i + (end - i) = omega arith in
          let r : end + (m - end) ≡ m = omega arith in
          let through : runs_at i ≡ runs_from cs vs₀ S (get_or cs i 0) end (n - end) =
          runs-through cs vs₀ S n (end - i) (get_or cs i 0) i (omega (arith, run.1)) (λ k l u. sym (later k l) ∙ run.3 k l (omega arith))
          ∙ ap (λ k. runs_from cs vs₀ S (get_or cs i 0) k (n - k)) (sym q) in
          let broken = runs-break cs vs₀ S n (get_or cs i 0) end (λ l e. run.4 l (later end (omega arith) ∙ e)) in
          let past : runs_at end ≡ runs_at m =
          runs_past cs vs₀ S n (m - end) end (omega (arith, found.1)) (λ k l u e. found.3 k (omega arith) (omega arith) (later₁ k l ∙ e)) ∙ ap runs_at r in
          let w : runs_at i ≡ first ++ runs_at m = through ∙ broken ∙ ap (first ++◌) past in
          let p : end ≡ j + (end - j) = omega (arith, g.from) in
          let z : end - j + (m - end) ≡ m - j = omega (arith, g.from) in
          record {
            from = omega (arith, g.from);
            up_to = found.1;
            room = room-on place next i m n (at + (n - j)) g.room put.2 (omega arith) found.1;
            own = found.2;
            cells = sym (clear-past vs₁ S end (m - end) (λ k l u. found.3 k (omega arith) (omega arith)))
                ∙ ap₂ (λ v k. clear_from v S k (m - end)) cells₁ p ∙ clear-more vs₀ S j (end - j) (m - end) ∙ ap (clear_from vs₀ S j) z;
            laid = ap₂ (λ v k. sets v k (runs_at m)) put.0 put.1 ∙ sym (sets-append s place first (runs_at m)) ∙ ap (sets s place) (sym w) ∙ g.laid;
            placed = omega (arith, put.1, length-append first (runs_at m), ap length w, g.placed);
          }

-- a head laid before words that stand already
pub head-before : (s t u : List ℕ) (at S m : ℕ) (words : List ℕ) → t ≡ sets s (at + 2) words → m ≡ length words → u ≡ sets t at (S ∷ m ∷ [])
    → u ≡ sets s at (entry_words S words)
unfolding entry_words
head-before s t u at S m words e q f =
    f ∙ ap (λ v. sets v at (S ∷ m ∷ [])) e ∙ sets_behind s at (S ∷ m ∷ []) words ∙ ap (λ k. sets s at (S ∷ k ∷ words)) q
