-- What `run_end`, `put_runs` and `put_items` rest on: where a run ends; runs written one after the
-- other; a full dimension and any other. Rests on the runs of columns.
use mathlib.Core.Path.{◌≡◌, refl, sym, ap, ◌∙◌}
use mathlib.Core.Bool.{Bool, true, false}
use mathlib.Core.List.{List, [], ◌∷◌, map}
use Prim.Native.Nat.{ℕ, suc, ◌+◌, ◌-◌, ◌*◌, ◌≤◌, ◌<◌}
use native.Mathlib.Omega.{arith}
use lib.ListN.{length, get_or, set, length-map}
use lib.Seq.{sets}
use borrow.Author.Tests.{eq-eqb, ne_eqb, eqb-true}
use Rattle.grid.specs.Cut.{Range, joined}
use Rattle.definition.specs.Group.{items_of}
use Rattle.paving.specs.Grid.{marks_from}
use Rattle.date_items.specs.Runs.{runs_of, run_end, mark_at, cut_of, Cuts, runs_from, as_item, items_at}
use Rattle.tables.specs.Cuts.{interval_at}
use Rattle.tables.specs.Items.{numbers}
use Rattle.date_items.proofs.Joining.{runs_none, runs-run, end-within, runs-few}
use Rattle.date_items.proofs.Filling.{full-none, not_full}
use Rattle.definition.proofs.RuleCounts.{items-less}

-- a column more to go
left-more : (width x : ℕ) → x < width → width - x ≡ suc (width - (x + 1))
left-more width x h = omega arith

-- ## Where a run ends
module _ (marks : List ℕ) (base width x : ℕ) where
  pub end-last : width ≤ x → x ≡ run_end (mark_at marks base) x (width - x)
  unfolding run_end
  end-last h = let z : width - x ≡ 0 = omega arith in rw z refl

  pub end-here : x < width → (get_or marks (base + x) 0 ≡ 1 → ⊥) → x ≡ run_end (mark_at marks base) x (width - x)
  unfolding run_end
  end-here l h = rw (left-more width x l, ne_eqb (get_or marks (base + x) 0) 1 h, run_end)

  pub end-next : x < width → get_or marks (base + x) 0 ≡ 1 → run_end (mark_at marks base) x (width - x) ≡ run_end (mark_at marks base) (x + 1) (width - (x + 1))
  unfolding run_end
  end-next l h =
      let s : suc x ≡ x + 1 = omega arith in
      rw (left-more width x l, eq-eqb (get_or marks (base + x) 0) 1 h, run_end) (ap (λ y. run_end (mark_at marks base) y (width - (x + 1))) s)

  -- a run that ends behind its column has it marked
  pub end_marked : x < width → (e : ℕ) → e ≡ run_end (mark_at marks base) x (width - x) → (e ≡ x → ⊥) → get_or marks (base + x) 0 ≡ 1
  unfolding run_end
  end_marked l e k h = go (mark_at marks base x) refl
    where
      go : (b : Bool) → mark_at marks base x ≡ b → get_or marks (base + x) 0 ≡ 1
      go true m = eqb-true (get_or marks (base + x) 0) 1 m
      go false m = absurd (h (k ∙ rw (left-more width x l, m, run_end) refl))

  -- it is not before its column, nor behind the last
  pub end-bounds : x ≤ width → (e : ℕ) → e ≡ run_end (mark_at marks base) x (width - x) → (x ≤ e) × (e ≤ width)
  end-bounds l e k = let within = end-within (λ y. y) (mark_at marks base) (width - x) x in (omega (arith, within.0, k), omega (arith, within.1, k))

-- ## The runs from a column on
module _ (marks : List ℕ) (base width : ℕ) (cuts : List ℕ) (row : ℕ) where
  as-runs : (x : ℕ) → runs_from marks base width cuts row x ≡ runs_of (cut_of cuts row) (mark_at marks base) x (width - x)
  unfolding runs_of marks_from
  as-runs x = refl

  runs-stop : (x : ℕ) → width ≤ x → runs_from marks base width cuts row x ≡ []
  runs-stop x h =
      let z : width - x ≡ 0 = omega arith in
      as-runs x ∙ ap (runs_of (cut_of cuts row) (mark_at marks base) x) z ∙ runs_none (cut_of cuts row) (mark_at marks base) x

  pub runs-take : Cuts cuts row width → (x : ℕ) → x < width → get_or marks (base + x) 0 ≡ 1 → (e : ℕ) → e ≡ run_end (mark_at marks base) (x + 1) (width - (x + 1))
      → runs_from marks base width cuts row x ≡ (cut_of cuts row x, cut_of cuts row e) ∷ runs_from marks base width cuts row e
  runs-take lawful x l h e k =
      let s : x + 1 ≡ suc x = omega arith in
      let n : ℕ = width - (x + 1) in
      let q : run_end (mark_at marks base) (suc x) n ≡ e = ap (λ y. run_end (mark_at marks base) y n) (sym s) ∙ sym k in
      as-runs x ∙ ap (runs_of (cut_of cuts row) (mark_at marks base) x) (left-more width x l)
      ∙ runs-run (cut_of cuts row) (mark_at marks base) n x width (omega arith) (λ y a b. lawful.rising y (omega arith)) (eq-eqb (get_or marks (base + x) 0) 1 h)
      ∙ ap (λ y. (cut_of cuts row x, cut_of cuts row y) ∷ runs_of (cut_of cuts row) (mark_at marks base) y (width - y)) q
      ∙ ap ((cut_of cuts row x, cut_of cuts row e) ∷◌) (sym (as-runs e))

  -- a run's end can be lowered by one
  pub end-positive : Cuts cuts row width → (e : ℕ) → 1 ≤ e → e ≤ width → 1 ≤ cut_of cuts row e
  end-positive lawful e l h = let s : suc (e - 1) ≡ e = omega arith in omega (arith, lawful.rising (e - 1) (omega arith), ap (cut_of cuts row) s)

  -- what is answered and what the ends then hold
  abbrev pub Put : ℕ → ℕ → List Range → List ℕ → List ℕ → Type 0
  Put r at rs old new = (r ≡ length rs) × (new ≡ sets old at (numbers (map as_item rs)))

  -- ## Runs one after the other
  -- a run's item is two numbers
  run-numbers : (at : ℕ) (ends : List ℕ) (r : Range) (rs : List Range)
      → sets (set (set ends at r.0) (at + 1) (r.1 - 1)) (at + 2) (numbers (map as_item rs)) ≡ sets ends at (numbers (map as_item (r ∷ rs)))
  unfolding numbers
  run-numbers at ends r rs =
      let one : at + 1 ≡ suc at = omega arith in
      let two : at + 2 ≡ suc (suc at) = omega arith in
      let rest = numbers (map as_item rs) in
      ap (λ j. sets (set (set ends at r.0) j (r.1 - 1)) (at + 2) rest) one ∙ ap (λ j. sets (set (set ends at r.0) (suc at) (r.1 - 1)) j rest) two

  -- the first run written, and then those behind it
  pub put_first : (x e r at : ℕ) (ends mid new : List ℕ)
      → runs_from marks base width cuts row x ≡ (cut_of cuts row x, cut_of cuts row e) ∷ runs_from marks base width cuts row e
      → mid ≡ set (set ends at (cut_of cuts row x)) (at + 1) (cut_of cuts row e - 1) → Put r (at + 2) (runs_from marks base width cuts row e) mid new
      → Put (r + 1) at (runs_from marks base width cuts row x) ends new
  put_first x e r at ends mid new q k p = (
    omega (arith, p.0, ap length q),
    p.1 ∙ ap (λ s. sets s (at + 2) (numbers (map as_item (runs_from marks base width cuts row e)))) k
        ∙ run-numbers at ends (cut_of cuts row x, cut_of cuts row e) (runs_from marks base width cuts row e)
        ∙ ap (λ rs. sets ends at (numbers (map as_item rs))) (sym q),
  )

  -- of the runs from x on `count` are written, those from y on are left
  abbrev pub Left : (x at : ℕ) (ends₀ : List ℕ) (count y : ℕ) (ends : List ℕ) → Type 0
  Left x at ends₀ count y ends =
      (length (runs_from marks base width cuts row x) ≡ count + length (runs_from marks base width cuts row y))
      × (sets ends₀ at (numbers (map as_item (runs_from marks base width cuts row x)))
      ≡ sets ends (at + 2 * count) (numbers (map as_item (runs_from marks base width cuts row y))))

  same_runs : (x y : ℕ) → marks_from marks base width x ≡ marks_from marks base width y → runs_from marks base width cuts row x ≡ runs_from marks base width cuts row y
  same_runs x y e = ap (λ E. joined (map (interval_at (cut_of cuts row)) E)) e

  pub left-all : (x y at : ℕ) (ends : List ℕ) → marks_from marks base width x ≡ marks_from marks base width y → Left x at ends 0 y ends
  left-all x y at ends e =
      let z : at ≡ at + 2 * 0 = omega arith in
      (omega (arith, ap length (same_runs x y e)), ap (λ rs. sets ends at (numbers (map as_item rs))) (same_runs x y e) ∙ ap (λ n. sets ends n (numbers (map as_item (runs_from marks base width cuts row y)))) z)

  pub left-next : (x y e z at count : ℕ) (ends₀ ends new : List ℕ)
      → runs_from marks base width cuts row y ≡ (cut_of cuts row y, cut_of cuts row e) ∷ runs_from marks base width cuts row e
      → new ≡ set (set ends (at + 2 * count) (cut_of cuts row y)) (at + 2 * count + 1) (cut_of cuts row e - 1)
      → marks_from marks base width e ≡ marks_from marks base width z → Left x at ends₀ count y ends → Left x at ends₀ (count + 1) z new
  left-next x y e z at count ends₀ ends new q k m old =
      let n : ℕ = at + 2 * count in
      let two : n + 2 ≡ at + 2 * (count + 1) = omega arith in
      let behind = numbers (map as_item (runs_from marks base width cuts row e)) in (
        omega (arith, old.0, ap length q, ap length (same_runs e z m)),
        old.1 ∙ ap (λ rs. sets ends n (numbers (map as_item rs))) q
            ∙ sym (run-numbers n ends (cut_of cuts row y, cut_of cuts row e) (runs_from marks base width cuts row e)) ∙ ap (λ s. sets s (n + 2) behind) (sym k)
            ∙ ap (λ j. sets new j behind) two ∙ ap (λ rs. sets new (at + 2 * (count + 1)) (numbers (map as_item rs))) (same_runs e z m),
      )

  pub left-none : (x y at count : ℕ) (ends₀ ends : List ℕ) → width ≤ y → Left x at ends₀ count y ends → Put count at (runs_from marks base width cuts row x) ends₀ ends
  unfolding numbers
  left-none x y at count ends₀ ends h old =
      let none = runs-stop y h in
      (omega (arith, old.0, ap length none), sym (old.1 ∙ ap (λ rs. sets ends (at + 2 * count) (numbers (map as_item rs))) none))

  -- ## A dimension
  pub items-half : 2 * length (items_at marks base width cuts row) ≤ width + 1
  items-half =
      omega (
        arith,
        items-less (cut_of cuts row 0, cut_of cuts row width) (runs_from marks base width cuts row 0),
        ap length (as-runs 0),
        runs-few (cut_of cuts row) (mark_at marks base) (width - 0) 0,
      )

  whole : items_at marks base width cuts row ≡ items_of (cut_of cuts row 0, cut_of cuts row width) (runs_of (cut_of cuts row) (mark_at marks base) 0 width)
  whole =
      let z : width - 0 ≡ width = omega arith in
      ap (items_of (cut_of cuts row 0, cut_of cuts row width)) (as-runs 0 ∙ ap (runs_of (cut_of cuts row) (mark_at marks base) 0) z)

  pub items-none : Cuts cuts row width → (e at : ℕ) (ends : List ℕ) → e ≡ run_end (mark_at marks base) 0 (width - 0) → e ≡ width
      → (0 ≡ length (items_at marks base width cuts row)) × (ends ≡ sets ends at (numbers (items_at marks base width cuts row)))
  unfolding numbers
  items-none lawful e at ends k h =
      let z : width - 0 ≡ width = omega arith in
      let q : run_end (mark_at marks base) 0 width ≡ width = ap (run_end (mark_at marks base) 0) (sym z) ∙ sym k ∙ h in
      let none = whole ∙ full-none (cut_of cuts row) (mark_at marks base) width (λ y a b. lawful.rising y (omega arith)) q in
      (sym (ap length none), sym (ap (λ es. sets ends at (numbers es)) none))

  items-runs : Cuts cuts row width → (e : ℕ) → e ≡ run_end (mark_at marks base) 0 (width - 0) → (e ≡ width → ⊥)
      → items_at marks base width cuts row ≡ map as_item (runs_from marks base width cuts row 0)
  items-runs lawful e k h =
      let z : width - 0 ≡ width = omega arith in
      whole ∙ not_full (cut_of cuts row) (mark_at marks base) width (λ y a b. lawful.rising y (omega arith))
      (λ q. h (k ∙ ap (run_end (mark_at marks base) 0) z ∙ q))
      ∙ ap (map as_item) (sym (as-runs 0 ∙ ap (runs_of (cut_of cuts row) (mark_at marks base) 0) z))

  pub runs-room : Cuts cuts row width → (e : ℕ) → e ≡ run_end (mark_at marks base) 0 (width - 0) → (e ≡ width → ⊥)
      → length (items_at marks base width cuts row) ≡ length (runs_from marks base width cuts row 0)
  runs-room lawful e k h = ap length (items-runs lawful e k h) ∙ length-map (runs_from marks base width cuts row 0) as_item

  -- a dimension that begins with a run
  pub first_run : Cuts cuts row width → (e : ℕ) → e ≡ run_end (mark_at marks base) 0 (width - 0) → (e ≡ 0 → ⊥)
      → runs_from marks base width cuts row 0 ≡ (cut_of cuts row 0, cut_of cuts row e) ∷ runs_from marks base width cuts row e
  first_run lawful e k h =
      let l : 0 < width = omega (arith, (end-bounds marks base width 0 (omega arith) e k).1, h) in
      let m = end_marked marks base width 0 l e k h in runs-take lawful 0 l m e (k ∙ end-next marks base width 0 l m)

  pub first-room : Cuts cuts row width → (e : ℕ) → e ≡ run_end (mark_at marks base) 0 (width - 0) → (e ≡ width → ⊥) → (e ≡ 0 → ⊥)
      → length (items_at marks base width cuts row) ≡ length (runs_from marks base width cuts row e) + 1
  first-room lawful e k f h = omega (arith, runs-room lawful e k f, ap length (first_run lawful e k h))

  pub items-some : Cuts cuts row width → (e r at : ℕ) (ends new : List ℕ) → e ≡ run_end (mark_at marks base) 0 (width - 0) → (e ≡ width → ⊥)
      → Put r at (runs_from marks base width cuts row 0) ends new
      → (r ≡ length (items_at marks base width cuts row)) × (new ≡ sets ends at (numbers (items_at marks base width cuts row)))
  items-some lawful e r at ends new k h p =
      (p.0 ∙ sym (runs-room lawful e k h), p.1 ∙ ap (λ es. sets ends at (numbers es)) (sym (items-runs lawful e k h)))
