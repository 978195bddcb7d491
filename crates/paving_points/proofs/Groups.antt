-- FROM THE POPPED GROUPS TO PAGES: a paving whose cells number the days of the boxes' lists gives the definition's groups, and a group's marked
-- intervals, joined, are its runs. Rests on the law of popped groups and on the points of a box.
use mathlib.Core.Path.{◌≡◌, refl, sym, ap, ap₂, ◌∙◌}
use mathlib.Core.Bool.{Bool, true, false}
use mathlib.Core.List.{List, [], ◌∷◌, map, flat_map}
use Prim.Native.Nat.{ℕ, zero, suc, ◌+◌, ◌≤◌, ◌<◌}
use native.Mathlib.Omega.{arith}
use lib.Dec.{eqb}
use lib.ListN.{get_or}
use Rattle.laws.specs.Lists.{from, keep, All}
use Rattle.laws.proofs.Lists.{All-each}
use Rattle.laws.proofs.Spread.{flat_map-map}
use Rattle.grid.specs.Group.{Set, Group, groups}
use Rattle.grid.specs.Cut.{runs, joined, as_runs}
use Rattle.grid.proofs.Part.{Part, groups-part}
use Rattle.grid.proofs.Image.{fines, image}
use Rattle.grid.proofs.Interval.{block, runs-joined}
use Rattle.grid.proofs.Interval as grid-interval
use Rattle.grid.proofs.Number.{interval}
use Rattle.definition.specs.Rule.{Rule}
use Rattle.definition.specs.Point.{dimensions, list_at}
use Rattle.definition.specs.Day.{Day, day}
use Rattle.definition.specs.Group.{same_day, day_at, day_classes, pages}
use Rattle.definition.proofs.FoldBox.{list_all}
use Rattle.definition.proofs.Lawful.{Lawful}
use Rattle.paving.specs.Grid.{axes, grid}
use Rattle.paving.specs.Sweep.{classes_from, groups_from}
use Rattle.paving.proofs.Points.{blocks, Rising, Classed, groups-points}
use Rattle.tables.specs.Cuts.{cut_of, CutBy, interval_at}
use Rattle.tables.specs.Lists.{Within, box_of, start_of}
use Rattle.paving_points.specs.Paged.{runs_of, page_of}
use Rattle.paving_points.proofs.Boxes.{Under, boxes-shown, Bounded, lawful-bounded, cuts-rise, cuts-points, box-marks}

-- ## Marked intervals, joined
module _ (cut : ℕ → ℕ) (t : ℕ → Bool) where
  marked-rise : (lo s n : ℕ) → lo ≤ cut s → ((x : ℕ) → s ≤ x → x < s + n → cut x < cut (suc x)) → grid-interval.Rising lo (map (interval_at cut) (keep t (from s n)))
  unfolding keep from
  marked-rise lo s zero l up = tt
  marked-rise lo s (suc n) l up = go (t s) refl (λ lo k. marked-rise lo (suc s) n k (λ x a b. up x (omega arith) (omega arith)))
    where
      go : (b : Bool) → t s ≡ b → ((lo : ℕ) → lo ≤ cut (suc s) → grid-interval.Rising lo (map (interval_at cut) (keep t (from (suc s) n))))
          → grid-interval.Rising lo (map (interval_at cut) (keep t (from s (suc n))))
      go true e ih = rw (e, keep) (l, up s (omega arith) (omega arith), ih (cut (suc s)) (omega arith))
      go false e ih = rw (e, keep) (ih lo (omega (arith, up s (omega arith) (omega arith))))

  marked-runs : (n : ℕ) → ((x : ℕ) → x < n → cut x < cut (suc x)) → runs (flat_map (interval cut) (keep t (from 0 n))) ≡ joined (map (interval_at cut) (keep t (from 0 n)))
  marked-runs n up =
      ap runs (sym (flat_map-map block (interval cut) (interval_at cut) (keep t (from 0 n)) (All-each _ (λ x. refl) (keep t (from 0 n)))))
      ∙ runs-joined (cut 0) (map (interval_at cut) (keep t (from 0 n))) (marked-rise (cut 0) 0 n (omega arith) (λ x a b. up x (omega arith)))

-- a popped set's runs are its marked intervals, joined
set_runs : (cut : ℕ → ℕ → ℕ) (sizes : List ℕ) (l : ℕ) → Rising cut sizes l → (S : Set ℕ) → Part (axes sizes l) S → map runs (fines (blocks cut l) S) ≡ runs_of cut l S
unfolding axes runs_of
set_runs cut sizes zero up [] p = refl
set_runs cut sizes zero up (E ∷ S) p = absurd p
set_runs cut sizes (suc i) up [] p = absurd p
set_runs cut sizes (suc i) up (E ∷ S) p =
    ap₂ ◌∷◌ (rw p.0.1 (marked-runs (cut i) p.0.0 (get_or sizes i 0) (up i (omega arith)))) (set_runs cut sizes i (λ j h. up j (omega arith)) S p.1)

groups-paged : (day_of : ℕ → Day) (cut : ℕ → ℕ → ℕ) (sizes : List ℕ) (l : ℕ) → Rising cut sizes l → (gs : List (Group ℕ ℕ)) → All (λ g. Part (axes sizes l) g.1) gs
    → map as_runs (map (image day_of (blocks cut l)) gs) ≡ map (page_of day_of cut l) gs
groups-paged day_of cut sizes l up [] p = refl
groups-paged day_of cut sizes l up (g ∷ gs) p = ap₂ ◌∷◌ (ap (λ R. (day_of g.0, R)) (set_runs cut sizes l up g.1 p.0)) (groups-paged day_of cut sizes l up gs p.1)

-- ## The definition's pages
-- THE POPPED GROUPS ARE THE PAGES: where each cell numbers the day of its box's first point, numbers in use name different days, and the table of
-- kinds tests them as the classes do
pub pages-popped : (rows sizes table cells kinds : List ℕ) (rs : List Rule) → All Lawful rs → CutBy rows sizes table rs dimensions
    → (day_of : ℕ → Day) (InUse : ℕ → Type 0) → ((u v : ℕ) → InUse u → InUse v → same_day (day_of u) (day_of v) ≡ eqb u v) → day_of 0 ≡ [] → InUse 0
    → get_or kinds 0 0 ≡ 0 → Classed day_of InUse kinds 1 day_classes → ((j : ℕ) → InUse (get_or cells j 0))
    → ((p : List ℕ) → Within sizes 4 p → day_of (get_or cells (box_of sizes 4 0 p) 0) ≡ day (list_at rs (start_of rows table 4 p)))
    → pages rs ≡ map (page_of day_of (cut_of rows table) 4) (groups_from cells kinds sizes 5 1 4)
unfolding pages day_at groups_from
pages-popped rows sizes table cells kinds rs lawful cut day_of InUse keeps z used empty classed cells_used shown =
    ap (λ D. map as_runs (groups same_day eqb [] day_classes D (day_at rs))) (sym (cuts-points rows sizes table rs dimensions cut bounded))
    ∙ ap (map as_runs) (sym (groups-points day_of InUse same_day keeps [] z used (cut_of rows table) cells kinds sizes 5 1 4 up empty day_classes (omega arith) classed (day_at rs) cells_used
    (boxes-shown (cut_of rows table) sizes day_of cells 4 0 (day_at rs) same)))
    ∙ groups-paged day_of (cut_of rows table) sizes 4 up (groups_from cells kinds sizes 5 1 4) (groups-part eqb eqb 0 (axes sizes 4) (classes_from kinds 5 1) (grid cells sizes 4 0))
  where
    bounded : Bounded rs dimensions
    bounded = lawful-bounded rs lawful

    up : Rising (cut_of rows table) sizes 4
    up = cuts-rise rows sizes table rs dimensions cut bounded

    same : (p q : List ℕ) → Within sizes 4 p → Under (cut_of rows table) 4 p q → day_of (get_or cells (box_of sizes 4 0 p) 0) ≡ day_at rs q
    same p q w u =
        shown p w ∙ ap day (list_all rs (start_of rows table 4 p) q (box-marks rows sizes table rs dimensions cut bounded p q w u))
