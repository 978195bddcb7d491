-- The runs found: a range's places among rising cuts are those of the columns that it covers; and the table with one run more. Rests on the laws of the
-- search among rising numbers.
use mathlib.Core.Path.{◌≡◌, sym, subst, ◌∙◌}
use mathlib.Core.List.{List}
use Prim.Native.Nat.{ℕ, ◌+◌, ◌-◌, ◌*◌, ◌≤◌, ◌<◌}
use native.Mathlib.Omega.{arith}
use lib.ListN.{length, get_or, set, length-set}
use lib.Seq.{get_or-set_same, get_or-set_other}
use borrow.Author.Count.{below_more}
use borrow.Author.Tests.{le-leb, lt-leb, lt-ltb, le-ltb}
use Rattle.tables.specs.Cuts.{cut_of}
use Rattle.tables.specs.Ranges.{range_of}
use Rattle.tables.specs.Search.{Rising, PlaceOf}
use Rattle.tables.specs.Sizes.{range_places}
use Rattle.tables.proofs.Narrowing.{rising_le}
use Rattle.draw_rule.specs.Update.{Lawful, covered}
use Rattle.draw_rule.specs.Runs.{Placed, RunOf, RowRuns, RunsUpTo, Planned, begin_of, end_of}

-- what `find_run` writes
pub placed : {cuts ranges runs : List ℕ} {first end at begin stop : ℕ} → at + 1 < length runs → PlaceOf cuts first end (get_or ranges at 0) begin
    → PlaceOf cuts begin end (get_or ranges (at + 1) 0) stop → Placed cuts ranges runs (set (set runs at (begin - first)) (at + 1) (stop - first)) first end at
placed {cuts} {ranges} {runs} {first} {end} {at} {begin} {stop} l a z = record {
  kept = λ k h. get_or-set_other (set runs at (begin - first)) (at + 1) k (stop - first) 0 (omega arith) ∙ get_or-set_other runs at k (begin - first) 0 (omega arith);
  begins = subst (PlaceOf cuts first end (get_or ranges at 0)) (sym one) a;
  ends = rw (one, two) z;
}
  where
    one : first + get_or (set (set runs at (begin - first)) (at + 1) (stop - first)) at 0 ≡ begin
    one =
        omega (
          arith,
          get_or-set_other (set runs at (begin - first)) (at + 1) at (stop - first) 0 (omega arith),
          get_or-set_same runs at (begin - first) 0 (omega arith),
          a.from_first,
        )

    two : first + get_or (set (set runs at (begin - first)) (at + 1) (stop - first)) (at + 1) 0 ≡ stop
    two = omega (arith, get_or-set_same (set runs at (begin - first)) (at + 1) (stop - first) 0 (omega (arith, length-set runs at (begin - first))), a.from_first, z.from_first)

module _ (sizes rows cuts ranges runs runs' : List ℕ) (i r first end at : ℕ) (row : first ≡ get_or rows i 0) (size : end ≡ first + get_or sizes i 0)
    (here : at ≡ i * range_places + 2 * r) (rise : Rising cuts first end) (p : Placed cuts ranges runs runs' first end at) where
  -- a column's start is covered where it is neither before the range's first place nor behind its last
  not-below : (k : ℕ) → get_or runs' at 0 ≤ k → k < get_or sizes i 0 → get_or ranges at 0 ≤ get_or cuts (first + k) 0
  not-below k b m =
      omega (arith, p.begins.reached (omega arith), rising_le cuts first end rise (first + get_or runs' at 0) (first + k) (omega arith) (omega arith) (omega arith))

  not-above : (k : ℕ) → get_or runs' (at + 1) 0 ≤ k → k < get_or sizes i 0 → get_or ranges (at + 1) 0 ≤ get_or cuts (first + k) 0
  not-above k b m =
      omega (arith, p.ends.reached (omega arith), rising_le cuts first end rise (first + get_or runs' (at + 1) 0) (first + k) (omega arith) (omega arith) (omega arith))

  run-here : RunOf rows cuts ranges i r (get_or sizes i 0) (get_or runs' at 0) (get_or runs' (at + 1) 0)
  unfolding covered cut_of range_of
  run-here = record {
    ordered = omega (arith, p.ends.from_first);
    inside = omega (arith, p.ends.to_end);
    before = λ k h. rw (← row, ← here, lt-leb _ _ (p.begins.below (first + k) (omega arith) (omega arith)));
    within = λ k b h. rw (← row, ← here, le-leb _ _ (not-below k b (omega (arith, p.ends.to_end))), lt-ltb _ _ (p.ends.below (first + k) (omega arith) (omega arith)));
    behind = λ k b h. rw (← row, ← here, le-leb _ _ (not-below k (omega (arith, p.ends.from_first)) h), le-ltb _ _ (not-above k b h));
  }

  -- the runs before it stay
  stays : (j q : ℕ) → j * range_places + 2 * q + 1 < at → RunOf rows cuts ranges j q (get_or sizes j 0) (begin_of runs j q) (end_of runs j q)
      → RunOf rows cuts ranges j q (get_or sizes j 0) (begin_of runs' j q) (end_of runs' j q)
  stays j q h f = rw (p.kept (j * range_places + 2 * q) (omega arith), p.kept (j * range_places + 2 * q + 1) h) f

  -- THE TABLE with this run
  pub run_more : (counts : List ℕ) → ((j : ℕ) → j < i → get_or counts j 0 * 2 ≤ range_places) → RunsUpTo sizes counts rows cuts ranges runs i → RowRuns sizes rows cuts ranges runs i r
      → RunsUpTo sizes counts rows cuts ranges runs' i × RowRuns sizes rows cuts ranges runs' i (r + 1)
  run_more counts few f g = (
    λ j l q m. stays j q (omega (arith, few j l)) (f j l q m),
    below_more (λ q. RunOf rows cuts ranges i q (get_or sizes i 0) (begin_of runs' i q) (end_of runs' i q)) r (λ q l. stays i q (omega arith) (g q l)) (rw (← here) run-here),
  )

-- ## All runs
pub runs-planned : {sizes counts rows cuts ranges runs : List ℕ} → Lawful sizes counts rows cuts ranges → 4 ≤ length sizes → 4 * range_places ≤ length runs → RunsUpTo sizes counts rows cuts ranges runs 4
    → Planned sizes counts runs
runs-planned h four room found = record {
  all-sizes = four;
  all-counts = omega (arith, h.all-counts);
  all_runs = room;
  count = λ i l. h.count i (omega arith);
  ordered = λ i r l m. (found i l r m).ordered;
  inside = λ i r l m. (found i l r m).inside;
}
