-- HOW LARGE A DAY IS: two for each entry and one for each span come to at most four times the list's spans and one. Rests on grid's laws that
-- the groups' points are no more than all, and that runs are no more than what they join.
use mathlib.Core.Path.{◌≡◌, refl, ap}
use mathlib.Core.List.{List, [], ◌∷◌, map}
use mathlib.Core.Logic.{inl, inr}
use mathlib.Core.Bool.{Bool, true, false, not}
use Prim.Native.Nat.{ℕ, suc, ◌+◌, ◌*◌, ◌-◌, ◌≤◌}
use native.Mathlib.Omega.{arith}
use lib.ListN.{length, length-map}
use Rattle.laws.specs.Lists.{keep, sum, All, Mem}
use Rattle.laws.proofs.Lists.{All-map, sum-append}
use Rattle.laws.proofs.Tests.{exact-eqb, exact-pair}
use Rattle.grid.specs.Group.{Set, Map, Group, size, groups}
use Rattle.grid.specs.Cut.{Range, same_range, intervals, cuts, boxes, starts, joined, as_joined}
use Rattle.grid.proofs.Part.{Part, groups-part}
use Rattle.grid.proofs.Size.{groups-size}
use Rattle.grid.proofs.Count.{joined-less, length-between, cuts-count}
use Rattle.definition.specs.Rule.{State, closed, same_state, Span, Rule}
use Rattle.definition.specs.Day.{Stated, Day, simple, flattened, minutes_of, minute_bounds, run_of, after_run, painting, join_group, by_state, grouped, painted, state_classes, plain_span, minute_runs, as_entry, painted_entries, sorted_entry, day_of, entry_of, day}
use Rattle.definition.specs.OverBoxes.{painted_over_intervals}
use Rattle.definition.proofs.Same.{exact-state}
use Rattle.definition.proofs.DayBox.{Simple, painting-simple, painted-intervals}
use Rattle.definition.proofs.PaintedShows.{classes-closed}
use Rattle.definition.proofs.Entries.{painted-count}
use Rattle.definition.proofs.Spans.{run-parts, length-sorted}

abbrev pub total : Day → ℕ
total = sum (λ e. 2 + length e.1)

-- ## Groups: at most three for each span
join-total : (x : Stated) (d : Day) → total (join_group x d) ≤ 3 + total d
unfolding join_group sum
join-total x [] = omega arith
join-total x (g ∷ gs) = go (same_state x.0 g.0) refl
  where
    go : (b : Bool) → same_state x.0 g.0 ≡ b → total (join_group x (g ∷ gs)) ≤ 3 + total (g ∷ gs)
    go true e = rw (e, join_group) (omega arith)
    go false e = rw (e, join_group) (omega arith)

state-total : (xs : List Stated) → total (by_state xs) ≤ 3 * length xs
unfolding by_state
state-total [] = unfold sum in omega arith
state-total (x ∷ xs) = omega (arith, join-total x (by_state xs), state-total xs)

keep-parts : (ss : List Span) → length (keep (λ s. not (simple s)) ss) + length (keep simple ss) ≡ length ss
unfolding keep
keep-parts [] = omega arith
keep-parts (s ∷ ss) = go (simple s) refl (keep-parts ss)
  where
    go : (b : Bool) → simple s ≡ b → length (keep (λ s. not (simple s)) ss) + length (keep simple ss) ≡ length ss
        → length (keep (λ s. not (simple s)) (s ∷ ss)) + length (keep simple (s ∷ ss)) ≡ suc (length ss)
    go true e ih = rw (e, keep) (omega arith)
    go false e ih = rw (e, keep) (omega arith)

grouped-total : (xs : List Stated) → total (grouped xs) + 3 * length (painting xs) ≤ 3 * length xs
unfolding grouped painting sum
grouped-total [] = omega arith
grouped-total (x ∷ xs) = go (simple x.1) refl (grouped-total xs)
  where
    go : (b : Bool) → simple x.1 ≡ b → total (grouped xs) + 3 * length (painting xs) ≤ 3 * length xs
        → total (grouped (x ∷ xs)) + 3 * length (painting (x ∷ xs)) ≤ 3 * suc (length xs)
    go true e ih = rw (e, grouped, painting) (omega arith)
    go false e ih = rw (e, grouped, painting) (
        omega (
          arith,
          keep-parts (run_of x.0 xs),
          length-map {B = Stated} (keep simple (run_of x.0 xs)) (λ s. (x.0, s)),
          run-parts x.0 xs,
          state-total (after_run x.0 xs),
        )
        )

sorted-total : (d : Day) → total (map sorted_entry d) ≡ total d
unfolding sum
sorted-total [] = refl
sorted-total (e ∷ d) = omega (arith, length-sorted e.1, sorted-total d)

-- ## Painted states: at most four for each span, and one
painters : (xs : List Stated) → All (λ x. Mem x.0 (map (λ x. x.0) xs)) xs
unfolding Mem
painters [] = tt
painters (x ∷ xs) = (inl refl, All-map (λ y m. inr m) xs (painters xs))

total-parts : (d : Day) → total d ≡ 2 * length d + sum (λ e. length e.1) d
unfolding sum
total-parts [] = omega arith
total-parts (e ∷ d) = omega (arith, total-parts d)

interval-runs : (D : List Range) (gs : List (Group Range State)) → All (λ g. Part (D ∷ []) g.1) gs
    → sum (λ e. length e.1) (map as_entry (map as_joined gs)) ≤ sum (λ g. size g.1) gs
unfolding sum
interval-runs D [] h = omega arith
interval-runs D (g ∷ gs) h = omega (arith, one g.1 h.0, interval-runs D gs h.1)
  where
    one : (S : Set Range) → Part (D ∷ []) S → length (map plain_span (minute_runs (map joined S))) ≤ size S
    one [] k = absurd k
    one (E ∷ []) k = unfold size in omega (arith, length-map (joined E) plain_span, joined-less E)
    one (E ∷ F ∷ S) k = absurd k.1

painted-runs : (xs : List Stated) → sum (λ e. length e.1) (painted_over_intervals xs) ≤ 2 * length xs + 1
unfolding painted_over_intervals boxes
painted-runs xs =
    let D : List Range = intervals minute_bounds (map (λ x. minutes_of x.1) xs) in
    let f : Map Range State = λ is. painted xs (starts is) in
    let c : length D ≡ length (cuts minute_bounds (map (λ x. minutes_of x.1) xs)) - 1 = unfold intervals in
    length-between (cuts minute_bounds (map (λ x. minutes_of x.1) xs)) in
    let all : size (D ∷ []) ≡ length D = unfold size in omega arith in
    omega (
      arith,
      interval-runs D (groups same_state same_range closed state_classes (D ∷ []) f) (groups-part same_state same_range closed (D ∷ []) state_classes f),
      groups-size exact-state (exact-pair exact-eqb exact-eqb) closed (D ∷ []) state_classes classes-closed f,
      all,
      c,
      cuts-count minute_bounds (map (λ x. minutes_of x.1) xs),
      length-map xs (λ x. minutes_of x.1),
    )

painted-total : (xs : List Stated) → Simple xs → total (painted_entries xs) ≤ 4 * length xs + 1
painted-total xs h =
    omega (
      arith,
      total-parts (painted_entries xs),
      painted-count (map (λ x. x.0) xs) xs (painters xs),
      length-map xs (λ x. x.0),
      ap (sum (λ e. length e.1)) (painted-intervals xs h),
      painted-runs xs,
    )

-- THE WHOLE DAY
pub day-total : (l : List Rule) → total (day l) ≤ 4 * length (flattened (map entry_of l)) + 1
unfolding day day_of
day-total l =
    let xs = flattened (map entry_of l) in
    omega (
      arith,
      sum-append (λ e. 2 + length e.1) (painted_entries (painting xs)) (map sorted_entry (grouped xs)),
      painted-total (painting xs) (painting-simple xs),
      sorted-total (grouped xs),
      grouped-total xs,
    )
