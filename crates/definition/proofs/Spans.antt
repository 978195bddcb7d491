-- How many spans an entry of a day has: at most one more than its list has in all. Rests on grid's law that runs are at most every other
-- interval.
use mathlib.Core.Path.{◌≡◌, refl, sym, ap, ◌∙◌, subst}
use mathlib.Core.List.{List, [], ◌∷◌, map}
use mathlib.Core.Bool.{Bool, true, false, not}
use Prim.Native.Nat.{ℕ, suc, ◌+◌, ◌-◌, ◌≤◌}
use native.Mathlib.Omega.{arith}
use lib.ListN.{length, length-map}
use Rattle.laws.specs.Lists.{keep, All}
use Rattle.laws.proofs.Lists.{All-map, All-append, keep-less}
use Rattle.grid.specs.Group.{Group, groups}
use Rattle.grid.specs.Cut.{Range, same_range, intervals, boxes, starts, cuts, joined, as_joined}
use Rattle.grid.proofs.Part.{Part, groups-part}
use Rattle.grid.proofs.Count.{runs-half, length-between, cuts-count}
use Rattle.definition.specs.Rule.{closed, State, same_state, not_above, span_key, Span, insert_span, sorted, Rule}
use Rattle.definition.specs.Day.{Stated, Day, simple, flattened, minutes_of, minute_bounds, run_of, after_run, painting, join_group, by_state, grouped, painted, state_classes, plain_span, minute_runs, as_entry, painted_entries, sorted_entry, day_of, entry_of, day}
use Rattle.definition.specs.OverBoxes.{span_ranges, painted_over_intervals}
use Rattle.definition.proofs.DayBox.{painting-simple, painted-intervals}

-- no entry has more than n spans
abbrev pub Brief : ℕ → Day → Type 0
Brief n = All (λ e. length e.1 ≤ n)

-- ## Groups
pub run-parts : (S : State) (xs : List Stated) → length (run_of S xs) + length (after_run S xs) ≤ length xs
unfolding run_of after_run
run-parts S [] = omega arith
run-parts S (x ∷ xs) = go (same_state x.0 S) refl (run-parts S xs)
  where
    go : (b : Bool) → same_state x.0 S ≡ b → length (run_of S xs) + length (after_run S xs) ≤ length xs
        → length (run_of S (x ∷ xs)) + length (after_run S (x ∷ xs)) ≤ suc (length xs)
    go true e ih = rw (e, run_of, after_run) (omega arith)
    go false e ih = rw (e, run_of, after_run) (omega arith)

join-brief : (n : ℕ) (x : Stated) (d : Day) → Brief n d → Brief (suc n) (join_group x d)
unfolding join_group
join-brief n x [] h = (omega arith, tt)
join-brief n x (g ∷ gs) h = go (same_state x.0 g.0) refl
  where
    more : (d : Day) → Brief n d → Brief (suc n) d
    more d k = All-map (λ e l. omega arith) d k

    go : (b : Bool) → same_state x.0 g.0 ≡ b → Brief (suc n) (join_group x (g ∷ gs))
    go true e = rw (e, join_group) (omega (arith, h.0), more gs h.1)
    go false e = rw (e, join_group) (omega arith, (omega (arith, h.0), more gs h.1))

state-brief : (xs : List Stated) → Brief (length xs) (by_state xs)
unfolding by_state
state-brief [] = tt
state-brief (x ∷ xs) = join-brief (length xs) x (by_state xs) (state-brief xs)

grouped-brief : (xs : List Stated) → Brief (length xs) (grouped xs)
unfolding grouped
grouped-brief [] = tt
grouped-brief (x ∷ xs) = go (simple x.1) refl (grouped-brief xs)
  where
    go : (b : Bool) → simple x.1 ≡ b → Brief (length xs) (grouped xs) → Brief (suc (length xs)) (grouped (x ∷ xs))
    go true e ih = rw (e, grouped) (All-map (λ g l. omega arith) (grouped xs) ih)
    go false e ih = rw (e, grouped) (
      omega (arith, keep-less (λ s. not (simple s)) (run_of x.0 xs), run-parts x.0 xs),
      All-map (λ g l. omega (arith, l, run-parts x.0 xs)) (by_state (after_run x.0 xs)) (state-brief (after_run x.0 xs)),
    )

pub length-sorted : (ss : List Span) → length (sorted ss) ≡ length ss
unfolding sorted
length-sorted [] = refl
length-sorted (s ∷ ss) = inserted (sorted ss) ∙ ap suc (length-sorted ss)
  where
    inserted : (ts : List Span) → length (insert_span s ts) ≡ suc (length ts)
    inserted [] = unfold insert_span in refl
    inserted (t ∷ ts) = go (not_above (span_key s) (span_key t)) refl (inserted ts)
      where
        go : (b : Bool) → not_above (span_key s) (span_key t) ≡ b → length (insert_span s ts) ≡ suc (length ts)
            → length (insert_span s (t ∷ ts)) ≡ suc (suc (length ts))
        go true e ih = unfold insert_span in rw (e, insert_span)
        go false e ih = unfold insert_span in rw (e, insert_span) (ap suc ih)

sorted-brief : (n : ℕ) (d : Day) → Brief n d → Brief n (map sorted_entry d)
sorted-brief n [] k = tt
sorted-brief n (e ∷ d) k = (omega (arith, length-sorted e.1, k.0), sorted-brief n d k.1)

-- ## Painted states
painting-less : (xs : List Stated) → length (painting xs) ≤ length xs
unfolding painting
painting-less [] = omega arith
painting-less (x ∷ xs) = go (simple x.1) refl (painting-less xs)
  where
    go : (b : Bool) → simple x.1 ≡ b → length (painting xs) ≤ length xs → length (painting (x ∷ xs)) ≤ suc (length xs)
    go true e ih = rw (e, painting) (omega arith)
    go false e ih = rw (e, painting)
        (omega (arith, length-map {B = Stated} (keep simple (run_of x.0 xs)) (λ s. (x.0, s)), keep-less simple (run_of x.0 xs), run-parts x.0 xs))

painted-brief : (xs : List Stated) → Brief (suc (length xs)) (painted_over_intervals xs)
unfolding painted_over_intervals
painted-brief xs = each (groups same_state same_range closed state_classes (boxes (minute_bounds ∷ []) (span_ranges xs)) (λ is. painted xs (starts is)))
    (groups-part same_state same_range closed (boxes (minute_bounds ∷ []) (span_ranges xs)) state_classes (λ is. painted xs (starts is)))
  where
    R : List Range
    R = map (λ x. minutes_of x.1) xs

    one : (g : Group Range State) → Part (boxes (minute_bounds ∷ []) (span_ranges xs)) g.1 → length (as_entry (as_joined g)).1 ≤ suc (length xs)
    one g p = runs g.1 (unfold boxes in p)
      where
        runs : (S : List (List Range)) → Part (intervals minute_bounds R ∷ []) S → length (map plain_span (minute_runs (map joined S))) ≤ suc (length xs)
        runs [] k = absurd k
        runs (E ∷ []) k =
            let b : length (joined E) ≡ length (joined (keep k.0.0 (intervals minute_bounds R))) = ap (λ F. length (joined F)) k.0.1 in
            let c : length (intervals minute_bounds R) ≡ length (cuts minute_bounds R) - 1 = unfold intervals in length-between (cuts minute_bounds R) in
            omega (
              arith,
              length-map (joined E) plain_span,
              b,
              c,
              runs-half k.0.0 minute_bounds R,
              cuts-count minute_bounds R,
              length-map xs (λ x. minutes_of x.1),
            )
        runs (E ∷ F ∷ S) k = absurd k.1

    each : (gs : List (Group Range State)) → All (λ g. Part (boxes (minute_bounds ∷ []) (span_ranges xs)) g.1) gs
        → Brief (suc (length xs)) (map as_entry (map as_joined gs))
    each [] p = tt
    each (g ∷ gs) p = (one g p.0, each gs p.1)

-- A DAY'S ENTRIES ARE BRIEF
pub day-brief : (l : List Rule) → Brief (suc (length (flattened (map entry_of l)))) (day l)
unfolding day day_of
day-brief l =
    let xs = flattened (map entry_of l) in
    All-append _ (painted_entries (painting xs)) (map sorted_entry (grouped xs))
    (subst (Brief (suc (length xs))) (sym (painted-intervals (painting xs) (painting-simple xs)))
    (All-map (λ e k. omega (arith, k, painting-less xs)) (painted_over_intervals (painting xs)) (painted-brief (painting xs))))
    (sorted-brief (suc (length xs)) (grouped xs) (All-map (λ e k. omega arith) (grouped xs) (grouped-brief xs)))
