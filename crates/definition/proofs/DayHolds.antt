-- WHAT HOLDS OF A LIST'S STATES AND SPANS HOLDS OF ITS DAY'S, if it holds of runs of minutes as well. Rests on grid's laws that a group's
-- value is one of the map's and that its set is part of the dimension.
use mathlib.Core.Path.{◌≡◌, refl}
use mathlib.Core.List.{List, [], ◌∷◌, map}
use mathlib.Core.Logic.{◌⊎◌, inl, inr}
use mathlib.Core.Bool.{Bool, true, false, not, cond}
use Prim.Native.Nat.{ℕ, ◌<◌}
use lib.Dec.{eqb}
use Rattle.laws.specs.Lists.{keep, All}
use Rattle.laws.proofs.Lists.{All-map, All-append, All-keep, All-image}
use Rattle.laws.proofs.Tests.{exact-eqb}
use Rattle.grid.specs.Group.{Group, groups}
use Rattle.grid.specs.Cut.{Range, coordinates, runs, as_runs}
use Rattle.grid.proofs.Part.{Part, groups-part}
use Rattle.grid.proofs.Distinct.{groups-values}
use Rattle.definition.specs.Rule.{State, closed, same_state, not_above, span_key, Span, insert_span, sorted, Rule}
use Rattle.definition.specs.Day.{Stated, Day, simple, within, stated, flattened, run_of, after_run, painting, join_group, by_state, grouped, last_over, state_classes, minute_bounds, painted, plain_span, minute_runs, as_entry, painted_entries, sorted_entry, day_of, entry_of, day}
use Rattle.definition.proofs.Same.{exact-state}
use Rattle.definition.proofs.PaintedShows.{ProperRun, runs-proper, minutes-below, classes-closed}

-- ## Painted minutes
-- a painted minute shows plain Closed or a painter's state
pub shows-painter : (P : State → Type 0) (S : State) (xs : List Stated) → All (λ x. P x.0) xs → (S ≡ closed) ⊎ P S → (m : ℕ)
    → (last_over within S xs m ≡ closed) ⊎ P (last_over within S xs m)
unfolding last_over
shows-painter P S [] h s m = s
shows-painter P S (x ∷ xs) h s m = shows-painter P (cond (within x.1 m) x.0 S) xs h.1 (go (within x.1 m)) m
  where
    go : (b : Bool) → (cond b x.0 S ≡ closed) ⊎ P (cond b x.0 S)
    go true = inr h.0
    go false = s

-- the runs of a painted group lie within the day
group-proper : (S : List (List ℕ)) → Part (coordinates minute_bounds ∷ []) S → All ProperRun (minute_runs (map runs S))
group-proper [] p = absurd p
group-proper (E ∷ []) p = runs-proper E (rw p.0.1 (All-keep (λ x. x < 1440) p.0.0 (coordinates minute_bounds) minutes-below))
group-proper (E ∷ F ∷ S) p = absurd p.1

-- ## Sorted spans
module _ (Q : Span → Type 0) where
  insert-holds : (s : Span) (ss : List Span) → Q s → All Q ss → All Q (insert_span s ss)
  unfolding insert_span
  insert-holds s [] h k = (h, tt)
  insert-holds s (t ∷ ss) h k = go (not_above (span_key s) (span_key t)) refl (insert-holds s ss h k.1)
    where
      go : (b : Bool) → not_above (span_key s) (span_key t) ≡ b → All Q (insert_span s ss) → All Q (insert_span s (t ∷ ss))
      go true e ih = rw (e, insert_span) (h, k)
      go false e ih = rw (e, insert_span) (k.0, ih)

  pub sorted-holds : (ss : List Span) → All Q ss → All Q (sorted ss)
  unfolding sorted
  sorted-holds [] h = tt
  sorted-holds (s ∷ ss) h = insert-holds s (sorted ss) h.0 (sorted-holds ss h.1)

module _ (P : State → Type 0) (Q : Span → Type 0) where
  -- of every state and span of a day, and of a list of spans with their states
  abbrev pub InDay : Day → Type 0
  InDay = All (λ e. P e.0 × All Q e.1)

  abbrev pub InList : List Stated → Type 0
  InList = All (λ x. P x.0 × Q x.1)

  -- ## Groups
  run_holds : (S : State) (xs : List Stated) → InList xs → All Q (run_of S xs) × InList (after_run S xs)
  unfolding run_of after_run
  run_holds S [] h = (tt, tt)
  run_holds S (x ∷ xs) h = go (same_state x.0 S) refl (run_holds S xs h.1)
    where
      go : (b : Bool) → same_state x.0 S ≡ b → All Q (run_of S xs) × InList (after_run S xs) → All Q (run_of S (x ∷ xs)) × InList (after_run S (x ∷ xs))
      go true e ih = rw (e, run_of, after_run) ((h.0.1, ih.0), ih.1)
      go false e ih = rw (e, run_of, after_run) (tt {0}, h)

  join-holds : (x : Stated) (d : Day) → P x.0 × Q x.1 → InDay d → InDay (join_group x d)
  unfolding join_group
  join-holds x [] h k = ((h.0, (h.1, tt)), tt)
  join-holds x (g ∷ gs) h k = go (same_state x.0 g.0) refl
    where
      go : (b : Bool) → same_state x.0 g.0 ≡ b → InDay (join_group x (g ∷ gs))
      go true e = rw (e, join_group) ((h.0, (h.1, k.0.1)), k.1)
      go false e = rw (e, join_group) ((h.0, (h.1, tt)), k)

  state-holds : (xs : List Stated) → InList xs → InDay (by_state xs)
  unfolding by_state
  state-holds [] h = tt
  state-holds (x ∷ xs) h = join-holds x (by_state xs) h.0 (state-holds xs h.1)

  grouped-holds : (xs : List Stated) → InList xs → InDay (grouped xs)
  unfolding grouped
  grouped-holds [] h = tt
  grouped-holds (x ∷ xs) h = go (simple x.1) refl (grouped-holds xs h.1)
    where
      go : (b : Bool) → simple x.1 ≡ b → InDay (grouped xs) → InDay (grouped (x ∷ xs))
      go true e ih = rw (e, grouped) ih
      go false e ih = let r = run_holds x.0 xs h.1 in rw (e, grouped)
          ((h.0.0, (h.0.1, All-keep Q (λ s. not (simple s)) (run_of x.0 xs) r.0)), state-holds (after_run x.0 xs) r.1)

  sorted-day : (d : Day) → InDay d → InDay (map sorted_entry d)
  sorted-day [] h = tt
  sorted-day (e ∷ d) h = ((h.0.0, sorted-holds Q e.1 h.0.1), sorted-day d h.1)

  -- ## Painted states
  painting-holds : (xs : List Stated) → InList xs → All (λ x. P x.0) (painting xs)
  unfolding painting
  painting-holds [] h = tt
  painting-holds (x ∷ xs) h = go (simple x.1) refl (painting-holds xs h.1)
    where
      go : (b : Bool) → simple x.1 ≡ b → All (λ x. P x.0) (painting xs) → All (λ x. P x.0) (painting (x ∷ xs))
      go true e ih = rw (e, painting) (h.0.0, ih)
      go false e ih = rw (e, painting) (each (keep simple (run_of x.0 xs)))
        where
          each : (ss : List Span) → All (λ x. P x.0) (stated (x.0, ss))
          each [] = tt
          each (s ∷ ss) = (h.0.0, each ss)

  module _ (plain : (r : Range) → ProperRun r → Q (plain_span r)) where
    pub painted-holds : (xs : List Stated) → All (λ x. P x.0) xs → InDay (painted_entries xs)
    unfolding painted_entries
    painted-holds xs h = each gs
        (groups-values exact-state exact-eqb closed (coordinates minute_bounds) P state_classes classes-closed (painted xs)
        (λ m i. shows-painter P closed xs h (inl refl) m))
        (groups-part same_state eqb closed (coordinates minute_bounds ∷ []) state_classes (painted xs))
      where
        gs : List (Group ℕ State)
        gs = groups same_state eqb closed state_classes (coordinates minute_bounds ∷ []) (painted xs)

        each : (gs : List (Group ℕ State)) → All (λ g. P g.0) gs → All (λ g. Part (coordinates minute_bounds ∷ []) g.1) gs
            → InDay (map as_entry (map as_runs gs))
        each [] k p = tt
        each (g ∷ gs) k p = (
          (k.0, All-image Q plain_span (minute_runs (map runs g.1)) (All-map plain (minute_runs (map runs g.1)) (group-proper g.1 p.0))),
          each gs k.1 p.1,
        )

    -- THE WHOLE DAY
    pub day-holds : (l : List Rule) → InList (flattened (map entry_of l)) → InDay (day l)
    unfolding day day_of
    day-holds l h =
        let xs = flattened (map entry_of l) in
        All-append (λ e. P e.0 × All Q e.1) (painted_entries (painting xs)) (map sorted_entry (grouped xs))
        (painted-holds (painting xs) (painting-holds xs h)) (sorted-day (grouped xs) (grouped-holds xs h))
