-- A DAY HAS AT MOST ONE ENTRY MORE THAN ITS LIST, so a group has at most 33 rules. Rests on grid's law that in one dimension no value
-- comes twice.
use mathlib.Core.Path.{◌≡◌, refl, ap, ◌∙◌}
use mathlib.Core.List.{List, [], ◌∷◌, ◌++◌, map, flat_map}
use mathlib.Core.Logic.{inl, inr}
use mathlib.Core.Bool.{Bool, true, false}
use Prim.Native.Nat.{ℕ, suc, ◌+◌, ◌≤◌}
use native.Mathlib.Omega.{arith}
use lib.Dec.{eqb}
use lib.ListN.{length, length-append, length-map}
use Rattle.laws.specs.Lists.{keep, All, Mem}
use Rattle.laws.proofs.Lists.{All-map}
use Rattle.laws.proofs.Tests.{exact-eqb}
use Rattle.laws.proofs.Distinct.{distinct-count}
use Rattle.grid.specs.Group.{Group, groups}
use Rattle.grid.specs.Cut.{coordinates, as_runs}
use Rattle.grid.proofs.Distinct.{values, groups-distinct, groups-values}
use Rattle.definition.specs.Rule.{State, closed, same_state, Span, Rule}
use Rattle.definition.specs.Day.{Stated, Entry, Day, simple, stated, flattened, run_of, after_run, painting, join_group, by_state, grouped, state_classes, minute_bounds, painted, as_entry, painted_entries, sorted_entry, day_of, entry_of, day}
use Rattle.definition.proofs.Same.{exact-state}
use Rattle.definition.proofs.PaintedShows.{classes-closed}
use Rattle.definition.proofs.DayHolds.{shows-painter}

-- ## Groups of consecutive equal state
join_more : (x : Stated) (d : Day) → (length d ≤ length (join_group x d)) × (length (join_group x d) ≤ suc (length d))
unfolding join_group
join_more x [] = omega arith
join_more x (g ∷ gs) = go (same_state x.0 g.0) refl
  where
    go : (b : Bool) → same_state x.0 g.0 ≡ b → (length (g ∷ gs) ≤ length (join_group x (g ∷ gs))) × (length (join_group x (g ∷ gs)) ≤ suc (length (g ∷ gs)))
    go true e = rw (e, join_group) (omega arith)
    go false e = rw (e, join_group) (omega arith)

-- the first group has the state
abbrev pub Heads : State → Day → Type 0
Heads S [] = ⊥
Heads S (g ∷ gs) = g.0 ≡ S

pub join-heads : (x : Stated) (d : Day) → Heads x.0 (join_group x d)
unfolding join_group
join-heads x [] = refl
join-heads x (g ∷ gs) = go (same_state x.0 g.0) refl
  where
    go : (b : Bool) → same_state x.0 g.0 ≡ b → Heads x.0 (join_group x (g ∷ gs))
    go true e = rw (e, join_group)
    go false e = rw (e, join_group)

join-same : (x : Stated) (d : Day) → Heads x.0 d → length (join_group x d) ≡ length d
unfolding join_group
join-same x [] h = absurd h
join-same x (g ∷ gs) h = rw (ap (same_state x.0) h ∙ exact-state.self x.0, join_group)

-- an entry's spans make at most one group more
entry-groups : (e : Entry) (xs : List Stated) → length (by_state (stated e ++ xs)) ≤ suc (length (by_state xs))
unfolding by_state
entry-groups e xs = go e.1
  where
    heads : (s : Span) (ss : List Span) → Heads e.0 (by_state (stated (e.0, s ∷ ss) ++ xs))
    heads s ss = unfold by_state in join-heads (e.0, s) (by_state (stated (e.0, ss) ++ xs))

    go : (ss : List Span) → length (by_state (stated (e.0, ss) ++ xs)) ≤ suc (length (by_state xs))
    go [] = omega arith
    go (s ∷ []) = (join_more (e.0, s) (by_state xs)).1
    go (s ∷ r ∷ ss) = more (go (r ∷ ss))
      where
        more : length (by_state (stated (e.0, r ∷ ss) ++ xs)) ≤ suc (length (by_state xs))
            → length (by_state (stated (e.0, s ∷ r ∷ ss) ++ xs)) ≤ suc (length (by_state xs))
        more ih = unfold by_state in omega (arith, ih, join-same (e.0, s) (by_state (stated (e.0, r ∷ ss) ++ xs)) (heads r ss))

states-groups : (d : Day) → length (by_state (flattened d)) ≤ length d
unfolding flattened flat_map
states-groups [] = unfold by_state in omega arith
states-groups (e ∷ d) = more (states-groups d)
  where
    more : length (by_state (flattened d)) ≤ length d → length (by_state (stated e ++ flat_map stated d)) ≤ suc (length d)
    more ih = omega (arith, entry-groups e (flattened d))

after-groups : (S : State) (xs : List Stated) → length (by_state (after_run S xs)) ≤ length (by_state xs)
unfolding after_run by_state
after-groups S [] = omega arith
after-groups S (x ∷ xs) = go (same_state x.0 S) refl (after-groups S xs)
  where
    go : (b : Bool) → same_state x.0 S ≡ b → length (by_state (after_run S xs)) ≤ length (by_state xs)
        → length (by_state (after_run S (x ∷ xs))) ≤ length (by_state (x ∷ xs))
    go true e ih = rw (e, after_run) (omega (arith, ih, join_more x (by_state xs)))
    go false e ih = rw (e, after_run) (omega arith)

-- a run of S goes over the spans of S
pub after-stated : (S : State) (ss : List Span) (xs : List Stated) → after_run S (stated (S, ss) ++ xs) ≡ after_run S xs
unfolding after_run
after-stated S [] xs = refl
after-stated S (s ∷ ss) xs = rw (exact-state.self S, after_run) (after-stated S ss xs)

-- ## Painted states and groups together
-- states to choose the painted ones from, with room for the groups in n
pub record Choice (xs : List Stated) (n : ℕ) : Type 0 where
  pub states : List State
  pub painters : All (λ x. Mem x.0 states) (painting xs)
  pub few : length states + length (grouped xs) ≤ n

stated-states : (S : State) (K : List State) → Mem S K → (ss : List Span) → All (λ x. Mem x.0 K) (stated (S, ss))
stated-states S K m [] = tt
stated-states S K m (s ∷ ss) = (m, stated-states S K m ss)

module _ (S : State) (d : Day) (later : Choice (flattened d) (suc (length d))) where
  -- the same, with S among the states
  abbrev With : List Stated → Type 0
  With xs = (K : List State) × All (λ x. Mem x.0 (S ∷ K)) (painting xs) × (length (S ∷ K) + length (grouped xs) ≤ suc (suc (length d)))

  entry-choice : (ss : List Span) → With (stated (S, ss) ++ flattened d)
  unfolding painting grouped Mem
  entry-choice [] = (later.states, All-map (λ x m. inr m) (painting (flattened d)) later.painters, omega (arith, later.few))
  entry-choice (s ∷ ss) = go (simple s) refl (entry-choice ss)
    where
      rest : List Stated
      rest = stated (S, ss) ++ flattened d

      go : (b : Bool) → simple s ≡ b → With rest → With ((S, s) ∷ rest)
      go true e ih = (ih.0, rw (e, painting) (inl refl, ih.1), rw (e, grouped) ih.2)
      go false e ih = (
        [],
        rw (e, painting) (stated-states S (S ∷ []) (inl refl) (keep simple (run_of S rest))),
        rw (e, grouped) (omega (arith, ap (λ l. length (by_state l)) (after-stated S ss (flattened d)), after-groups S (flattened d), states-groups d)),
      )

choice : (d : Day) → Choice (flattened d) (suc (length d))
unfolding flattened flat_map painting grouped
choice [] = record { states = []; painters = tt; few = omega arith }
choice (e ∷ d) = let w = entry-choice e.0 d (choice d) e.1 in record { states = e.0 ∷ w.0; painters = w.1; few = w.2 }

-- no more painted entries than painters' states
pub painted-count : (K : List State) (xs : List Stated) → All (λ x. Mem x.0 K) xs → length (painted_entries xs) ≤ length K
unfolding painted_entries
painted-count K xs h =
    omega (
      arith,
      length-map (map as_runs gs) as_entry,
      length-map gs as_runs,
      length-map gs (λ g. g.0),
      distinct-count exact-state (values gs) K
          (groups-distinct exact-state exact-eqb closed (coordinates minute_bounds) state_classes classes-closed (painted xs))
          (as_values gs (groups-values exact-state exact-eqb closed (coordinates minute_bounds) (λ v. Mem v K) state_classes classes-closed (painted xs)
          (λ m i. shows-painter (λ S. Mem S K) closed xs h (inl refl) m))),
    )
  where
    gs : List (Group ℕ State)
    gs = groups same_state eqb closed state_classes (coordinates minute_bounds ∷ []) (painted xs)

    as_values : (hs : List (Group ℕ State)) → All (λ g. Mem g.0 K) hs → All (λ v. Mem v K) (values hs)
    as_values [] k = tt
    as_values (g ∷ hs) k = (k.0, as_values hs k.1)

-- AT MOST ONE ENTRY MORE THAN THE LIST
pub day-entries : (l : List Rule) → length (day l) ≤ suc (length l)
unfolding day day_of
day-entries l =
    let xs = flattened (map entry_of l) in
    let c = choice (map entry_of l) in
    omega (
      arith,
      length-append (painted_entries (painting xs)) (map sorted_entry (grouped xs)),
      length-map (grouped xs) sorted_entry,
      painted-count c.states (painting xs) c.painters,
      c.few,
      length-map l entry_of,
    )
