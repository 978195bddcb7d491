-- FOLDING A DAY AGAIN GIVES THE DAY. The painted entries' spans are simple and paint the same map; the first group holds no simple span and
-- its neighbour has another state; what is sorted stays sorted. Rests on the laws of painting and of groups of consecutive equal state.
use mathlib.Core.Path.{◌≡◌, refl, sym, ap, ap₂, ◌∙◌, subst}
use mathlib.Core.List.{List, [], ◌∷◌, ◌++◌, map, flat_map, append-nil}
use mathlib.Core.Bool.{Bool, true, false, not, cond}
use Prim.Native.Nat.{ℕ, ◌≤◌}
use native.Mathlib.Omega.{arith}
use lib.Dec.{eqb, leb, ltb}
use borrow.Author.Tests.{ltb-true, ltb-false, le-ltb}
use Rattle.laws.specs.Lists.{keep, All}
use Rattle.laws.proofs.Lists.{All-map, All-each, every-all, every-keep, keep_all, keep-none}
use Rattle.laws.proofs.Tests.{exact-swap}
use Rattle.laws.proofs.Flags.{and-false}
use Rattle.grid.specs.Group.{groups}
use Rattle.grid.specs.Cut.{coordinates, as_runs}
use Rattle.definition.specs.Rule.{Additional, State, closed, same_state, not_above, span_key, Span, insert_span, sorted, Rule}
use Rattle.definition.specs.Day.{Stated, Day, simple, minute_of, within, stated, flattened, run_of, after_run, painting, join_group, by_state, grouped, last_over, state_classes, minute_bounds, painted, as_entry, painted_entries, sorted_entry, day_of, entry_of, day}
use Rattle.definition.specs.Group.{as_rule, as_rules}
use Rattle.definition.proofs.Same.{exact-state}
use Rattle.definition.proofs.DayBox.{Simple, painting-simple, simple-inside}
use Rattle.definition.proofs.PaintedShows.{flat_append, plain-simple, last-painted}
use Rattle.definition.proofs.DayHolds.{InDay, sorted-holds, painted-holds}
use Rattle.definition.proofs.Entries.{Heads, join-heads, after-stated}
use Rattle.definition.proofs.SpanOrder.{sorted-again}

-- ## Painting again
late : (S : State) (xs : List Stated) → Simple xs → (m : ℕ) → 1440 ≤ m → last_over within S xs m ≡ S
unfolding last_over
late S [] h m l = refl
late S (x ∷ xs) h m l = ap (λ b. last_over within (cond b x.0 S) xs m) past ∙ late S xs h.1 m l
  where
    past : within x.1 m ≡ false
    past = let k = simple-inside x.1 h.0 in rw (le-ltb m (minute_of x.1.end) (omega arith)) (and-false (leb (minute_of x.1.start) m))

stated-simple : (S : State) (ss : List Span) (zs : List Stated) → All (λ s. simple s ≡ true) ss → Simple zs → Simple (stated (S, ss) ++ zs)
stated-simple S [] zs h k = k
stated-simple S (s ∷ ss) zs h k = (h.0, stated-simple S ss zs h.1 k)

flat-simple : (d : Day) → InDay (λ S. Unit {0}) (λ s. simple s ≡ true) d → Simple (flattened d)
unfolding flattened flat_map
flat-simple [] h = tt
flat-simple (e ∷ d) h = stated-simple e.0 e.1 (flattened d) h.0.1 (flat-simple d h.1)

painted-simple : (xs : List Stated) → Simple (flattened (painted_entries xs))
painted-simple xs =
    flat-simple (painted_entries xs) (painted-holds (λ S. Unit {0}) (λ s. simple s ≡ true) plain-simple xs (All-each (λ x. Unit {0}) (λ x. tt {0}) xs))

painted-again : (xs : List Stated) → Simple xs → painted_entries (flattened (painted_entries xs)) ≡ painted_entries xs
painted-again xs h = unfold painted_entries in ap
    (λ f. map as_entry (map as_runs (groups same_state eqb closed state_classes (map coordinates (minute_bounds ∷ [])) f))) same
  where
    again : List Stated
    again = flattened (painted_entries xs)

    shows : (m : ℕ) (b : Bool) → ltb m 1440 ≡ b → last_over within closed again m ≡ last_over within closed xs m
    shows m true e = last-painted (record { covers = within; on_simple = λ s q m. refl }) m (ltb-true m 1440 e) xs
    shows m false e = late closed again (painted-simple xs) m (ltb-false m 1440 e) ∙ sym (late closed xs h m (ltb-false m 1440 e))

    at-point : (p : List ℕ) → painted again p ≡ painted xs p
    at-point [] = refl
    at-point (m ∷ p) = shows m (ltb m 1440) refl

    same : painted again ≡ painted xs
    same = λ i p. at-point p i

-- simple spans at the front paint and go by
front-paints : (xs ys : List Stated) → Simple xs → (painting (xs ++ ys) ≡ xs ++ painting ys) × (grouped (xs ++ ys) ≡ grouped ys)
unfolding painting grouped
front-paints [] ys h = (refl, refl)
front-paints (x ∷ xs) ys h = let ih = front-paints xs ys h.1 in rw (h.0, painting, grouped) (ap (x ∷◌) ih.0, ih.1)

-- ## Grouping again
-- no empty group, and no two neighbours of one state
abbrev Filled : List Span → Type 0
Filled [] = ⊥
Filled (s ∷ ss) = Unit {0}

abbrev Other : State → Day → Type 0
Other S [] = Unit {0}
Other S (g ∷ gs) = same_state S g.0 ≡ false

abbrev Grouped : Day → Type 0
Grouped [] = Unit {0}
Grouped (g ∷ gs) = Filled g.1 × Other g.0 gs × Grouped gs

join-grouped : (x : Stated) (d : Day) → Grouped d → Grouped (join_group x d)
unfolding join_group
join-grouped x [] h = (tt, tt, tt)
join-grouped x (g ∷ gs) h = go (same_state x.0 g.0) refl
  where
    go : (b : Bool) → same_state x.0 g.0 ≡ b → Grouped (join_group x (g ∷ gs))
    go true e = rw (e, join_group) (tt {0}, subst (λ S. Other S gs) (sym (exact-state.equal x.0 g.0 e)) h.1, h.2)
    go false e = rw (e, join_group) (tt {0}, e, h)

state-grouped : (xs : List Stated) → Grouped (by_state xs)
unfolding by_state
state-grouped [] = tt
state-grouped (x ∷ xs) = join-grouped x (by_state xs) (state-grouped xs)

after-other : (S : State) (xs : List Stated) → Other S (by_state (after_run S xs))
unfolding after_run by_state
after-other S [] = tt
after-other S (x ∷ xs) = go (same_state x.0 S) refl (after-other S xs)
  where
    headed : (d : Day) → Heads x.0 d → same_state x.0 S ≡ false → Other S d
    headed [] h e = tt
    headed (g ∷ gs) h e = exact-swap exact-state S g.0 ∙ ap (λ R. same_state R S) h ∙ e

    go : (b : Bool) → same_state x.0 S ≡ b → Other S (by_state (after_run S xs)) → Other S (by_state (after_run S (x ∷ xs)))
    go true e ih = rw (e, after_run) ih
    go false e ih = rw (e, after_run) (headed (join_group x (by_state xs)) (join-heads x (by_state xs)) e)

-- the groups of a list are such groups, and the first holds no simple span
abbrev NoSimple : Day → Type 0
NoSimple [] = Unit {0}
NoSimple (g ∷ gs) = All (λ s. simple s ≡ false) g.1

list-grouped : (xs : List Stated) → Grouped (grouped xs) × NoSimple (grouped xs)
unfolding grouped
list-grouped [] = (tt, tt)
list-grouped (x ∷ xs) = go (simple x.1) refl (list-grouped xs)
  where
    negated : (s : Span) (v : Bool) → simple s ≡ v → not v ≡ true → simple s ≡ false
    negated s true e h = e ∙ sym h
    negated s false e h = e

    others : List Span
    others = keep (λ s. not (simple s)) (run_of x.0 xs)

    go : (b : Bool) → simple x.1 ≡ b → Grouped (grouped xs) × NoSimple (grouped xs) → Grouped (grouped (x ∷ xs)) × NoSimple (grouped (x ∷ xs))
    go true e ih = rw (e, grouped) ih
    go false e ih = rw (e, grouped) (
      (tt {0}, after-other x.0 xs, state-grouped (after_run x.0 xs)),
      (e, every-all (λ s. simple s ≡ false) (λ s. not (simple s)) (λ s. negated s (simple s) refl) others (every-keep (λ s. not (simple s)) (run_of x.0 xs))),
    )

sorted-filled : (ss : List Span) → Filled ss → Filled (sorted ss)
unfolding sorted
sorted-filled [] h = h
sorted-filled (s ∷ ss) h = inserted (sorted ss)
  where
    inserted : (ts : List Span) → Filled (insert_span s ts)
    inserted [] = unfold insert_span in tt
    inserted (t ∷ ts) = go (not_above (span_key s) (span_key t)) refl
      where
        go : (b : Bool) → not_above (span_key s) (span_key t) ≡ b → Filled (insert_span s (t ∷ ts))
        go true e = unfold insert_span in rw (e, insert_span) (tt {0})
        go false e = unfold insert_span in rw (e, insert_span) (tt {0})

sorted-grouped : (d : Day) → Grouped d × NoSimple d → Grouped (map sorted_entry d) × NoSimple (map sorted_entry d)
sorted-grouped d h = (each d h.0, first d h.1)
  where
    other : (S : State) (d : Day) → Other S d → Other S (map sorted_entry d)
    other S [] k = tt
    other S (g ∷ gs) k = k

    each : (d : Day) → Grouped d → Grouped (map sorted_entry d)
    each [] k = tt
    each (g ∷ gs) k = (sorted-filled g.1 k.0, other g.0 gs k.1, each gs k.2)

    first : (d : Day) → NoSimple d → NoSimple (map sorted_entry d)
    first [] k = tt
    first (g ∷ gs) k = sorted-holds (λ s. simple s ≡ false) g.1 k

-- groups of consecutive equal state, taken apart and grouped again
joined-again : (S : State) (ss : List Span) (zs : List Stated) → Filled ss → Other S (by_state zs) → by_state (stated (S, ss) ++ zs) ≡ (S, ss) ∷ by_state zs
unfolding by_state join_group
joined-again S [] zs f h = absurd f
joined-again S (s ∷ []) zs f h = alone (by_state zs) h
  where
    alone : (d : Day) → Other S d → join_group (S, s) d ≡ (S, s ∷ []) ∷ d
    alone [] k = refl
    alone (g ∷ gs) k = rw (k, join_group)
joined-again S (s ∷ r ∷ ss) zs f h = ap (join_group (S, s)) (joined-again S (r ∷ ss) zs (tt {0}) h) ∙ rw (exact-state.self S, join_group)

state-again : (d : Day) → Grouped d → by_state (flattened d) ≡ d
unfolding flattened flat_map
state-again [] h = unfold by_state in refl
state-again (g ∷ gs) h =
    let ih : by_state (flattened gs) ≡ gs = state-again gs h.2 in
    joined-again g.0 g.1 (flattened gs) h.0 (subst (Other g.0) (sym ih) h.1) ∙ ap (g ∷◌) ih

run-own : (S : State) (ss : List Span) (zs : List Stated) → run_of S (stated (S, ss) ++ zs) ≡ ss ++ run_of S zs
unfolding run_of
run-own S [] zs = refl
run-own S (s ∷ ss) zs = rw (exact-state.self S, run_of) (ap (s ∷◌) (run-own S ss zs))

run-other : (S : State) (d : Day) → Grouped d → Other S d → (run_of S (flattened d) ≡ []) × (after_run S (flattened d) ≡ flattened d)
unfolding flattened flat_map run_of after_run
run-other S [] h o = (refl, refl)
run-other S (g ∷ gs) h o = go g.1 h.0
  where
    differs : same_state g.0 S ≡ false
    differs = exact-swap exact-state g.0 S ∙ o

    go : (ss : List Span) → Filled ss
        → (run_of S (stated (g.0, ss) ++ flattened gs) ≡ []) × (after_run S (stated (g.0, ss) ++ flattened gs) ≡ stated (g.0, ss) ++ flattened gs)
    go [] f = absurd f
    go (s ∷ ss) f = rw (differs, run_of, after_run) (refl, refl)

groups-again : (d : Day) → Grouped d × NoSimple d → (painting (flattened d) ≡ []) × (grouped (flattened d) ≡ d)
unfolding flattened flat_map painting grouped
groups-again [] h = (refl, refl)
groups-again (g ∷ gs) h = go g.1 h.0.0 h.1
  where
    S : State
    S = g.0

    go : (ss : List Span) → Filled ss → All (λ s. simple s ≡ false) ss
        → (painting (stated (S, ss) ++ flattened gs) ≡ []) × (grouped (stated (S, ss) ++ flattened gs) ≡ (S, ss) ∷ gs)
    go [] f n = absurd f
    go (s ∷ ss) f n = rw (n.0, painting, grouped) (
      ap (λ z. stated (S, keep simple z)) run ∙ ap (λ z. stated (S, z)) (keep-none simple ss (All-map (λ s e. sym e) ss n.1)),
      ap₂ (λ z w. (S, s ∷ keep (λ s. not (simple s)) z) ∷ by_state w) run after
          ∙ ap₂ (λ z w. (S, s ∷ z) ∷ w) (keep_all (λ s. not (simple s)) ss (All-map (λ s e. ap not (sym e)) ss n.1)) (state-again gs h.0.2),
    )
      where
        run : run_of S (stated (S, ss) ++ flattened gs) ≡ ss
        run = run-own S ss (flattened gs) ∙ ap (ss ++◌) (run-other S gs h.0.2 h.0.1).0 ∙ append-nil ss

        after : after_run S (stated (S, ss) ++ flattened gs) ≡ flattened gs
        after = after-stated S ss (flattened gs) ∙ (run-other S gs h.0.2 h.0.1).1

-- ## The day again
sorted-day-again : (d : Day) → map sorted_entry (map sorted_entry d) ≡ map sorted_entry d
sorted-day-again [] = refl
sorted-day-again (e ∷ d) = ap₂ (λ ss r. (e.0, ss) ∷ r) (sorted-again e.1) (sorted-day-again d)

list-again : (xs : List Stated) → day_of (flattened (day_of xs)) ≡ day_of xs
unfolding day_of
list-again xs =
    ap₂ (λ p g. painted_entries p ++ map sorted_entry g)
    (ap painting (flat_append A B) ∙ front.0 ∙ ap (flattened A ++◌) more.0 ∙ append-nil (flattened A))
    (ap grouped (flat_append A B) ∙ front.1 ∙ more.1)
    ∙ ap₂ ◌++◌ (painted-again (painting xs) (painting-simple xs)) (sorted-day-again (grouped xs))
  where
    A : Day
    A = painted_entries (painting xs)

    B : Day
    B = map sorted_entry (grouped xs)

    front : (painting (flattened A ++ flattened B) ≡ flattened A ++ painting (flattened B)) × (grouped (flattened A ++ flattened B) ≡ grouped (flattened B))
    front = front-paints (flattened A) (flattened B) (painted-simple (painting xs))

    more : (painting (flattened B) ≡ []) × (grouped (flattened B) ≡ B)
    more = groups-again B (sorted-grouped (grouped xs) (list-grouped xs))

entries-again : (d : Day) → map entry_of (as_rules d) ≡ d
entries-again [] = refl
entries-again (e ∷ d) = ap (e ∷◌) (rest d)
  where
    rest : (d : Day) → map entry_of (map (as_rule Additional) d) ≡ d
    rest [] = refl
    rest (e ∷ d) = ap (e ∷◌) (rest d)

-- THE DAY OF A DAY'S RULES IS THE DAY
pub day-again : (l : List Rule) → day (as_rules (day l)) ≡ day l
unfolding day
day-again l = ap (λ d. day_of (flattened d)) (entries-again (day l)) ∙ list-again (flattened (map entry_of l))
