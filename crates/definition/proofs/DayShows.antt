-- The core of demand 3: for any choice of the minutes that non-simple spans cover, the last covering span of a day says at each minute what the
-- last covering span of its list says, plain Closed where none covers. Rests on the law that the painted entries show the painting.
use mathlib.Core.Path.{◌≡◌, refl, sym, ap, ap₂, ◌∙◌}
use mathlib.Core.List.{List, [], ◌∷◌, ◌++◌, map, flat_map}
use mathlib.Core.Bool.{Bool, true, false, ◌||◌, not, cond}
use Prim.Native.Nat.{ℕ, ◌<◌}
use Rattle.laws.specs.Lists.{keep, any_of}
use Rattle.laws.proofs.Flags.{or_assoc}
use Rattle.definition.specs.Rule.{State, closed, same_state, Span, span_key, not_above, insert_span, sorted, Rule}
use Rattle.definition.specs.Day.{Stated, Day, simple, within, stated, flattened, run_of, after_run, painting, join_group, by_state, grouped, last_over, sorted_entry, painted_entries, day_of, entry_of, day}
use Rattle.definition.specs.Saying.{Cover}
use Rattle.definition.proofs.Same.{exact-state}
use Rattle.definition.proofs.PaintedShows.{last-append, last_one, flat_append, last-painted}

or_swap : (a b c : Bool) → a || (b || c) ≡ b || (a || c)
or_swap true true c = refl
or_swap true false c = refl
or_swap false b c = refl

-- ## Sorting a group changes nothing
module _ (covers : Span → ℕ → Bool) (m : ℕ) where
  any-insert : (s : Span) (ts : List Span) → any_of (λ t. covers t m) (insert_span s ts) ≡ covers s m || any_of (λ t. covers t m) ts
  unfolding any_of insert_span
  any-insert s [] = refl
  any-insert s (t ∷ ts) = go (not_above (span_key s) (span_key t)) refl (any-insert s ts)
    where
      go : (v : Bool) → not_above (span_key s) (span_key t) ≡ v → any_of (λ t. covers t m) (insert_span s ts) ≡ covers s m || any_of (λ t. covers t m) ts
          → any_of (λ t. covers t m) (insert_span s (t ∷ ts)) ≡ covers s m || (covers t m || any_of (λ t. covers t m) ts)
      go true e ih = rw (e, insert_span)
      go false e ih = rw (e, insert_span, ih) (or_swap (covers t m) (covers s m) (any_of (λ t. covers t m) ts))

  any-sorted : (ss : List Span) → any_of (λ t. covers t m) (sorted ss) ≡ any_of (λ t. covers t m) ss
  unfolding any_of sorted
  any-sorted [] = refl
  any-sorted (s ∷ ss) = any-insert s (sorted ss) ∙ ap (covers s m ||◌) (any-sorted ss)

  last-sorted : (S : State) (gs : Day) → last_over covers S (flattened (map sorted_entry gs)) m ≡ last_over covers S (flattened gs) m
  unfolding flattened flat_map
  last-sorted S [] = refl
  last-sorted S (g ∷ gs) =
      last-append covers m S (stated (g.0, sorted g.1)) (flattened (map sorted_entry gs))
      ∙ ap (λ R. last_over covers R (flattened (map sorted_entry gs)) m)
      (last_one covers m g.0 S (sorted g.1) ∙ ap (λ b. cond b g.0 S) (any-sorted g.1) ∙ sym (last_one covers m g.0 S g.1))
      ∙ last-sorted (last_over covers S (stated g) m) gs
      ∙ sym (last-append covers m S (stated g) (flattened gs))

-- ## Groups of consecutive equal state have the spans in their order
flat-join : (x : Stated) (gs : Day) → flattened (join_group x gs) ≡ x ∷ flattened gs
unfolding join_group flattened flat_map
flat-join x [] = refl
flat-join x (g ∷ gs) = go (same_state x.0 g.0) refl
  where
    go : (b : Bool) → same_state x.0 g.0 ≡ b → flattened (join_group x (g ∷ gs)) ≡ x ∷ flattened (g ∷ gs)
    go true e = rw (e, join_group) (ap (λ S. x ∷ stated (S, g.1) ++ flattened gs) (exact-state.equal x.0 g.0 e))
    go false e = rw (e, join_group)

pub flat-by_state : (xs : List Stated) → flattened (by_state xs) ≡ xs
unfolding by_state flattened
flat-by_state [] = unfold flat_map in refl
flat-by_state (x ∷ xs) = flat-join x (by_state xs) ∙ ap (x ∷◌) (flat-by_state xs)

pub run-after : (S : State) (xs : List Stated) → stated (S, run_of S xs) ++ after_run S xs ≡ xs
unfolding run_of after_run
run-after S [] = refl
run-after S (x ∷ xs) = go (same_state x.0 S) refl (run-after S xs)
  where
    go : (b : Bool) → same_state x.0 S ≡ b → stated (S, run_of S xs) ++ after_run S xs ≡ xs → stated (S, run_of S (x ∷ xs)) ++ after_run S (x ∷ xs) ≡ x ∷ xs
    go true e ih = rw (e, run_of, after_run) (ap₂ ◌∷◌ (λ i. (sym (exact-state.equal x.0 S e) i, x.1)) ih)
    go false e ih = rw (e, run_of, after_run)

module _ (c : Cover) (m : ℕ) where
  abbrev hit : List Span → Bool
  hit = any_of (λ s. c.covers s m)

  -- the simple spans of a run paint, the others cover
  run-split : (ss : List Span) → hit (keep (λ s. not (simple s)) ss) || any_of (λ s. within s m) (keep simple ss) ≡ hit ss
  unfolding keep any_of
  run-split [] = refl
  run-split (s ∷ ss) = go (simple s) refl (run-split ss)
    where
      go : (v : Bool) → simple s ≡ v → hit (keep (λ s. not (simple s)) ss) || any_of (λ s. within s m) (keep simple ss) ≡ hit ss
          → hit (keep (λ s. not (simple s)) (s ∷ ss)) || any_of (λ s. within s m) (keep simple (s ∷ ss)) ≡ c.covers s m || hit ss
      go true e ih = rw (e, keep, ← ih, c.on_simple s e m)
          (or_swap (hit (keep (λ s. not (simple s)) ss)) (within s m) (any_of (λ s. within s m) (keep simple ss)))
      go false e ih = rw (e, keep, ← ih) (or_assoc (c.covers s m) (hit (keep (λ s. not (simple s)) ss)) (any_of (λ s. within s m) (keep simple ss)))

  last-grouped : (S : State) (xs : List Stated)
      → last_over c.covers (last_over within S (painting xs) m) (flattened (grouped xs)) m ≡ last_over c.covers S xs m
  unfolding painting grouped last_over flattened flat_map any_of
  last-grouped S [] = refl
  last-grouped S (x ∷ xs) = go (simple x.1) refl (λ R. last-grouped R xs)
    where
      go : (v : Bool) → simple x.1 ≡ v
          → ((R : State) → last_over c.covers (last_over within R (painting xs) m) (flattened (grouped xs)) m ≡ last_over c.covers R xs m)
          → last_over c.covers (last_over within S (painting (x ∷ xs)) m) (flattened (grouped (x ∷ xs))) m ≡ last_over c.covers S (x ∷ xs) m
      go true e ih = rw (e, painting, grouped, c.on_simple x.1 e m) (ih (cond (within x.1 m) x.0 S))
      go false e ih = rw (e, painting, grouped) (left ∙ sym right)
        where
          S₀ : State
          S₀ = x.0

          rs : List Span
          rs = run_of S₀ xs

          ns : List Span
          ns = keep (λ s. not (simple s)) rs

          ps : List Span
          ps = keep simple rs

          left : last_over c.covers (last_over within S (stated (S₀, ps)) m) (stated (S₀, x.1 ∷ ns) ++ flattened (by_state (after_run S₀ xs))) m
              ≡ last_over c.covers (cond (c.covers x.1 m || hit rs) S₀ S) (after_run S₀ xs) m
          left = last-append c.covers m (last_over within S (stated (S₀, ps)) m) (stated (S₀, x.1 ∷ ns)) (flattened (by_state (after_run S₀ xs)))
              ∙ ap₂ (λ R ys. last_over c.covers R ys m) state (flat-by_state (after_run S₀ xs))
            where
              both : (p q r : Bool) → cond (p || q) S₀ (cond r S₀ S) ≡ cond (p || (q || r)) S₀ S
              both true q r = refl
              both false true r = refl
              both false false r = refl

              state : last_over c.covers (last_over within S (stated (S₀, ps)) m) (stated (S₀, x.1 ∷ ns)) m ≡ cond (c.covers x.1 m || hit rs) S₀ S
              state = ap (λ R. last_over c.covers R (stated (S₀, x.1 ∷ ns)) m) (last_one within m S₀ S ps)
                  ∙ last_one c.covers m S₀ (cond (any_of (λ s. within s m) ps) S₀ S) (x.1 ∷ ns)
                  ∙ both (c.covers x.1 m) (hit ns) (any_of (λ s. within s m) ps)
                  ∙ ap (λ b. cond (c.covers x.1 m || b) S₀ S) (run-split rs)

          right : last_over c.covers S (x ∷ xs) m ≡ last_over c.covers (cond (c.covers x.1 m || hit rs) S₀ S) (after_run S₀ xs) m
          right = ap (λ ys. last_over c.covers S (x ∷ ys) m) (sym (run-after S₀ xs))
              ∙ last-append c.covers m S (stated (S₀, x.1 ∷ rs)) (after_run S₀ xs)
              ∙ ap (λ R. last_over c.covers R (after_run S₀ xs) m) (last_one c.covers m S₀ S (x.1 ∷ rs))

-- A DAY SAYS WHAT ITS LIST SAYS
pub day-shows : (c : Cover) (l : List Rule) (m : ℕ) → m < 1440
    → last_over c.covers closed (flattened (day l)) m ≡ last_over c.covers closed (flattened (map entry_of l)) m
unfolding day day_of
day-shows c l m small =
    ap (λ ys. last_over c.covers closed ys m) (flat_append (painted_entries (painting xs)) (map sorted_entry (grouped xs)))
    ∙ last-append c.covers m closed (flattened (painted_entries (painting xs))) (flattened (map sorted_entry (grouped xs)))
    ∙ last-sorted c.covers m (last_over c.covers closed (flattened (painted_entries (painting xs))) m) (grouped xs)
    ∙ ap (λ R. last_over c.covers R (flattened (grouped xs)) m) (last-painted c m small (painting xs))
    ∙ last-grouped c m closed xs
  where
    xs : List Stated
    xs = flattened (map entry_of l)
