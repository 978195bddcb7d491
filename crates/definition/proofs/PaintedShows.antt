-- The painted entries of a day show at each minute the state that its painting shows there.
-- Rests on grid's laws that the groups give the map back and do not meet.
use mathlib.Core.Path.{◌≡◌, refl, sym, ap, ◌∙◌}
use mathlib.Core.List.{List, [], ◌∷◌, ◌++◌, map, flat_map, append_assoc}
use mathlib.Core.Bool.{Bool, true, false, ◌||◌, cond, true≢false}
use Prim.Native.Nat.{ℕ, suc, ◌≤◌, ◌<◌}
use native.Mathlib.Omega.{arith}
use lib.Dec.{eqb}
use borrow.Author.Tests.{eqb-true, eqb-false, eq-eqb, lt-ltb, le-leb}
use Rattle.laws.specs.Lists.{any_of, All}
use Rattle.laws.proofs.Flags.{or_assoc, or_left, or_right, same_flag_lem, both-and, and-true}
use Rattle.laws.proofs.Lists.{All-keep}
use Rattle.laws.proofs.Numbers.{from-inside, All-from}
use Rattle.laws.proofs.Tests.{exact-eqb}
use Rattle.grid.specs.Group.{Group, inside, groups}
use Rattle.grid.specs.Cut.{Range, holds, coordinates, glue, runs, as_runs}
use Rattle.grid.proofs.Cut.{holds-in, in-holds}
use Rattle.grid.proofs.Part.{Part, groups-part}
use Rattle.grid.proofs.Cover.{found, Separate, groups-found, groups-separate}
use Rattle.definition.specs.Rule.{Kind, Open, Closed, Unknown, State, closed, same_state, Span}
use Rattle.definition.specs.Day.{Stated, Day, simple, within, stated, flattened, last_over, state_classes, minute_bounds, painted, plain_span, minute_runs, as_entry, painted_entries}
use Rattle.definition.specs.Saying.{Cover}
use Rattle.definition.proofs.Same.{exact-state}

-- ## The last covering span along a list
module _ (covers : Span → ℕ → Bool) (m : ℕ) where
  pub last-append : (S : State) (xs ys : List Stated) → last_over covers S (xs ++ ys) m ≡ last_over covers (last_over covers S xs m) ys m
  unfolding last_over
  last-append S [] ys = refl
  last-append S (x ∷ xs) ys = last-append (cond (covers x.1 m) x.0 S) xs ys

  -- spans of one state
  pub last_one : (S R : State) (ss : List Span) → last_over covers R (stated (S, ss)) m ≡ cond (any_of (λ s. covers s m) ss) S R
  unfolding last_over any_of
  last_one S R [] = refl
  last_one S R (s ∷ ss) = last_one S (cond (covers s m) S R) ss ∙ go (covers s m) (any_of (λ s. covers s m) ss)
    where
      go : (a b : Bool) → cond b S (cond a S R) ≡ cond (a || b) S R
      go true true = refl
      go true false = refl
      go false b = refl

pub flat_append : (gs hs : Day) → flattened (gs ++ hs) ≡ flattened gs ++ flattened hs
unfolding flattened flat_map
flat_append [] hs = refl
flat_append (g ∷ gs) hs = ap (stated g ++◌) (flat_append gs hs) ∙ sym (append_assoc (stated g) (flattened gs) (flattened hs))

-- ## Runs hold the minutes that they are made of
holds-join : (m x e : ℕ) → x < e → holds m (x, e) ≡ eqb m x || holds m (suc x, e)
holds-join m x e h = same_flag_lem _ _ (λ t. to (holds-in m (x, e) t) (eqb m x) refl) back
  where
    to : (x ≤ m) × (m < e) → (b : Bool) → eqb m x ≡ b → eqb m x || holds m (suc x, e) ≡ true
    to k true q = or_left (eqb m x) _ q
    to k false q = or_right (eqb m x) _ (in-holds m (suc x, e) (omega (arith, eqb-false m x q, k.0)) k.1)

    back : eqb m x || holds m (suc x, e) ≡ true → holds m (x, e) ≡ true
    back t = go (eqb m x) refl
      where
        go : (b : Bool) → eqb m x ≡ b → holds m (x, e) ≡ true
        go true q = in-holds m (x, e) (omega (arith, eqb-true m x q)) (omega (arith, eqb-true m x q))
        go false q = let k = holds-in m (suc x, e) (rw q at t) in in-holds m (x, e) (omega arith) (omega arith)

holds-one : (m x : ℕ) → holds m (x, suc x) ≡ eqb m x
holds-one m x = same_flag_lem _ _ (λ t. let k = holds-in m (x, suc x) t in eq-eqb m x (omega arith))
    (λ t. let k = eqb-true m x t in in-holds m (x, suc x) (omega arith) (omega arith))

-- a run within the day
abbrev pub ProperRun : Range → Type 0
ProperRun r = (r.0 < r.1) × (r.1 ≤ 1440)

glue-proper : (x : ℕ) (rs : List Range) → x < 1440 → All ProperRun rs → All ProperRun (glue (x, suc x) rs)
unfolding glue
glue-proper x [] h a = ((omega arith, omega arith), tt)
glue-proper x (j ∷ rs) h a = go (eqb (suc x) j.0) refl
  where
    go : (b : Bool) → eqb (suc x) j.0 ≡ b → All ProperRun (glue (x, suc x) (j ∷ rs))
    go true e = rw (e, glue) ((omega (arith, eqb-true (suc x) j.0 e, a.0), a.0.1), a.1)
    go false e = rw (e, glue) ((omega arith, omega arith), a)

pub runs-proper : (xs : List ℕ) → All (λ x. x < 1440) xs → All ProperRun (runs xs)
unfolding runs
runs-proper [] h = tt
runs-proper (x ∷ xs) h = glue-proper x (runs xs) h.0 (runs-proper xs h.1)

glue-holds : (m x : ℕ) (rs : List Range) → All ProperRun rs → any_of (holds m) (glue (x, suc x) rs) ≡ eqb m x || any_of (holds m) rs
unfolding glue any_of
glue-holds m x [] a = rw (holds-one m x)
glue-holds m x (j ∷ rs) a = go (eqb (suc x) j.0) refl
  where
    go : (b : Bool) → eqb (suc x) j.0 ≡ b → any_of (holds m) (glue (x, suc x) (j ∷ rs)) ≡ eqb m x || (holds m j || any_of (holds m) rs)
    go true e = rw (e, glue, holds-join m x j.1 (omega (arith, eqb-true (suc x) j.0 e, a.0)), eqb-true (suc x) j.0 e)
        (or_assoc (eqb m x) (holds m j) (any_of (holds m) rs))
    go false e = rw (e, glue, holds-one m x)

pub runs-hold : (m : ℕ) (xs : List ℕ) → All (λ x. x < 1440) xs → any_of (holds m) (runs xs) ≡ any_of (eqb m) xs
unfolding runs any_of
runs-hold m [] h = refl
runs-hold m (x ∷ xs) h = glue-holds m x (runs xs) (runs-proper xs h.1) ∙ ap (eqb m x ||◌) (runs-hold m xs h.1)

pub minutes-below : All (λ x. x < 1440) (coordinates minute_bounds)
minutes-below = All-from (λ x. x < 1440) 0 1440 (λ b l k. omega arith)

pub plain-simple : (r : Range) → ProperRun r → simple (plain_span r) ≡ true
unfolding simple
plain-simple r h = rw (lt-ltb r.0 r.1 h.0, le-leb r.1 1440 h.1)

module _ (c : Cover) (m : ℕ) where
  plain-cover : (rs : List Range) → All ProperRun rs → any_of (λ s. c.covers s m) (map plain_span rs) ≡ any_of (holds m) rs
  unfolding any_of
  plain-cover [] a = refl
  plain-cover (r ∷ rs) a = rw (c.on_simple (plain_span r) (plain-simple r a.0) m, plain-cover rs a.1)

  -- one painted entry
  entry-shows : (R : State) (g : Group ℕ State) → Part (coordinates minute_bounds ∷ []) g.1
      → last_over c.covers R (stated (as_entry (as_runs g))) m ≡ cond (inside eqb g.1 (m ∷ [])) g.0 R
  unfolding inside
  entry-shows R g p = go g.1 p
    where
      go : (S : List (List ℕ)) → Part (coordinates minute_bounds ∷ []) S
          → last_over c.covers R (stated (g.0, map plain_span (minute_runs (map runs S)))) m ≡ cond (inside eqb S (m ∷ [])) g.0 R
      go [] k = absurd k
      go (E ∷ []) k =
          last_one c.covers m g.0 R (map plain_span (runs E))
          ∙ ap (λ b. cond b g.0 R) (plain-cover (runs E) (runs-proper E below) ∙ runs-hold m E below ∙ sym (and-true (any_of (eqb m) E)))
        where
          below : All (λ x. x < 1440) E
          below = rw k.0.1 (All-keep (λ x. x < 1440) k.0.0 (coordinates minute_bounds) minutes-below)
      go (E ∷ F ∷ S) k = absurd k.1

  found-avoid : (R : State) (gs : List (Group ℕ State)) → All (λ g. inside eqb g.1 (m ∷ []) ≡ false) gs → found eqb R gs (m ∷ []) ≡ R
  unfolding found
  found-avoid R [] a = refl
  found-avoid R (g ∷ gs) a = rw a.0 (found-avoid R gs a.1)

  entries-show : (R : State) (gs : List (Group ℕ State)) → All (λ g. Part (coordinates minute_bounds ∷ []) g.1) gs
      → Separate exact-state exact-eqb closed (coordinates minute_bounds ∷ []) gs
      → last_over c.covers R (flattened (map as_entry (map as_runs gs))) m ≡ found eqb R gs (m ∷ [])
  unfolding found flattened flat_map last_over
  entries-show R [] p s = refl
  entries-show R (g ∷ gs) p s =
      last-append c.covers m R (stated (as_entry (as_runs g))) (flattened (map as_entry (map as_runs gs)))
      ∙ ap (λ Q. last_over c.covers Q (flattened (map as_entry (map as_runs gs))) m) (entry-shows R g p.0)
      ∙ entries-show (cond (inside eqb g.1 (m ∷ [])) g.0 R) gs p.1 s.1
      ∙ go (inside eqb g.1 (m ∷ [])) refl
    where
      go : (b : Bool) → inside eqb g.1 (m ∷ []) ≡ b → found eqb (cond b g.0 R) gs (m ∷ []) ≡ cond b g.0 (found eqb R gs (m ∷ []))
      go true e = found-avoid g.0 gs (s.0 (m ∷ []) e)
      go false e = refl

pub classes-closed : All (λ ok. ok closed ≡ false) state_classes
classes-closed = (refl, (refl, (refl, (refl, (refl, tt)))))

-- a state of no painted class is plain Closed
no-class : (S : State) → All (λ ok. ok S ≡ false) state_classes → S ≡ closed
no-class S h = go S.kind (eqb S.comment 0) refl refl
  where
    go : (k : Kind) (b : Bool) → S.kind ≡ k → eqb S.comment 0 ≡ b → S ≡ closed
    go Open true p q = absurd (true≢false (rw (p, q) at h.0))
    go Open false p q = absurd (true≢false (rw (p, q) at h.1.0))
    go Unknown true p q = absurd (true≢false (rw (p, q) at h.1.1.0))
    go Unknown false p q = absurd (true≢false (rw (p, q) at h.1.1.1.0))
    go Closed true p q = λ i. record { kind = p i; comment = eqb-true S.comment 0 q i }
    go Closed false p q = absurd (true≢false (rw (p, q) at h.1.1.1.1.0))

-- THE PAINTED ENTRIES SHOW THE PAINTING
pub last-painted : (c : Cover) (m : ℕ) → m < 1440 → (xs : List Stated)
    → last_over c.covers closed (flattened (painted_entries xs)) m ≡ last_over within closed xs m
unfolding painted_entries inside
last-painted c m small xs =
    entries-show c m closed gs (groups-part same_state eqb closed (coordinates minute_bounds ∷ []) state_classes (painted xs))
    (groups-separate exact-state exact-eqb closed (coordinates minute_bounds ∷ []) state_classes classes-closed (painted xs))
    ∙ groups-found exact-state exact-eqb closed (coordinates minute_bounds ∷ []) state_classes classes-closed (painted xs) (m ∷ [])
    (both-and (any_of (eqb m) (coordinates minute_bounds)) true (from-inside m 0 1440 (omega arith) (omega arith)) refl)
    (no-class (last_over within closed xs m))
  where
    gs : List (Group ℕ State)
    gs = groups same_state eqb closed state_classes (coordinates minute_bounds ∷ []) (painted xs)
