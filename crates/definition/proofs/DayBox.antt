-- A day over minutes is the day over the intervals between its spans' ends: the compression law in one dimension.
use mathlib.Core.Path.{◌≡◌, refl, ap, ◌∙◌}
use mathlib.Core.List.{List, [], ◌∷◌, ◌++◌, map}
use mathlib.Core.Bool.{Bool, true, false, ◌&&◌, not, cond, false≢true}
use Prim.Native.Nat.{ℕ, ◌≤◌, ◌<◌}
use native.Mathlib.Omega.{arith}
use lib.Dec.{leb, ltb}
use borrow.Author.Tests.{ltb-true, leb-true}
use Rattle.laws.specs.Lists.{keep, All}
use Rattle.laws.proofs.Flags.{split-and}
use Rattle.grid.proofs.Cut.{Inside, Marks}
use Rattle.grid.proofs.Box.{SameMarks, groups-boxes}
use Rattle.definition.specs.Rule.{midnight24, State, closed, Time, fixed, variable, Span, Rule}
use Rattle.definition.specs.Day.{Stated, simple, no_repeats, fixed_within_day, minutes_of, minute_bounds, within, stated, run_of, painting, grouped, sorted_entry, last_over, state_classes, painted, as_entry, painted_entries, day_of, entry_of, flattened, day}
use Rattle.definition.specs.OverBoxes.{span_ranges, painted_over_intervals, day_over_intervals}
use Rattle.definition.proofs.Same.{exact-state}

-- ## Only simple spans paint
abbrev pub Simple : List Stated → Type 0
Simple = All (λ x. simple x.1 ≡ true)

pub painting-simple : (xs : List Stated) → Simple (painting xs)
unfolding painting keep
painting-simple [] = tt
painting-simple (x ∷ xs) = go (simple x.1) refl (painting-simple xs)
  where
    kept : (ss : List Span) → Simple (stated (x.0, keep simple ss))
    kept [] = tt
    kept (s ∷ ss) = pick (simple s) refl (kept ss)
      where
        pick : (b : Bool) → simple s ≡ b → Simple (stated (x.0, keep simple ss)) → Simple (stated (x.0, keep simple (s ∷ ss)))
        pick true e ih = rw (e, keep) (e, ih)
        pick false e ih = rw (e, keep) ih

    go : (b : Bool) → simple x.1 ≡ b → Simple (painting xs) → Simple (painting (x ∷ xs))
    go true e ih = rw (e, painting) (e, ih)
    go false e ih = rw (e, painting) (kept (run_of x.0 xs))

-- a simple span lies within the day
pub simple-inside : (s : Span) → simple s ≡ true → ((minutes_of s).0 < (minutes_of s).1) × ((minutes_of s).1 ≤ midnight24)
unfolding simple
simple-inside s h = go s.start s.end refl refl (split-and (fixed_within_day s.start s.end) (not s.open_end && no_repeats s.repeats) h).0
  where
    go : (a b : Time) → s.start ≡ a → s.end ≡ b → fixed_within_day s.start s.end ≡ true
        → ((minutes_of s).0 < (minutes_of s).1) × ((minutes_of s).1 ≤ midnight24)
    go (fixed m) (fixed n) p q f =
        rw (p, q) (let k = split-and (ltb m n) (leb n midnight24) (rw (p, q) at f) in (ltb-true m n k.0, leb-true n midnight24 k.1))
    go (fixed m) (variable e o) p q f = absurd (false≢true (rw (p, q) at f))
    go (variable e o) b p q f = absurd (false≢true (rw p at f))

-- ## Painting goes by marks
last-marks : (S : State) (xs : List Stated) (m n : ℕ) → Marks (map (λ x. minutes_of x.1) xs) m n → last_over within S xs m ≡ last_over within S xs n
unfolding last_over
last-marks S [] m n k = refl
last-marks S (x ∷ xs) m n k = last-marks (cond (within x.1 m) x.0 S) xs m n k.1 ∙ ap (λ b. last_over within (cond b x.0 S) xs n) k.0

-- THE DAY OVER MINUTES
pub painted-intervals : (xs : List Stated) → Simple xs → painted_entries xs ≡ painted_over_intervals xs
unfolding painted_entries painted_over_intervals
painted-intervals xs h =
    ap (map as_entry)
    (groups-boxes (minute_bounds ∷ []) (omega arith, tt) (span_ranges xs) (inside xs h, tt) exact-state closed state_classes
    (refl, (refl, (refl, (refl, (refl, tt))))) (painted xs) by-marks)
  where
    inside : (ys : List Stated) → Simple ys → All (Inside minute_bounds) (map (λ x. minutes_of x.1) ys)
    inside [] k = tt
    inside (y ∷ ys) k = (let s = simple-inside y.1 k.0 in omega arith, inside ys k.1)

    by-marks : (p q : List ℕ) → SameMarks (span_ranges xs) p q → painted xs p ≡ painted xs q
    by-marks [] [] k = refl
    by-marks [] (n ∷ q) k = absurd k
    by-marks (m ∷ p) [] k = absurd k
    by-marks (m ∷ p) (n ∷ q) k = last-marks closed xs m n k.0

pub day-intervals : (l : List Rule) → day l ≡ day_over_intervals l
unfolding day day_of day_over_intervals
day-intervals l =
    let xs = flattened (map entry_of l) in
    ap (◌++ map sorted_entry (grouped xs)) (painted-intervals (painting xs) (painting-simple xs))
