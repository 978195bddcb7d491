-- What strokes mean: the painting of a list, and what it shows.
use mathlib.Core.Path.{◌≡◌, refl, sym, ap, ap₂, ◌∙◌}
use mathlib.Core.List.{List, [], ◌∷◌, map}
use mathlib.Core.Bool.{Bool, true, false, ◌&&◌, cond}
use Prim.Native.Nat.{ℕ, zero, suc, ◌+◌, ◌*◌, ◌/◌, ◌%◌}
use native.Mathlib.Omega.{arith}
use lib.Dec.{eqb, leb, ltb}
use lib.ListN.{get_or}
use borrow.Author.Tests.{lt-ltb, eqb-true}
use Rattle.laws.specs.Lists.{keep}
use Rattle.definition.specs.Day.{Stated, simple, within, stated, run_of, painting, last_over, plain_span}
use Rattle.codes.specs.Number.{state_coded, span_at, time_at, repeats_at}
use Rattle.codes.proofs.Numbers.{same-states}
use Rattle.codes.proofs.Laws.{simple-bounds}
use Rattle.words.specs.Words.{part}
use Rattle.day_paint.specs.Stroke.{stroke_number, stroke_state, stroke_start, stroke_end, strokes_of_run, strokes_from, stroke_over, shown}
use Rattle.day_flat.specs.Day.{pairs}

abbrev pub stroke_at : ℕ → Stated
stroke_at n = (state_coded (stroke_state n), plain_span (stroke_start n, stroke_end n))

-- a simple span is the plain one of its minutes
plain-span : (p : ℕ) → simple (span_at p) ≡ true → span_at p ≡ plain_span (p / 8589934592, p / 16384 % 524288)
unfolding span_at time_at repeats_at
plain-span p h =
    let k = simple-bounds p h in
    let f : p / 8192 % 2 ≡ 0 = omega (arith, k.2) in
    let r : p % 8192 ≡ 0 = omega (arith, k.2) in
    rw (lt-ltb (p / 8589934592) 262144 (omega (arith, k.0, k.1)), lt-ltb (p / 16384 % 524288) 262144 (omega (arith, k.1)), f, r)

stroke-back : (x p : ℕ) → simple (span_at p) ≡ true → stroke_at (stroke_number x p) ≡ (state_coded x, span_at p)
unfolding stroke_number
stroke-back x p h =
    let k = simple-bounds p h in
    let a : (x * 4194304 + p / 8589934592 * 2048 + p / 16384 % 524288) / 4194304 ≡ x = omega (arith, k.0, k.1) in
    let b : (x * 4194304 + p / 8589934592 * 2048 + p / 16384 % 524288) / 2048 % 2048 ≡ p / 8589934592 = omega (arith, k.0, k.1) in
    let c : (x * 4194304 + p / 8589934592 * 2048 + p / 16384 % 524288) % 2048 ≡ p / 16384 % 524288 = omega (arith, k.0, k.1) in
    λ i. (ap state_coded a i, (ap₂ (λ v w. plain_span (v, w)) b c ∙ sym (plain-span p h)) i)

-- ## The painting
run-strokes : (xs ps : List ℕ) (S i r : ℕ)
    → map stroke_at (strokes_of_run xs ps S i r) ≡ stated (state_coded S, keep simple (run_of (state_coded S) (pairs (part xs i r) (part ps i r))))
unfolding strokes_of_run part pairs run_of keep
run-strokes xs ps S i zero = refl
run-strokes xs ps S i (suc r) = go (eqb (get_or xs i 0) S) refl (simple (span_at (get_or ps i 0))) refl (run-strokes xs ps S (i + 1) r)
  where
    go : (a : Bool) → eqb (get_or xs i 0) S ≡ a → (b : Bool) → simple (span_at (get_or ps i 0)) ≡ b
        → map stroke_at (strokes_of_run xs ps S (i + 1) r) ≡ stated (state_coded S, keep simple (run_of (state_coded S) (pairs (part xs (i + 1) r) (part ps (i + 1) r))))
        → map stroke_at (strokes_of_run xs ps S i (suc r))
        ≡ stated (
          state_coded S,
          keep simple
              (run_of (state_coded S) ((state_coded (get_or xs i 0), span_at (get_or ps i 0)) ∷ pairs (part xs (i + 1) r) (part ps (i + 1) r))),
        )
    go false e b f ih = rw (e, strokes_of_run, same-states (get_or xs i 0) S ∙ e, run_of)
    go true e true f ih =
        rw (e, strokes_of_run, f, strokes_of_run, same-states (get_or xs i 0) S ∙ e, run_of, f, keep)
        (ap₂ ◌∷◌ (stroke-back (get_or xs i 0) (get_or ps i 0) f ∙ ap (λ s. (state_coded s, span_at (get_or ps i 0))) (eqb-true (get_or xs i 0) S e)) ih)
    go true e false f ih = rw (e, strokes_of_run, f, strokes_of_run, same-states (get_or xs i 0) S ∙ e, run_of, f, keep) ih

pub strokes-paint : (xs ps : List ℕ) (i r : ℕ) → map stroke_at (strokes_from xs ps i r) ≡ painting (pairs (part xs i r) (part ps i r))
unfolding strokes_from part pairs painting
strokes-paint xs ps i zero = refl
strokes-paint xs ps i (suc r) = go (simple (span_at (get_or ps i 0))) refl (strokes-paint xs ps (i + 1) r)
  where
    go : (b : Bool) → simple (span_at (get_or ps i 0)) ≡ b → map stroke_at (strokes_from xs ps (i + 1) r) ≡ painting (pairs (part xs (i + 1) r) (part ps (i + 1) r))
        → map stroke_at (strokes_from xs ps i (suc r)) ≡ painting ((state_coded (get_or xs i 0), span_at (get_or ps i 0)) ∷ pairs (part xs (i + 1) r) (part ps (i + 1) r))
    go true e ih = rw (e, strokes_from, painting) (ap₂ ◌∷◌ (stroke-back (get_or xs i 0) (get_or ps i 0) e) ih)
    go false e ih = rw (e, strokes_from, painting) (run-strokes xs ps (get_or xs i 0) (i + 1) r)

-- ## What is shown
pub shown-mean : (S : ℕ) (strokes : List ℕ) (m : ℕ) → state_coded (shown S strokes m) ≡ last_over within (state_coded S) (map stroke_at strokes) m
unfolding shown last_over stroke_over
shown-mean S [] m = refl
shown-mean S (x ∷ xs) m =
    shown-mean (stroke_over x m S) xs m ∙ ap (λ R. last_over within R (map stroke_at xs) m) (go (leb (stroke_start x) m && ltb m (stroke_end x)))
  where
    go : (b : Bool) → state_coded (cond b (stroke_state x) S) ≡ cond b (state_coded (stroke_state x)) (state_coded S)
    go true = refl
    go false = refl
