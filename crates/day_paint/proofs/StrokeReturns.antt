-- One lemma for each return of the functions that choose the strokes of a list.
use mathlib.Core.Path.{◌≡◌, sym, ap, ◌∙◌}
use mathlib.Core.List.{List, ◌∷◌}
use mathlib.Core.Bool.{true, false}
use Prim.Native.Nat.{ℕ, ◌+◌, ◌*◌, ◌-◌, ◌/◌, ◌%◌, ◌≤◌, ◌<◌}
use native.Mathlib.Omega.{arith}
use lib.ListN.{get_or, set}
use borrow.Author.Tests.{eq-eqb, ne_eqb}
use Rattle.definition.specs.Day.{simple}
use Rattle.codes.specs.Number.{span_at}
use Rattle.day_paint.specs.Stroke.{stroke_number, strokes_of_run, strokes_from}
use Rattle.words.proofs.Sets.{Laid, none-laid, same-laid, one-laid, left_in, left-none}

-- whatever lays the rest lays the whole
abbrev pub Finishes : List ℕ → ℕ → List ℕ → List ℕ → ℕ → List ℕ → Type 0
Finishes s k rest s₀ k₀ words = (t : List ℕ) (r : ℕ) → Laid s t k r rest → Laid s₀ t k₀ r words

module _ (xs ps : List ℕ) (q t : List ℕ) (k r i n : ℕ) where
  module _ (S : ℕ) where
    pub run-paints : i < n → get_or xs i 0 ≡ S → simple (span_at (get_or ps i 0)) ≡ true → (x : ℕ) → x ≡ stroke_number (get_or xs i 0) (get_or ps i 0)
        → Laid (set q k x) t (k + 1) r (strokes_of_run xs ps S (i + 1) (n - (i + 1))) → Laid q t k r (strokes_of_run xs ps S i (n - i))
    unfolding strokes_of_run
    run-paints h e s x f l =
        same-laid q t k r _ (x ∷ strokes_of_run xs ps S (i + 1) (n - (i + 1)))
        (ap (strokes_of_run xs ps S i) (left_in i n h) ∙ rw (eq-eqb (get_or xs i 0) S e, strokes_of_run, s, strokes_of_run)
        (ap (◌∷ strokes_of_run xs ps S (i + 1) (n - (i + 1))) (sym f)))
        (one-laid q t k r x (strokes_of_run xs ps S (i + 1) (n - (i + 1))) l)

    pub run-skips : i < n → get_or xs i 0 ≡ S → simple (span_at (get_or ps i 0)) ≡ false
        → Laid q t k r (strokes_of_run xs ps S (i + 1) (n - (i + 1))) → Laid q t k r (strokes_of_run xs ps S i (n - i))
    unfolding strokes_of_run
    run-skips h e s l =
        same-laid q t k r _ (strokes_of_run xs ps S (i + 1) (n - (i + 1)))
        (ap (strokes_of_run xs ps S i) (left_in i n h) ∙ rw (eq-eqb (get_or xs i 0) S e, strokes_of_run, s, strokes_of_run)) l

    pub run-over : i < n → (get_or xs i 0 ≡ S → ⊥) → Laid q q k k (strokes_of_run xs ps S i (n - i))
    unfolding strokes_of_run
    run-over h e = none-laid q k _ (ap (strokes_of_run xs ps S i) (left_in i n h) ∙ rw (ne_eqb (get_or xs i 0) S e, strokes_of_run))

    pub run_ends : n ≤ i → Laid q q k k (strokes_of_run xs ps S i (n - i))
    unfolding strokes_of_run
    run_ends h = none-laid q k _ (ap (strokes_of_run xs ps S i) (left-none i n h))

  pub list-paints : i < n → simple (span_at (get_or ps i 0)) ≡ true → (x : ℕ) → x ≡ stroke_number (get_or xs i 0) (get_or ps i 0)
      → Laid (set q k x) t (k + 1) r (strokes_from xs ps (i + 1) (n - (i + 1))) → Laid q t k r (strokes_from xs ps i (n - i))
  unfolding strokes_from
  list-paints h s x f l =
      same-laid q t k r _ (x ∷ strokes_from xs ps (i + 1) (n - (i + 1)))
      (ap (strokes_from xs ps i) (left_in i n h) ∙ rw (s, strokes_from) (ap (◌∷ strokes_from xs ps (i + 1) (n - (i + 1))) (sym f)))
      (one-laid q t k r x (strokes_from xs ps (i + 1) (n - (i + 1))) l)

  pub list-runs : i < n → simple (span_at (get_or ps i 0)) ≡ false
      → Laid q t k r (strokes_of_run xs ps (get_or xs i 0) (i + 1) (n - (i + 1))) → Laid q t k r (strokes_from xs ps i (n - i))
  unfolding strokes_from
  list-runs h s l =
      same-laid q t k r _ (strokes_of_run xs ps (get_or xs i 0) (i + 1) (n - (i + 1)))
      (ap (strokes_from xs ps i) (left_in i n h) ∙ rw (s, strokes_from)) l

  pub list-ends : n ≤ i → Laid q q k k (strokes_from xs ps i (n - i))
  unfolding strokes_from
  list-ends h = none-laid q k _ (ap (strokes_from xs ps i) (left-none i n h))

pub stroke-made : (state span w s e : ℕ) → w ≡ state → s ≡ span / 8589934592 → e ≡ span / 16384 % 524288 → w * 4194304 + s * 2048 + e ≡ stroke_number state span
unfolding stroke_number
stroke-made state span w s e h k l = rw (h, k, l)
