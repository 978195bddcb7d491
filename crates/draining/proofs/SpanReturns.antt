-- One lemma for each return of the readers of spans: a span's number, and the numbers of spans one behind the other.
use mathlib.Core.Path.{◌≡◌, refl, sym, ap, ◌∙◌}
use mathlib.Core.List.{List, [], ◌∷◌}
use mathlib.Core.Option.{none, some}
use mathlib.Core.Bool.{Bool, true, false, not, cond, false≢true}
use Prim.Native.Nat.{ℕ, zero, suc, ◌+◌, ◌≤◌, ◌<◌}
use native.Mathlib.Omega.{arith}
use lib.Dec.{eqb}
use lib.ListN.{set}
use lib.Seq.{sets}
use Rattle.definition.specs.Field.{Read, got, refused}
use Rattle.definition.specs.Rule.{Span, repeats_key}
use Rattle.definition.specs.Sheet.{span}
use Rattle.definition.specs.Stop.{span_stops}
use Rattle.definition.proofs.Lengths.{span-short}
use Rattle.codes.specs.Number.{time_number, parts_number, span_number, span_at}
use Rattle.canonical_date.proofs.ItemFacts.{some-other}
use Rattle.draining.specs.Span.{numbered, number_at, span_numbers, spans_stop}

-- ## A span's number
pub bit_below : (t : Bool) (o : ℕ) → o ≡ cond t 1 0 → o < 2
bit_below true o e = omega arith
bit_below false o e = omega arith

-- a bit is 0 or 1
pub bit-same : (v : ℕ) → v < 2 → v ≡ cond (eqb v 1) 1 0
bit-same zero h = refl
bit-same (suc zero) h = refl
bit-same (suc (suc n)) h = absurd (omega arith)

module _ (s : List ℕ) (p : ℕ) where
  pub number-goes : (x : Span) (q f l i r n : ℕ) → span.read s p ≡ got x q → f ≡ time_number x.start → l ≡ time_number x.end → i ≡ cond x.open_end 1 0
      → r ≡ repeats_key x.repeats → n ≡ parts_number f l i r → some (n, q) ≡ number_at s p
  unfolding number_at span_number
  number-goes x q f l i r n e hf hl hi hr hn = sym (rw e (ap (λ v. some (v, q)) (sym (hn ∙ parts))))
    where
      parts : parts_number f l i r ≡ parts_number (time_number x.start) (time_number x.end) (cond x.open_end 1 0) (repeats_key x.repeats)
      parts = rw (← hf, ← hl, ← hi, ← hr) refl

  pub number-stops : (c q : ℕ) → span.read s p ≡ refused c q → none ≡ number_at s p
  unfolding number_at
  number-stops c q e = sym (rw e)

  pub number_short : (n q : ℕ) → number_at s p ≡ some (n, q) → q ≤ p + 52
  unfolding number_at
  number_short n q e = go (span.read s p) refl e
    where
      go : (w : Read Span) → span.read s p ≡ w → numbered w ≡ some (n, q) → q ≤ p + 52
      go (refused c i) h g = some-other {A = ℕ × ℕ} (n, q) g
      go (got x j) h g =
          let pair : ◌≡◌ {A = ℕ × ℕ} (span_number x, j) (n, q) = cc in
          let z : j ≡ q = ap (λ v. v.1) pair in
          omega (arith, span-short s p x j h)

  -- ## Spans one behind the other
  -- what their reader owes: whether one stops, and their numbers
  abbrev pub SpansOwed : Bool → List ℕ → ℕ → List ℕ → ℕ → Type 0
  SpansOwed r after place before n = (r ≡ spans_stop n s p) × (after ≡ sets before place (span_numbers n s p))

  pub spans-none : (n place : ℕ) (l : List ℕ) → n ≡ 0 → SpansOwed false l place l n
  unfolding spans_stop span_numbers
  spans-none n place l e = rw e (refl, refl)

  pub spans-refused : (n place : ℕ) (l : List ℕ) → (n ≡ 0 → ⊥) → number_at s p ≡ none → SpansOwed true l place l n
  unfolding spans_stop span_numbers
  spans-refused zero place l f e = absurd (f refl)
  spans-refused (suc n) place l f e = rw (e, spans_stop, span_numbers) (refl, refl)

  pub spans-halt : (n place v q : ℕ) (l : List ℕ) (t : Bool) → (n ≡ 0 → ⊥) → number_at s p ≡ some (v, q) → t ≡ not (span_stops (span_at v)) → t ≡ false → SpansOwed true l place l n
  unfolding spans_stop span_numbers
  spans-halt zero place v q l t f e h k = absurd (f refl)
  spans-halt (suc n) place v q l t f e h k = rw (e, spans_stop, span_numbers) (go (span_stops (span_at v)) refl (sym h ∙ k))
    where
      go : (b : Bool) → span_stops (span_at v) ≡ b → not b ≡ false
          → (true ≡ cond (span_stops (span_at v)) true (spans_stop n s q)) × (l ≡ sets l place (cond (span_stops (span_at v)) [] (v ∷ span_numbers n s q)))
      go true e g = rw e (refl, refl)
      go false e g = absurd (false≢true (sym g))

-- a span that stays today, then the spans after it
pub spans-go : (s : List ℕ) (p n m place next v q : ℕ) (l l' : List ℕ) (t r : Bool) → n ≡ suc m → number_at s p ≡ some (v, q) → t ≡ not (span_stops (span_at v)) → t ≡ true → next ≡ suc place
    → SpansOwed s q r l' next (set l place v) m → SpansOwed s p r l' place l n
unfolding spans_stop span_numbers
spans-go s p n m place next v q l l' t r z e h k y o = rw (z, e, spans_stop, span_numbers) (go (span_stops (span_at v)) refl (sym h ∙ k))
  where
    go : (b : Bool) → span_stops (span_at v) ≡ b → not b ≡ true
        → (r ≡ cond (span_stops (span_at v)) true (spans_stop m s q)) × (l' ≡ sets l place (cond (span_stops (span_at v)) [] (v ∷ span_numbers m s q)))
    go true e g = absurd (false≢true g)
    go false e g = rw e (o.0, o.1 ∙ ap (λ j. sets (set l place v) j (span_numbers m s q)) y)
