-- What the spans that are loaded mean: the numbers of the rule's spans before the first that may reach tomorrow; and whether there is one.
use mathlib.Core.Path.{◌≡◌, refl, sym, ap, ◌∙◌}
use mathlib.Core.List.{List, [], ◌∷◌, map}
use mathlib.Core.Option.{some}
use mathlib.Core.Bool.{Bool, true, false, ◌||◌, cond, false≢true}
use Prim.Native.Nat.{ℕ, zero, suc}
use Rattle.laws.specs.Lists.{any_of}
use Rattle.definition.specs.Field.{got, sheet_bits, read_all}
use Rattle.definition.specs.Rule.{Span}
use Rattle.definition.specs.Sheet.{span}
use Rattle.definition.specs.Stop.{span_stops}
use Rattle.definition.proofs.Bits.{Bytes}
use Rattle.definition.proofs.Items.{span-faithful}
use Rattle.definition.proofs.SheetRead.{carried}
use Rattle.definition.proofs.Reading.{all-parts}
use Rattle.codes.specs.Number.{span_number, span_at}
use Rattle.codes.proofs.Numbers.{number-span}
use Rattle.codes.proofs.Carried.{span-carried, span-numbered}
use Rattle.draining.specs.Span.{number_at, span_numbers, spans_stop}
use Rattle.draining.specs.Rule.{today}

pub today-all : (xs : List Span) → any_of span_stops xs ≡ false → today xs ≡ xs
unfolding today any_of
today-all [] f = refl
today-all (x ∷ xs) f = go (span_stops x) refl f (today-all xs)
  where
    go : (b : Bool) → span_stops x ≡ b → span_stops x || any_of span_stops xs ≡ false → (any_of span_stops xs ≡ false → today xs ≡ xs) → today (x ∷ xs) ≡ x ∷ xs
    go true e g ih = absurd (false≢true (sym (rw e at g)))
    go false e g ih = rw e (ap (x ∷◌) (ih (rw e at g)))

module _ (sheet : List ℕ) (b : Bytes sheet) where
  -- a span that was read has its own number
  number_read : (p : ℕ) (x : Span) (q : ℕ) → span.read (sheet_bits sheet) p ≡ got x q → (number_at (sheet_bits sheet) p ≡ some (span_number x, q)) × (span_at (span_number x) ≡ x)
  unfolding number_at
  number_read p x q e = (rw e, number-span x (span-numbered x (span-carried x (carried span-faithful sheet b p x q e))))

  pub spans-meaning : (n p : ℕ) (xs : List Span) (q : ℕ) → read_all span.read n (sheet_bits sheet) p ≡ got xs q
      → (spans_stop n (sheet_bits sheet) p ≡ any_of span_stops xs) × (span_numbers n (sheet_bits sheet) p ≡ map span_number (today xs))
  unfolding read_all spans_stop span_numbers any_of today
  spans-meaning zero p xs q e = let v : [] ≡ xs = cc in (ap (any_of span_stops) v, ap (λ ys. map span_number (today ys)) v)
  spans-meaning (suc n) p xs q e =
      let w = all-parts span.read n (sheet_bits sheet) p xs q e in
      let k = number_read p w.0 w.1 w.3 in
      let rest = spans-meaning n w.1 w.2 q w.4 in
      let first = go w.0 w.1 w.2 (span_stops w.0) refl rest in
      rw (k.0, k.1, spans_stop, span_numbers) (first.0 ∙ ap (any_of span_stops) w.5, first.1 ∙ ap (λ ys. map span_number (today ys)) w.5)
    where
      go : (x : Span) (j : ℕ) (ys : List Span) (t : Bool) → span_stops x ≡ t
          → (spans_stop n (sheet_bits sheet) j ≡ any_of span_stops ys) × (span_numbers n (sheet_bits sheet) j ≡ map span_number (today ys))
          → (cond (span_stops x) true (spans_stop n (sheet_bits sheet) j) ≡ span_stops x || any_of span_stops ys)
          × (cond (span_stops x) [] (span_number x ∷ span_numbers n (sheet_bits sheet) j) ≡ map span_number (today (x ∷ ys)))
      go x j ys true h rest = rw h (refl, refl)
      go x j ys false h rest = rw h (rest.0, ap (span_number x ∷◌) rest.1)
