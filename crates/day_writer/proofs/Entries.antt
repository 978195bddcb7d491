-- A day in words, entry by entry: the first entry's state, count and spans, and the day behind them.
use mathlib.Core.Path.{◌≡◌, refl, sym, ap, ap₂, ◌∙◌, subst}
use mathlib.Core.List.{List, [], ◌∷◌, ◌++◌, map}
use Prim.Native.Nat.{ℕ, zero, suc, ◌+◌, ◌-◌, ◌≤◌, ◌<◌, ◌^◌}
use native.Mathlib.Omega.{arith}
use lib.ListN.{length, take, drop, get_or, length-drop}
use lib.Seq.{length-take-le}
use Rattle.laws.specs.Lists.{All}
use Rattle.definition.specs.Rule.{Span}
use Rattle.definition.specs.Sheet.{Form}
use Rattle.definition.specs.Day.{Day}
use Rattle.codes.specs.Number.{state_coded, span_number, span_at}
use Rattle.words.specs.Words.{part, entry_words}
use Rattle.words.proofs.Sets.{part-taken}
use Rattle.day_flat.specs.Day.{flat, unflat_from, unflat}
use Rattle.rule_writer.specs.Rows.{spans_at}
use Rattle.rule_writer.proofs.Rows.{spans-length}
use Rattle.day_writer.specs.Rules.{day_in, Whole}
use Rattle.tables.specs.Days.{Carried}

-- ## Parts
-- a part that is one text and another: where the second stands
part-behind : (words xs ys : List ℕ) (at n : ℕ) → part words at n ≡ xs ++ ys → (part words (at + length xs) (n - length xs) ≡ ys) × (length xs ≤ n)
unfolding part
part-behind words [] ys at n e =
    let a : at + 0 ≡ at = omega arith in
    let b : n - 0 ≡ n = omega arith in
    (ap₂ (part words) a b ∙ e, omega arith)
part-behind words (x ∷ xs) ys at zero e = absurd (let z : 0 ≡ suc (length (xs ++ ys)) = ap length e in omega (arith, z))
part-behind words (x ∷ xs) ys at (suc n) e =
    let k = part-behind words xs ys (at + 1) n (ap (drop 1) e) in
    let a : at + suc (length xs) ≡ at + 1 + length xs = omega arith in
    let b : suc n - suc (length xs) ≡ n - length xs = omega arith in
    (ap₂ (part words) a b ∙ k.0, omega (arith, k.1))

-- so many spans, and the day behind them
spans-read : (words : List ℕ) (at m n : ℕ) → m ≤ n → unflat_from m (part words at n) ≡ (map span_at (part words at m), day_in words (at + m) (n - m))
unfolding part unflat_from
spans-read words at zero n h =
    let a : at ≡ at + 0 = omega arith in
    let b : n ≡ n - 0 = omega arith in
    λ i. (none n i, unflat (part words (a i) (b i)))
  where
    none : (n : ℕ) → (unflat_from zero (part words at n)).0 ≡ []
    none zero = refl
    none (suc zero) = refl
    none (suc (suc n)) = refl
spans-read words at (suc m) zero h = absurd (omega arith)
spans-read words at (suc m) (suc n) h =
    let k = spans-read words (at + 1) m n (omega arith) in
    let a : at + 1 + m ≡ at + suc m = omega arith in
    let b : n - m ≡ suc n - suc m = omega arith in
    λ i. (span_at (get_or words at 0) ∷ (k i).0, (ap (λ r. r.1) k ∙ ap₂ (day_in words) a b) i)

-- ## The first entry
-- what stands where a day in words goes on
pub record Step (form : Form) (words : List ℕ) (at n many : ℕ) : Type 0 where
  pub within : 2 + many ≤ n
  pub few : many < 2 ^ 10
  pub first : Carried form (state_coded (get_or words at 0), spans_at words (at + 2) many)
  pub entry : day_in words at n ≡ (state_coded (get_or words at 0), spans_at words (at + 2) many) ∷ day_in words (at + 2 + many) (n - 2 - many)
  pub behind : Whole form words (at + 2 + many) (n - 2 - many)

module _ (form : Form) (words : List ℕ) (at : ℕ) where
  two-words : (n : ℕ) → Whole form words at (suc (suc n)) → Step form words at (suc (suc n)) (get_or words (at + 1) 0)
  unfolding part unflat_from flat entry_words spans_at
  two-words n w = record {
    within = omega (arith, fits);
    few = omega (arith, each.0.few, spans-length words (at + 2) many reached);
    first = each.0;
    entry = entry;
    behind = record { inside = omega (arith, w.inside, fits); flatly = back; carried = each.1 };
  }
    where
      many : ℕ
      many = get_or words (at + 1) 0

      read : List Span × Day
      read = unflat_from many (part words (at + 1 + 1) n)

      split : (part words (at + 1 + 1 + length (map span_number read.0)) (n - length (map span_number read.0)) ≡ flat read.1) ×
          (length (map span_number read.0) ≤ n)
      split = part-behind words (map span_number read.0) (flat read.1) (at + 1 + 1) n (ap (drop 2) w.flatly)

      counted : many ≡ length (map span_number read.0)
      counted = ap (λ l. get_or l 1 0) w.flatly

      fits : many ≤ n
      fits = omega (arith, counted, split.1)

      reached : at + 2 + many ≤ length words
      reached = omega (arith, w.inside, fits)

      place : at + 1 + 1 ≡ at + 2
      place = omega arith

      next : at + 1 + 1 + many ≡ at + 2 + many
      next = omega arith

      left : n - many ≡ suc (suc n) - 2 - many
      left = omega arith

      all : read ≡ (map span_at (part words (at + 1 + 1) many), day_in words (at + 1 + 1 + many) (n - many))
      all = spans-read words (at + 1 + 1) many n fits

      spans : read.0 ≡ spans_at words (at + 2) many
      spans = ap (λ r. r.0) all ∙ ap (λ j. map span_at (part words j many)) place ∙ ap (map span_at) (sym (part-taken words (at + 2) many reached))

      day : read.1 ≡ day_in words (at + 2 + many) (suc (suc n) - 2 - many)
      day = ap (λ r. r.1) all ∙ ap₂ (day_in words) next left

      entry : day_in words at (suc (suc n)) ≡ (state_coded (get_or words at 0), spans_at words (at + 2) many) ∷ day_in words (at + 2 + many) (suc (suc n) - 2 - many)
      entry = λ i. (state_coded (get_or words at 0), spans i) ∷ day i

      each : Carried form (state_coded (get_or words at 0), spans_at words (at + 2) many) × All (Carried form) (day_in words (at + 2 + many) (suc (suc n) - 2 - many))
      each = subst (All (Carried form)) entry w.carried

      back : part words (at + 2 + many) (suc (suc n) - 2 - many) ≡ flat (day_in words (at + 2 + many) (suc (suc n) - 2 - many))
      back = sym (ap₂ (part words) next left) ∙ ap (λ k. part words (at + 1 + 1 + k) (n - k)) counted ∙ split.0 ∙ ap flat day

  pub step : (n many : ℕ) → (n ≡ 0 → ⊥) → many ≡ get_or words (at + 1) 0 → Whole form words at n → Step form words at n many
  unfolding part unflat_from flat entry_words
  step zero many some e w = absurd (some refl)
  step (suc zero) many some e w = absurd (let z : 1 ≡ 2 = ap length w.flatly in omega (arith, z))
  step (suc (suc n)) many some e w = subst (Step form words at (suc (suc n))) (sym e) (two-words n w)

-- ## From entry to entry
module _ (form : Form) (words : List ℕ) (at : ℕ) (l : at < length words) (w : Whole form words at (length words - at)) where
  -- the entry's spans, as a slice
  abbrev many : ℕ
  many = get_or words (at + 1) 0

  pub this_entry : Step form words at (length words - at) many
  this_entry = step form words at (length words - at) many (λ z. omega arith) refl w

  pub entry_ends : at + 2 + many ≤ length words
  entry_ends = omega (arith, this_entry.within)

  -- the slice of the entry's spans
  abbrev pub span_words : List ℕ
  span_words = take (at + 2 + many - (at + 2)) (drop (at + 2) words)

  pub entry_spans : map span_at span_words ≡ spans_at words (at + 2) many
  unfolding spans_at
  entry_spans = let n : at + 2 + many - (at + 2) ≡ many = omega arith in ap (λ k. map span_at (take k (drop (at + 2) words))) n

  pub few_words : length span_words < 2 ^ 10
  few_words = omega (arith, length-take-le (at + 2 + many - (at + 2)) (drop (at + 2) words) (omega (arith, length-drop (at + 2) words, entry_ends)), this_entry.few)

  pub entry_left : length words - at - 2 - many ≡ length words - (at + 2 + many)
  entry_left = omega arith

  pub whole-behind : Whole form words (at + 2 + many) (length words - (at + 2 + many))
  whole-behind = subst (Whole form words (at + 2 + many)) entry_left this_entry.behind
