-- FLAT FORMS TELL DAYS APART: a day is read back from its flat form, if its spans have numbers of their own. Rests on the numbers of states
-- and spans.
use mathlib.Core.Path.{◌≡◌, refl, sym, ap, ap₂, ◌∙◌}
use mathlib.Core.List.{List, [], ◌∷◌, ◌++◌, map}
use Prim.Native.Nat.{ℕ, zero}
use lib.ListN.{length}
use Rattle.laws.specs.Lists.{All}
use Rattle.definition.specs.Rule.{Span}
use Rattle.definition.specs.Day.{Day}
use Rattle.codes.specs.Number.{span_number, span_at}
use Rattle.codes.proofs.Numbers.{number-state}
use Rattle.words.specs.Words.{entry_words}
use Rattle.day_flat.specs.Day.{flat, unflat_from, unflat, OwnSpan, OwnNumbers}

spans-back : (ss : List Span) → All OwnSpan ss → map span_at (map span_number ss) ≡ ss
spans-back [] h = refl
spans-back (s ∷ ss) h = ap₂ ◌∷◌ h.0 (spans-back ss h.1)

no-spans : (ws : List ℕ) → (unflat_from zero ws).0 ≡ []
unfolding unflat_from
no-spans [] = refl
no-spans (w ∷ []) = refl
no-spans (w ∷ n ∷ ws) = refl

after-spans : (ws rest : List ℕ) → unflat_from (length ws) (ws ++ rest) ≡ (map span_at ws, unflat rest)
unfolding unflat_from
after-spans [] rest = λ i. (no-spans rest i, unflat rest)
after-spans (w ∷ ws) rest = λ i. (span_at w ∷ (after-spans ws rest i).0, (after-spans ws rest i).1)

-- A DAY IS READ BACK
pub unflat-flat : (d : Day) → OwnNumbers d → unflat (flat d) ≡ d
unfolding flat unflat_from entry_words
unflat-flat [] h = refl
unflat-flat (e ∷ d) h = let back : unflat (flat d) ≡ d = unflat-flat d h.1 in λ i. (number-state e.0 i, spans i) ∷ (rest ∙ back) i
  where
    read : unflat_from (length (map span_number e.1)) (map span_number e.1 ++ flat d) ≡ (map span_at (map span_number e.1), unflat (flat d))
    read = after-spans (map span_number e.1) (flat d)

    spans : (unflat_from (length (map span_number e.1)) (map span_number e.1 ++ flat d)).0 ≡ e.1
    spans = ap (λ r. r.0) read ∙ spans-back e.1 h.0

    rest : (unflat_from (length (map span_number e.1)) (map span_number e.1 ++ flat d)).1 ≡ unflat (flat d)
    rest = ap (λ r. r.1) read

-- equal flat forms, equal days
pub flat-apart : (d e : Day) → OwnNumbers d → OwnNumbers e → flat d ≡ flat e → d ≡ e
flat-apart d e h k q = sym (unflat-flat d h) ∙ ap unflat q ∙ unflat-flat e k
