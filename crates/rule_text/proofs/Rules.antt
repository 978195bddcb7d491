-- Whole rules: their days part by part, and how the text of a rule is put together.
use mathlib.Core.Path.{◌≡◌, refl, sym, ap, ap₂, ◌∙◌}
use mathlib.Core.Bool.{Bool, ◌&&◌, ◌||◌, not}
use mathlib.Core.List.{List, [], ◌∷◌, ◌++◌, append_assoc}
use Prim.Native.Nat.{ℕ, suc, ◌+◌, ◌*◌, ◌≤◌}
use native.Mathlib.Omega.{arith}
use lib.Dec.{eqb}
use lib.ListN.{length, length-append}
use borrow.Author.Tests.{ne_eqb}
use Rattle.laws.specs.Lists.{any_of}
use Rattle.laws.proofs.Flags.{or_assoc}
use Rattle.definition.specs.Rule.{Operator, Kind, State, Span, Rule}
use Rattle.definition.specs.Point.{is_normal}
use Rattle.definition.specs.Stop.{monthday_stops, weekday_stops}
use Rattle.definition.specs.Text.{◌then◌, of, is_none, several}
use Rattle.definition.specs.Line.{is_plain, span_text, state_text, rule_text}
use Rattle.definition.specs.Show.{wordless}
use Rattle.rule_text.specs.Tale.{Tale}
use Rattle.rule_text.specs.Row.{followed, part_told}
use Rattle.rule_text.specs.Rule.{days_told, days_text, body_text, start_text, shown_text, lacks_words}
use Rattle.rule_text.proofs.Rows.{part-near}

-- ## Four parts, one behind the other
module _ (years monthdays weeks weekdays : ℕ) (s : List ℕ) (p : ℕ) where
  abbrev pub years_part : Tale
  years_part = part_told 0 years s p

  abbrev pub months_part : Tale
  months_part = part_told 1 monthdays s years_part.next

  abbrev pub weeks_part : Tale
  weeks_part = part_told 2 weeks s months_part.next

  abbrev pub weekdays_part : Tale
  weekdays_part = part_told 3 weekdays s weeks_part.next

  pub days-parts : followed years_part (followed months_part (followed weeks_part weekdays_part)) ≡ days_told years monthdays weeks weekdays s p
  unfolding days_told
  days-parts = refl

  pub days-long : length (days_told years monthdays weeks weekdays s p).text
      ≡ length years_part.text + (length months_part.text + (length weeks_part.text + length weekdays_part.text))
  days-long =
      let w = weeks_part.text ++ weekdays_part.text in
      omega (
        arith,
        ap (λ x. length x.text) days-parts,
        length-append years_part.text (months_part.text ++ w),
        length-append months_part.text w,
        length-append weeks_part.text weekdays_part.text,
      )

  pub days-near : (days_told years monthdays weeks weekdays s p).next ≤ p + (years + monthdays + weeks + weekdays) * 52
  days-near =
      omega (
        arith,
        ap (λ x. x.next) days-parts,
        part-near 0 s p years,
        part-near 1 s years_part.next monthdays,
        part-near 2 s months_part.next weeks,
        part-near 3 s weeks_part.next weekdays,
      )

-- ## The text of a rule
pub rule-text : (r : Rule) → body_text r ++ state_text.write r.state ≡ rule_text.write r
unfolding body_text rule_text ◌then◌ of
rule-text r = simp append_assoc

-- with the operator and the state that were read
pub state-same : (r : Rule) (k : Kind) (n : ℕ) → k ≡ r.state.kind → n ≡ r.state.comment → record { kind = k; comment = n } ≡ r.state
state-same r k n = ap₂ (λ k n. record { kind = k; comment = n })

pub shown-text : (first : Bool) (r : Rule) (o : Operator) (S : State) → o ≡ r.operator → S ≡ r.state
    → start_text first o ++ (body_text r ++ state_text.write S) ≡ shown_text first r
unfolding shown_text
shown-text first r o S e f = ap₂ (λ p Q. start_text first p ++ (body_text r ++ state_text.write Q)) e f ∙ ap (start_text first r.operator ++◌) (rule-text r)

pub lacks-words : (first : Bool) (r : Rule) (o : Operator) → o ≡ r.operator → first && not (is_normal o) || wordless r ≡ lacks_words first r
unfolding lacks_words
lacks-words first r o e = ap (λ p. first && not (is_normal p) || wordless r) e

-- before it, days and spans, kind and comment: how long they are together
pub shown-long : (first : Bool) (r : Rule)
    → length (shown_text first r) ≡ length (start_text first r.operator) + (length (body_text r) + length (state_text.write r.state))
unfolding shown_text
shown-long first r =
    omega (
      arith,
      length-append (start_text first r.operator) (rule_text.write r),
      ap length (rule-text r),
      length-append (body_text r) (state_text.write r.state),
    )

pub body-text : (r : Rule) → days_text r ++ (several "," span_text).write r.spans ≡ body_text r
unfolding body_text
body-text r = refl

pub body-long : (r : Rule) → length (body_text r) ≡ length (days_text r) + length ((several "," span_text).write r.spans)
body-long r = sym (ap length (body-text r)) ∙ length-append (days_text r) ((several "," span_text).write r.spans)

-- months, weekdays, spans, and none of these
pub lacks-either : (r : Rule) (n : ℕ) → n ≡ length r.spans
    → (any_of monthday_stops r.monthdays || any_of weekday_stops r.weekdays) || (any_of (λ x. not (is_plain x)) r.spans || eqb n 0) ≡ wordless r
unfolding wordless
lacks-either r n e =
    or_assoc (any_of monthday_stops r.monthdays) (any_of weekday_stops r.weekdays) _
    ∙ ap (λ b. any_of monthday_stops r.monthdays || (any_of weekday_stops r.weekdays || (any_of (λ x. not (is_plain x)) r.spans || b)))
    (ap (λ k. eqb k 0) e ∙ none r.spans)
  where
    none : (xs : List Span) → eqb (length xs) 0 ≡ is_none xs
    none [] = refl
    none (x ∷ xs) = ne_eqb (suc (length xs)) 0 (λ z. omega arith)
