-- The walk over the rules: what is put so far is the line of the rules so far, all of them have words, and it is short.
use mathlib.Core.Path.{◌≡◌, refl, sym, ap, ap₂, ◌∙◌}
use mathlib.Core.List.{List, ◌++◌}
use mathlib.Core.Option.{none, some}
use mathlib.Core.Bool.{Bool, true, false, cond}
use Prim.Native.Nat.{ℕ, suc, ◌+◌, ◌*◌, ◌≤◌, ◌<◌}
use native.Mathlib.Omega.{arith}
use native.Mathlib.Numerals.{add-one}
use lib.Dec.{eqb}
use lib.ListN.{length, get_or, length-append}
use Rattle.laws.specs.Lists.{from, first_index}
use Rattle.definition.specs.Field.{sheet_bits}
use Rattle.definition.specs.Rule.{Rule}
use Rattle.definition.specs.Sheet.{Form, sheet_limits}
use Rattle.definition.specs.Line.{rule_text, line_of}
use Rattle.definition.specs.Show.{first_wordless}
use Rattle.definition.proofs.Bits.{Bytes}
use Rattle.definition.proofs.SheetRead.{carried, rule-faithful}
use Rattle.lines.proofs.Short.{rule-text-short, before-short}
use Rattle.forms.specs.Form.{Narrow}
use Rattle.sheet.specs.Begin.{rule_read_at, Readable}
use Rattle.sheet.specs.Rules.{rules_at}
use Rattle.sheet.proofs.Begins.{rules-many}
use Rattle.text.specs.Put.{Put}
use Rattle.text.proofs.Putting.{put-none, put_then, put_as}
use Rattle.rule_text.specs.declared.rule.Told.{Told}
use Rattle.rule_text.specs.Rule.{start_text, shown_text, lacks_words, Tells}
use Rattle.std.specs.Prelude.{Ok, Err}
use Rattle.answers.specs.declared.refusal.Reason.TheVariants.{NoWords}
use Rattle.line.specs.Lined.{Lines}
use Rattle.line.proofs.Prefix.{line-more, wordless-more, wordless-stays, rules-next, rules-rest, rules-none}

-- after i rules
pub record Walked (form : Form) (s begins l : List ℕ) (i to : ℕ) (m : List ℕ) : Type 0 where
  pub none_yet : first_wordless (rules_at form s begins i) ≡ none
  pub put : Put l 0 (line_of (rules_at form s begins i)) to m
  pub short : to ≤ i * 2048

pub walk_start : (form : Form) (s begins l : List ℕ) → Walked form s begins l 0 0 l
unfolding rules_at from first_wordless first_index line_of
walk_start form s begins l = record { none_yet = refl; put = put-none l 0; short = omega arith }

-- ## The next rule
-- a rule's text with what stands before it
shown-short : (first : Bool) (r : Rule) → length (rule_text.write r) ≤ 1024 → length (shown_text first r) ≤ 2048
unfolding shown_text
shown-short first r h = omega (arith, length-append (start_text first r.operator) (rule_text.write r), start first)
  where
    start : (b : Bool) → length (start_text b r.operator) ≤ 4
    start true = omega arith
    start false = before-short r.operator

pub next-short : (form : Form) → Narrow form → (sheet : List ℕ) → Bytes sheet → (p : ℕ) → Readable form (sheet_bits sheet) p → (first : Bool)
    → length (shown_text first (rule_read_at form (sheet_bits sheet) p)) ≤ 2048
next-short form narrow sheet bytes p readable first = shown-short first _
    (rule-text-short form narrow.comment-narrow (rule_read_at form (sheet_bits sheet) p)
    (carried (rule-faithful form sheet_limits) sheet bytes p _ readable.end readable.read))

module _ {form : Form} {s begins l : List ℕ} {i to : ℕ} {m : List ℕ} (walked : Walked form s begins l i to m) where
  abbrev next : Rule
  next = rule_read_at form s (get_or begins i 0)

  -- the line of one rule more, and the first of one rule more that has no words
  line-next : line_of (rules_at form s begins i) ++ shown_text (eqb i 0) next ≡ line_of (rules_at form s begins (suc i))
  line-next =
      ap (λ b. line_of (rules_at form s begins i) ++ shown_text b next) (sym (rules-none form s begins i)) ∙ sym (line-more (rules_at form s begins i) next)
      ∙ ap line_of (rules-next form s begins i)

  wordless-next : first_wordless (rules_at form s begins (suc i)) ≡ cond (lacks_words (eqb i 0) next) (some i) none
  wordless-next =
      sym (ap first_wordless (rules-next form s begins i)) ∙ wordless-more (rules_at form s begins i) next walked.none_yet
      ∙ ap₂ (λ b n. cond (lacks_words b next) (some n) none) (rules-none form s begins i) (rules-many form s begins i)

  module _ {t : Told} {m₁ : List ℕ} (tells : Tells (shown_text (eqb i 0) next) (lacks_words (eqb i 0) next) m to t m₁) where
    pub walk-next : t.wordless ≡ false → length (shown_text (eqb i 0) next) ≤ 2048 → Walked form s begins l (i + 1) t.to m₁
    walk-next e h = rw add-one (record {
      none_yet = wordless-next ∙ ap (λ b. cond b (some i) none) (sym tells.so ∙ e);
      put = put_as line-next (put_then walked.put tells.put);
      short = omega (arith, walked.short, tells.put.ends);
    })

    pub walk-wordless : t.wordless ≡ true → (n : ℕ) → i < n → Lines form s begins n l (Err (record { reason = NoWords; place = i })) m₁
    walk-wordless e n h = (
      refl,
      sym (ap first_wordless (rules-rest form s begins n (suc i) (omega arith)))
          ∙ wordless-stays (rules_at form s begins (suc i)) _ i (wordless-next ∙ ap (λ b. cond b (some i) none) (sym tells.so ∙ e)),
      (put_as line-next (put_then walked.put tells.put)).stored,
    )

  pub walk_end : (n : ℕ) → i ≡ n → Lines form s begins n l (Ok to) m
  walk_end n e = rw (← e) (walked.none_yet, walked.put)
