-- DEMAND 1 AND 2, THE LINE: an entry that writes, with the code 10 of its own; an accepted sheet is written as the line of its rules, in printable
-- ASCII. Rests on the law of such entries, and on the laws of lines.
use mathlib.Core.Path.{◌≡◌, refl, sym, ap, ◌∙◌, subst}
use mathlib.Core.List.{List}
use mathlib.Core.Logic.{◌⊎◌, inl, inr}
use mathlib.Core.Option.{Option, none, some}
use mathlib.Core.Bool.{Bool, true, false}
use Prim.Native.Nat.{ℕ, ◌^◌, ◌<◌}
use native.Mathlib.Nat.{pow-le-pow_right}
use native.Mathlib.Omega.{arith}
use lib.Dec.{eqb}
use borrow.Author.Tests.{eqb-true}
use Rattle.laws.specs.Lists.{first_index, All}
use Rattle.laws.proofs.Lists.{every-all}
use Rattle.definition.specs.Field.{no_words}
use Rattle.definition.specs.Rule.{Rule}
use Rattle.definition.specs.Sheet.{Form, Limits, rule}
use Rattle.definition.specs.Fold.{unwritten}
use Rattle.definition.specs.Line.{first_normal, line}
use Rattle.definition.specs.Show.{wordless, first_wordless, show_rules, show_line}
use Rattle.definition.proofs.SheetRead.{encode-decoded}
use Rattle.definition.proofs.Lawful.{rules-each}
use Rattle.definition.proofs.Carried.{comment-carried}
use Rattle.laws.proofs.Passing.{first-at, first-none, Found, first_found}
use Rattle.lines.proofs.Fitting.{line-fits}
use Rattle.lines.proofs.Printable.{Printable, line-printable}
use Rattle.promises.specs.Conditions.{FirstUnshown, AllShown, NoWords, Showable, given, WritingRows}
use Rattle.promises.specs.Codes.{LineCodes}
use Rattle.promises.specs.Counts.{LineWrites, LinePrintable, LineNothing}
use Rattle.promises.proofs.Reading.{row}
use Rattle.promises.proofs.Entries.{Entry, entry-codes, entry-writes, entry-nothing}

-- ## The first rule that can't be shown
unshown-index : (rs : List Rule) (k : ℕ) → FirstUnshown rs k → first_wordless rs ≡ some k
unfolding first_wordless
unshown-index rs k (inl h) = rw (h.0, first_wordless) (ap some (sym h.1))
unshown-index rs k (inr h) = rw (h.0, first_wordless) (first-at wordless rs k h.1)

shown-index : (rs : List Rule) → AllShown rs → first_wordless rs ≡ none
unfolding first_wordless
shown-index rs h = rw (h.0, first_wordless) (first-none wordless rs h.1)

shown-cases : (rs : List Rule) → ((k : ℕ) × FirstUnshown rs k) ⊎ AllShown rs
shown-cases rs = go (first_normal rs) refl (first_index wordless rs) (first_found wordless rs)
  where
    go : (b : Bool) → first_normal rs ≡ b → (o : Option ℕ) → Found wordless rs o → ((k : ℕ) × FirstUnshown rs k) ⊎ AllShown rs
    go false e o h = inl (0, inl (e, refl))
    go true e none h = inr (e, h)
    go true e (some k) h = inl (k, inr (e, h))

module _ (form : Form) (limits : Limits) (room : ℕ) (sheet : List ℕ) where
  abbrev Rows : ℕ → ℕ → Type 0
  Rows c p = given (eqb c no_words) (NoWords form limits sheet p) (WritingRows room (Showable form limits sheet) line.write c p)

  unshown-answer : (p : ℕ) → NoWords form limits sheet p → show_line form limits room sheet ≡ unwritten no_words p
  unfolding show_line show_rules
  unshown-answer p h = rw (h.1.1, show_line, unshown-index h.0 p h.2, show_rules)

  shown : Entry form limits sheet room (show_line form limits room sheet) (Showable form limits sheet) line.write Rows
  unfolding show_line show_rules
  shown = record {
    refused-answer = λ c p e. rw (e, show_line);
    ready-answer = λ rs a. rw (a.0.1, show_line, shown-index rs a.1, show_rules);
    accepted-cases = λ rs a. elim (shown-cases rs) [
      | inl k ↦ let h : NoWords form limits sheet k.0 = (rs, a, k.1) in inl (no_words, k.0, h, unshown-answer k.0 h)
      | inr h ↦ inr (a, h)
    ];
    row-cases = λ c p. row (eqb c no_words) (λ t h. inl (unshown-answer p h ∙ ap (λ i. unwritten i p) (sym (eqb-true c no_words t)))) inr;
    room_row = λ p h. h;
    done-row = λ p. record { only = λ h. h; always = λ h. h };
  }

  -- THE TABLE
  pub line-codes : LineCodes form limits sheet room
  line-codes = entry-codes shown

  -- WHAT IS WRITTEN: the line of the rules, or nothing
  pub line_writes : LineWrites form limits room sheet
  line_writes e = let k = entry-writes shown e in (k.0, k.1.0, ap (λ w. w.result) k.2, ap (λ w. w.bytes) k.2)

  pub line-nothing : LineNothing form limits room sheet
  line-nothing = entry-nothing shown

  pub line-prints : LinePrintable form limits room sheet
  line-prints narrow e whole =
      let k = entry-writes shown e in
      let fits = (encode-decoded form limits sheet whole k.0 k.1.0.0 k.1.0.1).0 in
      let comments = every-all _ (rule form limits).fits small k.0 (rules-each form limits k.0 fits) in
      subst (λ w. All Printable w.result) (sym k.2) (line-printable k.0 (line-fits form limits k.0 fits comments (shown-index k.0 k.1.1)))
    where
      small : (r : Rule) → (rule form limits).fits r ≡ true → r.state.comment < 2 ^ 24
      small r f = omega (arith, comment-carried form limits r f, pow-le-pow_right {n = 2} (omega arith) narrow)
