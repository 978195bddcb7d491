-- What `measure` and `line_of` answer is what the definition answers.
use mathlib.Core.Path.{◌≡◌, sym, ap, ◌∙◌, subst}
use mathlib.Core.List.{List}
use mathlib.Core.Option.{none, some-ne-none}
use Prim.Native.Nat.{ℕ, ◌≤◌, ◌<◌}
use native.Mathlib.Omega.{arith}
use lib.ListN.{length}
use Rattle.definition.specs.Field.{no_room, no_words}
use Rattle.definition.specs.Rule.{Rule}
use Rattle.definition.specs.Sheet.{Form}
use Rattle.definition.specs.Fold.{buffer, unwritten}
use Rattle.definition.specs.Line.{line_of, line}
use Rattle.definition.specs.Show.{first_wordless, show_rules}
use Rattle.definition.proofs.Writing.{written-not, written-fine, written-front}
use Rattle.sheet.specs.Rules.{rules_at}
use Rattle.std.specs.Prelude.{Result, Ok, Err}
use Rattle.answers.specs.declared.refusal.Refusal.{Refusal}
use Rattle.answers.specs.Refusal.{code_of}
use Rattle.line.specs.Lined.{Lines, Measured}

pub lines-measured : (form : Form) (s begins : List ℕ) (n : ℕ) (l m : List ℕ) (r : Result ℕ Refusal) → Lines form s begins n l r m → Measured (rules_at form s begins n) r
lines-measured form s begins n l m (Ok q) h = (h.0, omega (arith, h.1.ends))
lines-measured form s begins n l m (Err r) h = (h.0, h.1)

-- where every rule has words, the line is at the front of the buffer
pub lines-written : (form : Form) (s begins : List ℕ) (n : ℕ) (l m : List ℕ) (r : Result ℕ Refusal) → Lines form s begins n l r m → first_wordless (rules_at form s begins n) ≡ none
    → length (line_of (rules_at form s begins n)) ≤ length l
    → m ≡ buffer (line_of (rules_at form s begins n)) l
lines-written form s begins n l m (Ok q) h e room = h.1.stored ∙ written-front (line_of (rules_at form s begins n)) l room
lines-written form s begins n l m (Err r) h e room = absurd (some-ne-none r.place (sym h.1 ∙ e))

module _ (rs : List Rule) (r : Result ℕ Refusal) (measured : Measured rs r) (room : ℕ) where
  pub shown-to : (q : ℕ) → r ≡ Ok q → (first_wordless rs ≡ none) × (q ≡ length (line_of rs))
  shown-to q e = subst (Measured rs) e measured

  pub shown-not : (why : Refusal) → r ≡ Err why → show_rules room rs ≡ unwritten (code_of why.reason) why.place
  unfolding show_rules
  shown-not why e =
      let k = subst (Measured rs) e measured in
      rw (k.1, show_rules) (ap (λ n. unwritten n why.place) (sym (ap code_of k.0)))

  pub shown-long : (q : ℕ) → r ≡ Ok q → room < q → show_rules room rs ≡ unwritten no_room q
  unfolding show_rules line
  shown-long q e l =
      let k = shown-to q e in
      rw (k.0, show_rules) (written-not room (line_of rs) (omega (arith, k.1)) ∙ ap (unwritten no_room) (sym k.1))

  pub shown-fine : (q : ℕ) → r ≡ Ok q → q ≤ room → show_rules room rs ≡ record { code = 0; bytes = q; place = 0; result = line_of rs }
  unfolding show_rules line
  shown-fine q e l =
      let k = shown-to q e in
      rw (k.0, show_rules)
      (written-fine room (line_of rs) (omega (arith, k.1)) ∙ ap (λ n. record { code = 0; bytes = n; place = 0; result = line_of rs }) (sym k.1))
