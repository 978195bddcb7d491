-- What a check answers of a sheet: its rules are read, or it is refused as the definition refuses it; and so its line and its conversion. Rests on the law of
-- beginnings.
use mathlib.Core.Path.{◌≡◌, refl, sym, ap, ap₂, ◌∙◌, subst}
use mathlib.Core.List.{List}
use Prim.Native.Nat.{ℕ, ◌≤◌}
use native.Mathlib.Omega.{arith}
use lib.ListN.{length}
use Rattle.definition.specs.Field.{Read, got, refused, and_then, sheet_bits}
use Rattle.definition.specs.Rule.{Rule}
use Rattle.definition.specs.Sheet.{Form, sheet_limits, decode}
use Rattle.definition.specs.Fold.{unwritten}
use Rattle.definition.specs.Show.{show_rules, show_line}
use Rattle.definition.specs.Forms.{convert_rules, convert}
use Rattle.definition.proofs.Bits.{Bytes}
use Rattle.forms.specs.Form.{Narrow}
use Rattle.std.specs.Prelude.{Result, Ok, Err}
use Rattle.answers.specs.Refusal.{code_of}
use Rattle.answers.specs.declared.refusal.Refusal.{Refusal}
use Rattle.sheet.specs.declared.check.Rules.{Rules}
use Rattle.sheet.specs.Rules.{Places, checked, begun, rules_at, AllBegin, as_checked}
use Rattle.sheet.proofs.Begins.{begun-length, rules-few, rules-placed, checked-rules, all-begin, rules-there}
use Rattle.sheet.specs.Parts.{Readings}

module _ (form : Form) (sheet : List ℕ) (r : Result Rules Refusal) (answer : as_checked r ≡ checked form sheet) where
  pub rules-read : (begins before : List ℕ) → begins ≡ begun form sheet before → Places (length sheet) (length before) → Bytes sheet → Narrow form
      → (rules : Rules) → r ≡ Ok rules → Readings form sheet begins rules.count rules.end
  rules-read begins before noted room b narrow found e =
      let rules = checked-rules form sheet found.count found.end (sym answer ∙ ap as_checked e) in
      let placed = rules-placed form sheet rules.0 found.end narrow b rules.1 (length before) room in
      (rules.0, (record { narrow = narrow; read = rules.1; before = before; room = placed; noted = noted }, sym rules.2))

  pub sheet-refused : (f : Refusal) → r ≡ Err f → decode form sheet_limits sheet ≡ refused (code_of f.reason) f.place
  unfolding checked
  sheet-refused f e = go (decode form sheet_limits sheet) refl (sym answer ∙ ap as_checked e)
    where
      c : ℕ
      c = code_of f.reason

      p : ℕ
      p = f.place

      go : (w : Read (List Rule)) → decode form sheet_limits sheet ≡ w → and_then (λ rs q. got (length rs) q) w ≡ refused c p
          → decode form sheet_limits sheet ≡ refused c p
      go (refused k j) h g = let a : k ≡ c = cc in let b : j ≡ p = cc in h ∙ ap (λ z. refused z j) a ∙ ap (refused c) b
      go (got rs q) h g = let z : ◌≡◌ {A = ℕ} 0 1 = cc in absurd (omega arith)

  -- what the line requires of the rules that were read; and theirs is the line of the sheet
  module _ (narrow : Narrow form) (b : Bytes sheet) (begins before : List ℕ) (noted : begins ≡ begun form sheet before)
      (room : Places (length sheet) (length before)) (rules : Rules) (e : r ≡ Ok rules) where
    abbrev n : ℕ
    n = rules.count

    abbrev q : ℕ
    q = rules.end

    read : (rs : List Rule) × (decode form sheet_limits sheet ≡ got rs q) × (length rs ≡ n)
    read = checked-rules form sheet n q (sym answer ∙ ap as_checked e)

    placed : length read.0 ≤ length before
    placed = rules-placed form sheet read.0 q narrow b read.1 (length before) room

    pub line-begins : AllBegin form (sheet_bits sheet) begins n × (n ≤ sheet_limits.rules) × (n ≤ length begins)
    line-begins =
        let few = rules-few form sheet read.0 q b read.1 in (
          subst (λ l. AllBegin form (sheet_bits sheet) l n) (sym noted)
              (subst (AllBegin form (sheet_bits sheet) (begun form sheet before)) read.2 (all-begin form narrow sheet b read.0 q read.1 before placed)),
          omega (arith, few, read.2),
          omega (arith, placed, read.2, ap length noted, begun-length form sheet before),
        )

    pub line_read : (size : ℕ) → show_rules size (rules_at form (sheet_bits sheet) begins n) ≡ show_line form sheet_limits size sheet
    unfolding show_line
    line_read size =
        let rules = ap₂ (rules_at form (sheet_bits sheet)) noted (sym read.2) ∙ rules-there form narrow sheet b read.0 q read.1 before placed in
        ap (show_rules size) rules ∙ sym (rw (read.1, show_line))

  pub line_refused : (size : ℕ) (f : Refusal) → r ≡ Err f → show_line form sheet_limits size sheet ≡ unwritten (code_of f.reason) f.place
  unfolding show_line
  line_refused size f e = rw (sheet-refused f e, show_line)

  pub convert-refused : (to : Form) (size : ℕ) (f : Refusal) → r ≡ Err f → convert form to sheet_limits size sheet ≡ unwritten (code_of f.reason) f.place
  unfolding convert
  convert-refused to size f e = rw (sheet-refused f e, convert)

-- the conversion of a sheet is that of the rules that were read
pub converts-read : (form to : Form) (sheet : List ℕ) (size : ℕ) (rs : List Rule) (q : ℕ) → decode form sheet_limits sheet ≡ got rs q
    → convert form to sheet_limits size sheet ≡ convert_rules to sheet_limits size rs
unfolding convert
converts-read form to sheet size rs q e = rw (e, convert) refl
