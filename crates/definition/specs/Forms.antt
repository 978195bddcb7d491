-- 02, M-106: "The caller says which form is meant, and a fold keeps it .. Stored sheets move to form 2 and back, each giving the original bytes when
-- returned." "Refusals: 2 with place 0, before all others, where the caller's form is neither 1 nor 2 ..; 12, going back, exactly when a comment is above
-- 65,535; place the first such rule's index; after 3, before 7." Here stand the entries as a caller calls them, by a form's number.
use Rattle.std.specs.Prelude.{List, cond, ℕ, ◌^◌, eqb, leb}
use Rattle.std.proofs.Math.Option.{Option, none, some}
use Rattle.laws.specs.Lists.{first_index}
use Rattle.definition.specs.Field.{got, refused, unlawful, long_comment}
use Rattle.definition.specs.Rule.{Rule}
use Rattle.definition.specs.Sheet.{Form, Limits, form1, form2, decode, encode}
use Rattle.definition.specs.Fold.{Folded, refusal, Written, unwritten, written_into, fold, write_back}
use Rattle.definition.specs.Show.{show_line}
use Rattle.definition.specs.Lookup as state

-- ## Moving a sheet to another form
-- going to form 1, a comment above 65,535 has no room; going to form 2, every comment that form 1 carries has
unfoldable pub first_long_comment : Form → List Rule → Option ℕ
first_long_comment to rs = first_index (λ r. leb (2 ^ to.comment) r.state.comment) rs

-- rules into a buffer of `room` bytes, in a form
unfoldable pub convert_rules : Form → Limits → ℕ → List Rule → Written
convert_rules to limits room rs = elim (first_long_comment to rs) [ some k ↦ unwritten long_comment k | none ↦ written_into room (encode to limits rs) ]

-- THE CONVERSION OF A SHEET from one form to another
unfoldable pub convert : Form → Form → Limits → ℕ → List ℕ → Written
convert from to limits room sheet = elim (decode from limits sheet) [ refused c p ↦ unwritten c p | got rs q ↦ convert_rules to limits room rs ]

-- the form that a sheet of this form moves to
abbrev pub other : Form → Form
other form = cond (eqb form.number 1) form2 form1

-- ## The caller's form
unfoldable pub form_named : ℕ → Option Form
form_named n = cond (eqb n 1) (some form1) (cond (eqb n 2) (some form2) none)

-- an entry in the form that the caller's number names; refused where it names none
unfoldable pub in_form : {A : Type 0} → (ℕ → ℕ → A) → (Form → A) → ℕ → A
in_form refusal entry n = elim (form_named n) [ none ↦ refusal unlawful 0 | some form ↦ entry form ]

-- ## THE ENTRIES
module _ (limits : Limits) (n : ℕ) where
  unfoldable pub fold_in : ℕ → List ℕ → Folded
  fold_in room sheet = in_form refusal (λ form. fold form limits room sheet) n

  unfoldable pub write_back_in : ℕ → List ℕ → Written
  write_back_in room sheet = in_form unwritten (λ form. write_back form limits room sheet) n

  unfoldable pub show_line_in : ℕ → List ℕ → Written
  show_line_in room sheet = in_form unwritten (λ form. show_line form limits room sheet) n

  unfoldable pub lookup_in : List ℕ → ℕ → ℕ → ℕ → ℕ → state.Looked
  lookup_in sheet y mo d m = in_form state.refusal (λ form. state.lookup form limits sheet y mo d m) n

  -- "Stored sheets move to form 2 and back"
  unfoldable pub convert_in : ℕ → List ℕ → Written
  convert_in room sheet = in_form unwritten (λ form. convert form (other form) limits room sheet) n
