-- THE CALLER'S FORM: one law of entries by a form's number, of which the five entries are instances; and so the conversion there and back, as a caller
-- calls it. Rests on the definition, and on the law of there and back.
use mathlib.Core.Path.{◌≡◌, refl}
use mathlib.Core.List.{List}
use mathlib.Core.Option.{none}
use Prim.Native.Nat.{ℕ}
use borrow.Author.Tests.{ne_eqb}
use Rattle.definition.specs.Sheet.{Form, Limits, sheet_limits}
use Rattle.definition.specs.Forms.{form_named, in_form, fold_in, write_back_in, show_line_in, lookup_in, convert_in}
use Rattle.promises.specs.Convert.{GivesBack}
use Rattle.promises.specs.CallersForm.{ByNumber, EntriesByNumber}
use Rattle.promises.proofs.ThereAndBack.{moves-there, moves-back}

by_number : {A : Type 0} (refusal : ℕ → ℕ → A) (entry : Form → A) → ByNumber refusal entry (in_form refusal entry)
unfolding in_form form_named
by_number refusal entry = record {
  one = refl;
  two = refl;
  neither = λ n h k. let e : form_named n ≡ none = rw (ne_eqb n 1 h, ne_eqb n 2 k) in rw (e, in_form);
}

pub entries-by-number : (limits : Limits) (sheet : List ℕ) → EntriesByNumber limits sheet
unfolding fold_in write_back_in show_line_in lookup_in convert_in
entries-by-number limits sheet = record {
  folds = λ room. by_number _ _;
  writes-back = λ room. by_number _ _;
  shows = λ room. by_number _ _;
  looks-up = λ y mo d m. by_number _ _;
  converts = λ room. by_number _ _;
}

-- THERE AND BACK, from form 1 and from form 2
pub back-to-one : GivesBack (convert_in sheet_limits 1) (convert_in sheet_limits 2)
unfolding convert_in in_form form_named
back-to-one = moves-there.back

pub back-to-two : GivesBack (convert_in sheet_limits 2) (convert_in sheet_limits 1)
unfolding convert_in in_form form_named
back-to-two = moves-back.back
