-- What the entry points promise: claims about what comes back and what the lent slices then hold, for the number of a form, a sheet and the
-- slices as they were lent. They are the contracts of the crate hours, in their words.
use Rattle.std.specs.Prelude.{◌≡◌, Bool, List, ℕ, leb, length}
use Rattle.definition.specs.Sheet.{sheet_limits}
use Rattle.definition.specs.Fold as definition
use Rattle.definition.specs.Fold.{buffer, numbers, written_numbers}
use Rattle.definition.specs.Forms.{fold_in, write_back_in, show_line_in, lookup_in, convert_in}
use Rattle.definition.specs.Lookup as state
use Rattle.answers.specs.Numbers.{write_numbers, fold_numbers, looked_up}
use Rattle.answers.specs.declared.Written.{Written}
use Rattle.answers.specs.declared.Folded.{Folded}
use Rattle.answers.specs.declared.Answer.{Answer}
use Rattle.hours.specs.Export.{put}

-- NO SECOND ANSWER FITS a promise
abbrev pub OneAnswer : {A : Type 0} → (A → Type 0) → Type 0
OneAnswer {A} Promise = (x y : A) → Promise x → Promise y → x ≡ y

-- ## An entry that writes code, bytes and place: w is the answer of the definition. The entry's answer, and the buffer after the call
abbrev pub WritesAs : definition.Written → (out : List ℕ) → Written × List ℕ → Type 0
WritesAs w out x = (write_numbers x.0 ≡ written_numbers w) × (x.1 ≡ buffer w.result out)

-- exported: whether there is an answer; the lent numbers and the buffer after the call
abbrev pub ExportedWritesAs : definition.Written → (out lent : List ℕ) → Bool × (List ℕ × List ℕ) → Type 0
ExportedWritesAs w out lent x =
    (x.0 ≡ leb 3 (length lent)) × (x.1.0 ≡ put x.0 (written_numbers w) lent) × (x.1.1 ≡ put x.0 w.result out)

-- ## The entries that write, for a form's number, a sheet and a buffer
module _ (form : ℕ) (sheet out : List ℕ) where
  abbrev pub FoldPromise : Folded × List ℕ → Type 0
  FoldPromise x = (fold_numbers x.0 ≡ numbers (fold_in sheet_limits form (length out) sheet))
      × (x.1 ≡ buffer (fold_in sheet_limits form (length out) sheet).result out)

  abbrev pub WriteBackPromise : Written × List ℕ → Type 0
  WriteBackPromise = WritesAs (write_back_in sheet_limits form (length out) sheet) out

  abbrev pub LinePromise : Written × List ℕ → Type 0
  LinePromise = WritesAs (show_line_in sheet_limits form (length out) sheet) out

  abbrev pub ConvertPromise : Written × List ℕ → Type 0
  ConvertPromise = WritesAs (convert_in sheet_limits form (length out) sheet) out

  module _ (lent : List ℕ) where
    abbrev pub ExportedFoldPromise : Bool × (List ℕ × List ℕ) → Type 0
    ExportedFoldPromise x = (x.0 ≡ leb 7 (length lent))
        × (x.1.0 ≡ put x.0 (numbers (fold_in sheet_limits form (length out) sheet)) lent)
        × (x.1.1 ≡ put x.0 (fold_in sheet_limits form (length out) sheet).result out)

    abbrev pub ExportedWriteBackPromise : Bool × (List ℕ × List ℕ) → Type 0
    ExportedWriteBackPromise = ExportedWritesAs (write_back_in sheet_limits form (length out) sheet) out lent

    abbrev pub ExportedLinePromise : Bool × (List ℕ × List ℕ) → Type 0
    ExportedLinePromise = ExportedWritesAs (show_line_in sheet_limits form (length out) sheet) out lent

    abbrev pub ExportedConvertPromise : Bool × (List ℕ × List ℕ) → Type 0
    ExportedConvertPromise = ExportedWritesAs (convert_in sheet_limits form (length out) sheet) out lent

-- ## The lookup, for a form's number, a sheet, a date and a minute
module _ (form : ℕ) (sheet : List ℕ) (year month day minute : ℕ) where
  abbrev pub LookupPromise : Answer → Type 0
  LookupPromise x = looked_up x ≡ lookup_in sheet_limits form sheet year month day minute

  -- exported: whether there is an answer; the lent numbers after the call
  abbrev pub ExportedLookupPromise : List ℕ → Bool × List ℕ → Type 0
  ExportedLookupPromise lent x = (x.0 ≡ leb 4 (length lent))
      × (x.1 ≡ put x.0 (state.numbers (lookup_in sheet_limits form sheet year month day minute)) lent)
