-- THE PROMISES IN ONE PIECE, of the entries themselves. Of the fold: what it leaves in the buffer, read again, means what the sheet means, in
-- groups that share no point, with the same rules left, whatever minutes are chosen for spans that aren't simple; its numbers are counts, and
-- the last of them says why it stopped; and a stored sheet that 14 doesn't refuse is folded as under 01's limits. Of the lookup: what it tells
-- is what the rules in that buffer say at that moment. Of the conversion: what it leaves in the buffer, converted back, is the sheet.
use Rattle.std.specs.Prelude.{◌≡◌, List, ℕ, ◌≤◌, length, take, drop}
use Rattle.std.proofs.Math.Option.{some}
use Rattle.definition.specs.Rule.{Rule}
use Rattle.definition.specs.Sheet.{Form, sheet_limits, former_limits}
use Rattle.definition.specs.Stop.{drained, left, why}
use Rattle.definition.specs.Date.{point_of}
use Rattle.definition.specs.Saying.{Cover, says}
use Rattle.definition.specs.Fold.{buffer, numbers, fold}
use Rattle.definition.specs.Forms.{form_named}
use Rattle.answers.specs.Numbers.{fold_numbers, looked_up}
use Rattle.answers.specs.declared.Folded.{Folded}
use Rattle.answers.specs.declared.Answer.{Answer}
use Rattle.answers.specs.declared.Written.{Written}
use Rattle.promises.specs.Conditions.{Accepted}
use Rattle.promises.specs.Meaning.{SameMeaning}
use Rattle.promises.specs.ReadBack.{widest}
use Rattle.promises.specs.Looking.{Tells}

-- the rules that stand at the front of the buffer after a fold, in as many bytes as the answer tells; x is the answer with that buffer
abbrev pub Holds : Form → Folded × List ℕ → List Rule → Type 0
Holds form x ws = Accepted form (widest form sheet_limits) (take x.0.bytes x.1) ws

-- ## The fold, of a form's number, and a sheet and a buffer as they were lent
module _ (number : ℕ) (sheet out : List ℕ) (x : Folded × List ℕ) where
  -- accepted; the number names the form, and the fold keeps it; rs are the rules of the sheet, ws those in the buffer
  pub record FoldMeans (form : Form) (rs ws : List Rule) : Type 0 where
    pub form-named : form_named number ≡ some form
    pub sheet-read : Accepted form sheet_limits sheet rs
    pub buffer-read : Holds form x ws
    pub same-meaning : SameMeaning rs ws
    pub drained-counted : x.0.drained ≡ length (drained rs)
    pub emitted-counted : x.0.emitted ≡ length (drained ws)
    pub left-counted : x.0.left ≡ length (left rs)
    pub why-told : x.0.why ≡ why rs
    pub within-room : x.0.bytes ≤ length out
    pub later-bytes : drop x.0.bytes x.1 ≡ drop x.0.bytes out

  -- refused
  pub record FoldNothing : Type 0 where
    pub none-drained : x.0.drained ≡ 0
    pub none_emitted : x.0.emitted ≡ 0
    pub none_left : x.0.left ≡ 0
    pub no-reason : x.0.why ≡ 0
    pub no_bytes : x.0.bytes ≡ 0
    pub untouched : x.1 ≡ out

  -- THE STATEMENT
  abbrev pub FoldTheorem : Type 0
  FoldTheorem = (x.0.code ≡ 0 → (form : Form) × (rs : List Rule) × (ws : List Rule) × FoldMeans form rs ws) × ((x.0.code ≡ 0 → ⊥) → FoldNothing)

  -- ## The fold of a stored sheet, which 01's limits accepted
  -- THE STATEMENT, where these didn't refuse it by 5 and it isn't refused by 14 now: the numbers and the buffer are as under them
  abbrev pub StoredTheorem : Type 0
  StoredTheorem = (form : Form) → form_named number ≡ some form → (rs : List Rule) → Accepted form former_limits sheet rs
      → let before = fold form former_limits (length out) sheet in
      (before.code ≡ 5 → ⊥) → (x.0.code ≡ 14 → ⊥) → (fold_numbers x.0 ≡ numbers before) × (x.1 ≡ buffer before.result out)

  -- ## The lookup in that sheet, of a date and a minute; a is its answer
  -- THE STATEMENT, where both are accepted: ws are the rules in the fold's buffer
  abbrev pub LookupTheorem : (year month day minute : ℕ) → Answer → Type 0
  LookupTheorem year month day minute a = x.0.code ≡ 0 → a.code ≡ 0 → (form : Form) → form_named number ≡ some form → (ws : List Rule) → Holds form x ws
      → (choice : Cover) → Tells (looked_up a) (says choice (drained ws) (point_of year month day) minute)

-- ## The conversion, there and back
-- what a conversion left at the front of its buffer; x is its answer with that buffer
abbrev pub converted : Written × List ℕ → List ℕ
converted x = take x.0.bytes x.1

-- THE STATEMENT, where `there` is of the sheet, and `back` of what `there` left, into a buffer of `room` bytes
abbrev pub ReturnTheorem : (sheet : List ℕ) (room : ℕ) (there back : Written × List ℕ) → Type 0
ReturnTheorem sheet room there back = there.0.code ≡ 0 → length sheet ≤ room → (back.0.code ≡ 0) × (converted back ≡ sheet)
