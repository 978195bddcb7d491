-- 02, M-106, the conversion: when each code comes, and with which place, both ways; what is written; that what comes out, "when returned", gives "the
-- original bytes"; and that nothing else depends on the form: a sheet and the sheet that it is converted to are looked up alike, have the same line, and
-- their folds have the same numbers, the one fold being the other converted, but where a form's counts can't carry its fold or there is no room for it.
use Rattle.std.specs.Prelude.{◌≡◌, List, ◌⊎◌, ℕ, ◌^◌, ◌≤◌, ◌<◌, eqb, leb, ltb, length}
use Rattle.laws.specs.Lists.{All, FirstAt}
use Rattle.definition.specs.Field.{no_room, long_comment, past_counts}
use Rattle.definition.specs.Rule.{Rule}
use Rattle.definition.specs.Sheet.{Form, Limits, form1, form2, encode}
use Rattle.definition.specs.Fold.{Folded, Written, fold}
use Rattle.definition.specs.Show.{show_line}
use Rattle.definition.specs.Lookup.{lookup}
use Rattle.definition.specs.Forms.{convert}
use Rattle.promises.specs.Conditions.{Accepted, given, ReadingRows, WritingRows}
use Rattle.promises.specs.Codes.{Exactly}
use Rattle.promises.specs.Counts.{NothingWritten}
use Rattle.promises.specs.ReadBack.{widest}

-- ## Comments
-- the first rule whose comment has no room in the form has the index k; and every comment has room
abbrev pub FirstWithoutRoom : Form → List Rule → ℕ → Type 0
FirstWithoutRoom to rs k = FirstAt (λ r. leb (2 ^ to.comment) r.state.comment) rs k

abbrev pub AllHaveRoom : Form → List Rule → Type 0
AllHaveRoom to rs = All (λ r. r.state.comment < 2 ^ to.comment) rs

module _ (from to : Form) (limits : Limits) (sheet : List ℕ) where
  -- 12
  abbrev pub LongComment : ℕ → Type 0
  LongComment p = (rs : List Rule) × Accepted from limits sheet rs × FirstWithoutRoom to rs p

  -- neither 1 to 4 nor 12
  abbrev pub Movable : List Rule → Type 0
  Movable rs = Accepted from limits sheet rs × AllHaveRoom to rs

  -- ## THE TABLE, of the conversion into a buffer of `room` bytes
  module _ (room : ℕ) where
    -- behind the rows of reading: 12, then 7 and 0
    abbrev pub MovingRows : ℕ → ℕ → Type 0
    MovingRows c p = given (eqb c long_comment) (LongComment p) (WritingRows room Movable (encode to limits) c p)

    abbrev pub ConvertRows : ℕ → ℕ → Type 0
    ConvertRows c p = ReadingRows from limits sheet c p (MovingRows c p)

    abbrev pub ConvertAnswers : ℕ → ℕ → Type 0
    ConvertAnswers c p = ((convert from to limits room sheet).code ≡ c) × ((convert from to limits room sheet).place ≡ p)

    abbrev pub ConvertCodes : Type 0
    ConvertCodes = (c p : ℕ) → Exactly (ConvertAnswers c p) (ConvertRows c p)

    -- ## What is written: the same rules in the other form; a refused sheet isn't written
    abbrev pub ConvertWrites : Type 0
    ConvertWrites = (convert from to limits room sheet).code ≡ 0
        → (rs : List Rule) × Movable rs × ((convert from to limits room sheet).result ≡ encode to limits rs)
        × ((convert from to limits room sheet).bytes ≡ length (encode to limits rs))

    abbrev pub ConvertNothing : Type 0
    ConvertNothing = NothingWritten (convert from to limits room sheet)

-- "12, going back, exactly when a comment is above 65,535; place the first such rule's index"; and going to form 2 never
abbrev pub LongGoingBack : Limits → ℕ → List ℕ → Type 0
LongGoingBack limits room sheet = (p : ℕ)
    → Exactly (ConvertAnswers form2 form1 limits sheet room 12 p)
    ((rs : List Rule) × Accepted form2 limits sheet rs × FirstAt (λ r. ltb 65535 r.state.comment) rs p)

abbrev pub NeverLong : Form → Form → Limits → ℕ → List ℕ → Type 0
NeverLong from to limits room sheet = All (λ b. b < 256) sheet → (convert from to limits room sheet).code ≡ 12 → ⊥

-- ## There and back
-- "each giving the original bytes when returned": what the one conversion wrote, the other turns into the sheet, in any buffer that has room for it
abbrev pub GivesBack : (there back : ℕ → List ℕ → Written) → Type 0
GivesBack there back = (room room_back : ℕ) (sheet : List ℕ) → All (λ b. b < 256) sheet → (there room sheet).code ≡ 0 → length sheet ≤ room_back
    → back room_back (there room sheet).result ≡ record { code = 0; bytes = length sheet; place = 0; result = sheet }

-- ## What doesn't depend on the form
-- all numbers of two folds but how many bytes were written
pub record SameNumbers (f g : Folded) : Type 0 where
  pub same_code : f.code ≡ g.code
  pub same-drained : f.drained ≡ g.drained
  pub same-emitted : f.emitted ≡ g.emitted
  pub same_left : f.left ≡ g.left
  pub same_place : f.place ≡ g.place
  pub same-why : f.why ≡ g.why

-- codes of a fold that is held back by its form, whose counts can't carry it, or by its buffer, which has no room for it; and of one that is so, or done
abbrev pub HeldBack : ℕ → Type 0
HeldBack c = (c ≡ past_counts) ⊎ (c ≡ no_room)

abbrev pub DoneOrHeld : ℕ → Type 0
DoneOrHeld c = (c ≡ 0) ⊎ HeldBack c

-- a sheet, and what it is converted to
module _ (from to : Form) (limits : Limits) (room : ℕ) (sheet : List ℕ) where
  abbrev OfMoved : (List ℕ → Type 0) → Type 0
  OfMoved P = All (λ b. b < 256) sheet → (convert from to limits room sheet).code ≡ 0 → P (convert from to limits room sheet).result

  abbrev pub LookupMoves : Type 0
  LookupMoves = OfMoved (λ moved. (y mo d m : ℕ) → lookup to limits moved y mo d m ≡ lookup from limits sheet y mo d m)

  abbrev pub LineMoves : Type 0
  LineMoves = OfMoved (λ moved. (line_room : ℕ) → show_line to limits line_room moved ≡ show_line from limits line_room sheet)

  -- their folds, each into a buffer of its own
  abbrev pub OfFolds : (Folded → Folded → Type 0) → Type 0
  OfFolds P = OfMoved (λ moved. (room_here room_there : ℕ) → P (fold from limits room_here sheet) (fold to limits room_there moved))

  -- the one is done or held back exactly when the other is
  abbrev pub FoldsAlike : Type 0
  FoldsAlike = OfFolds (λ f g. Exactly (DoneOrHeld f.code) (DoneOrHeld g.code))

  -- where neither is held back. What the first wrote is read with the limits of the counts' own widths, since it may pass those of a sheet
  abbrev pub FoldMoves : Type 0
  FoldMoves = OfFolds (λ f g. (HeldBack f.code → ⊥) → (HeldBack g.code → ⊥)
      → SameNumbers f g × (f.code ≡ 0 → (room_moved : ℕ) → length g.result ≤ room_moved
      → convert from to (widest from limits) room_moved f.result ≡ record { code = 0; bytes = length g.result; place = 0; result = g.result }))

-- ## ALL OF THIS, from one form to another
pub record Moves (from to : Form) (limits : Limits) : Type 0 where
  pub back : GivesBack (convert from to limits) (convert to from limits)
  pub looked-up : (room : ℕ) (sheet : List ℕ) → LookupMoves from to limits room sheet
  pub shown : (room : ℕ) (sheet : List ℕ) → LineMoves from to limits room sheet
  pub alike : (room : ℕ) (sheet : List ℕ) → FoldsAlike from to limits room sheet
  pub folded : (room : ℕ) (sheet : List ℕ) → FoldMoves from to limits room sheet
