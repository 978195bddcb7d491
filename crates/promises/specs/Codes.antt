-- Demand 1: when each code comes, and with which place, both ways: the table of 01 for the fold, for writing back and for the lookup, with 02's
-- 11, 14 and 13, and 02's for the line; the conversion's stands in Convert. A number that stands in no row is never answered.
use Rattle.std.specs.Prelude.{◌≡◌, List, [], map, Bool, true, false, ◌&&◌, ℕ, eqb, ltb}
use Rattle.laws.specs.Lists.{All}
use Rattle.definition.specs.Field.{sheet_bits, days_twice, many_boxes, long_list, many_lists, past_counts, no_date, unsettled, no_words}
use Rattle.definition.specs.Rule.{midnight24, Rule}
use Rattle.definition.specs.Sheet.{Form, Limits, encode}
use Rattle.definition.specs.Stop.{drained, left}
use Rattle.definition.specs.Point.{list_at}
use Rattle.definition.specs.Day.{entry_of, flattened, simple}
use Rattle.definition.specs.Date.{is_date, point_of}
use Rattle.definition.specs.Fold.{fold, write_back}
use Rattle.definition.specs.Line.{line}
use Rattle.definition.specs.Show.{show_line}
use Rattle.definition.specs.Lookup.{lookup}
use Rattle.promises.specs.Fields.{FieldKind, Refused}
use Rattle.promises.specs.Conditions.{Met, Accepted, written, DaysTwice, ManyBoxes, LongList, ManyLists, Foldable, PastCounts, Writable, NoWords, Showable, given, ReadingRows, WritingRows}

-- the one exactly when the other
pub record Exactly (A B : Type 0) : Type 0 where
  pub only : A → B
  pub always : B → A

-- what an accepted fold writes: the folded rules, then the rules left
abbrev pub result : Form → Limits → List Rule → List ℕ
result form limits rs = encode form limits (written rs)

-- there are such a date and minute
abbrev pub dated : ℕ → ℕ → ℕ → ℕ → Bool
dated y mo d m = is_date y mo d && ltb m midnight24

-- no rule is left, and the list of the date's point holds simple spans only
abbrev pub Settled : ℕ → ℕ → ℕ → List Rule → Type 0
Settled y mo d rs = (left rs ≡ []) × All (λ x. simple x.1 ≡ true) (flattened (map entry_of (list_at (drained rs) (point_of y mo d))))

module _ (form : Form) (limits : Limits) (sheet : List ℕ) where
  -- ## 1, 2 and 4: the field that begins at the place runs past the end, or holds a value that isn't lawful in it
  abbrev pub FieldNamed : Type 0
  FieldNamed = (c p : ℕ) → Met form limits sheet c p → (k : FieldKind) × Refused form limits (sheet_bits sheet) k c p

  -- ## The fold, into a buffer of `room` bytes
  module _ (room : ℕ) where
    abbrev pub FoldRows : ℕ → ℕ → Type 0
    FoldRows c p = ReadingRows form limits sheet c p
        (given (eqb c days_twice) (DaysTwice form limits sheet p)
        (given (eqb c many_boxes) (ManyBoxes form limits sheet p)
        (given (eqb c long_list) (LongList form limits sheet p)
        (given (eqb c many_lists) (ManyLists form limits sheet p)
        (given (eqb c past_counts) (PastCounts form limits sheet p)
        (WritingRows room (Writable form limits sheet) (result form limits) c p))))))

    abbrev pub FoldAnswers : ℕ → ℕ → Type 0
    FoldAnswers c p = ((fold form limits room sheet).code ≡ c) × ((fold form limits room sheet).place ≡ p)

    abbrev pub FoldCodes : Type 0
    FoldCodes = (c p : ℕ) → Exactly (FoldAnswers c p) (FoldRows c p)

  -- ## Writing back, into a buffer of `room` bytes
  module _ (room : ℕ) where
    abbrev pub BackRows : ℕ → ℕ → Type 0
    BackRows c p = ReadingRows form limits sheet c p (WritingRows room (Accepted form limits sheet) (encode form limits) c p)

    abbrev pub BackAnswers : ℕ → ℕ → Type 0
    BackAnswers c p = ((write_back form limits room sheet).code ≡ c) × ((write_back form limits room sheet).place ≡ p)

    abbrev pub BackCodes : Type 0
    BackCodes = (c p : ℕ) → Exactly (BackAnswers c p) (BackRows c p)

  -- ## The line, into a buffer of `room` bytes
  module _ (room : ℕ) where
    abbrev pub LineRows : ℕ → ℕ → Type 0
    LineRows c p = ReadingRows form limits sheet c p
        (given (eqb c no_words) (NoWords form limits sheet p) (WritingRows room (Showable form limits sheet) line.write c p))

    abbrev pub LineAnswers : ℕ → ℕ → Type 0
    LineAnswers c p = ((show_line form limits room sheet).code ≡ c) × ((show_line form limits room sheet).place ≡ p)

    abbrev pub LineCodes : Type 0
    LineCodes = (c p : ℕ) → Exactly (LineAnswers c p) (LineRows c p)

  -- ## The lookup, of a year, month, day and minute
  module _ (y mo d m : ℕ) where
    abbrev pub LookupRows : ℕ → ℕ → Type 0
    LookupRows c p = ReadingRows form limits sheet c p
        (given (eqb c no_date) ((rs : List Rule) × Accepted form limits sheet rs × (dated y mo d m ≡ false) × (p ≡ 0))
        (given (eqb c days_twice) ((dated y mo d m ≡ true) × DaysTwice form limits sheet p)
        (given (eqb c many_boxes) ((dated y mo d m ≡ true) × ManyBoxes form limits sheet p)
        (given (eqb c long_list) ((dated y mo d m ≡ true) × LongList form limits sheet p)
        (given (eqb c many_lists) ((dated y mo d m ≡ true) × ManyLists form limits sheet p)
        (given (eqb c unsettled) ((rs : List Rule) × (dated y mo d m ≡ true) × Foldable form limits sheet rs × (Settled y mo d rs → ⊥) × (p ≡ 0))
        (given (eqb c 0) ((rs : List Rule) × (dated y mo d m ≡ true) × Foldable form limits sheet rs × Settled y mo d rs × (p ≡ 0)) ⊥)))))))

    abbrev pub LookupAnswers : ℕ → ℕ → Type 0
    LookupAnswers c p = ((lookup form limits sheet y mo d m).code ≡ c) × ((lookup form limits sheet y mo d m).place ≡ p)

    abbrev pub LookupCodes : Type 0
    LookupCodes = (c p : ℕ) → Exactly (LookupAnswers c p) (LookupRows c p)
