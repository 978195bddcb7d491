-- DEMAND 1 AND 2, WRITING BACK: an entry that writes, with no code of its own; an accepted sheet is written as it came. Rests on the law of such
-- entries, and on the round trip of sheets.
use mathlib.Core.Path.{ap, ◌∙◌}
use mathlib.Core.List.{List}
use mathlib.Core.Logic.{inr}
use Prim.Native.Nat.{ℕ}
use lib.ListN.{length}
use Rattle.definition.specs.Sheet.{Form, Limits, encode}
use Rattle.definition.specs.Fold.{write_back}
use Rattle.definition.proofs.SheetRead.{encode-decoded}
use Rattle.promises.specs.Conditions.{Accepted, WritingRows}
use Rattle.promises.specs.Codes.{BackCodes}
use Rattle.promises.specs.Counts.{BackWrites, BackNothing}
use Rattle.promises.proofs.Entries.{Entry, entry-codes, entry-writes, entry-nothing}

module _ (form : Form) (limits : Limits) (room : ℕ) (sheet : List ℕ) where
  back : Entry form limits sheet room (write_back form limits room sheet) (Accepted form limits sheet) (encode form limits)
      (WritingRows room (Accepted form limits sheet) (encode form limits))
  unfolding write_back
  back = record {
    refused-answer = λ c p e. rw (e, write_back);
    ready-answer = λ rs a. rw (a.1, write_back);
    accepted-cases = λ rs a. inr a;
    row-cases = λ c p h. inr h;
    room_row = λ p h. h;
    done-row = λ p. record { only = λ h. h; always = λ h. h };
  }

  -- THE TABLE
  pub back-codes : BackCodes form limits sheet room
  back-codes = entry-codes back

  -- WHAT IS WRITTEN: the sheet as it came, or nothing
  pub back-writes : BackWrites form limits room sheet
  back-writes e whole =
      let k = entry-writes back e in
      let same = (encode-decoded form limits sheet whole k.0 k.1.0 k.1.1).1 in
      (ap (λ w. w.result) k.2 ∙ same, ap (λ w. w.bytes) k.2 ∙ ap length same)

  pub back-nothing : BackNothing form limits room sheet
  back-nothing = entry-nothing back
