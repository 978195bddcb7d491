-- An answer that shows a tale: it has the bit after what was read, the place after its text, and whether some of it has no words; and the text
-- stands in the buffer.
use Rattle.std.specs.Prelude.{◌≡◌, List, true, ℕ}
use Rattle.text.specs.Put.{Put}
use Rattle.rule_text.specs.declared.shown.Shown.{Shown}
use Rattle.rule_text.specs.Tale.{Tale}

abbrev pub silent : ℕ → ℕ → Shown
silent at to = record { at = at; to = to; wordless = true }

pub record Shows (told : Tale) (before : List ℕ) (place : ℕ) (r : Shown) (after : List ℕ) : Type 0 where
  pub read-to : r.at ≡ told.next
  pub lacks : r.wordless ≡ told.wordless
  pub put : Put before place told.text r.to after
