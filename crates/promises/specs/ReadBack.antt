-- Demand 3, from bytes to bytes: what an accepted fold wrote can be read again, and its rules mean what the sheet's mean. 01 sets limits to
-- what a sheet is read from and none to what is written, so it is read with the limits of the counts' own widths: a folded rule may
-- have more than 16 items, and a fold more than 256 rules. What these counts can't carry isn't written: 13 refuses it.
use Rattle.std.specs.Prelude.{◌≡◌, List, ℕ, ◌<◌}
use Rattle.laws.specs.Lists.{All}
use Rattle.definition.specs.Rule.{Rule}
use Rattle.definition.specs.Sheet.{Form, Limits, most_rules, most_items}
use Rattle.definition.specs.Fold.{fold}
use Rattle.promises.specs.Meaning.{SameMeaning}
use Rattle.promises.specs.Conditions.{written, Accepted}

-- as many rules, items and spans as the counts of the form can carry
abbrev pub widest : Form → Limits → Limits
widest form limits = record {
  rules = most_rules form;
  items = most_items form;
  spans = most_items form;
  boxes = limits.boxes;
  entries = limits.entries;
  lists = limits.lists;
}

-- THE STATEMENT: rs are the rules of the sheet
abbrev pub FoldReads : Form → Limits → ℕ → List ℕ → Type 0
FoldReads form limits room sheet = All (λ b. b < 256) sheet → (fold form limits room sheet).code ≡ 0
    → (rs : List Rule) × Accepted form limits sheet rs × Accepted form (widest form limits) (fold form limits room sheet).result (written rs) × SameMeaning rs (written rs)
