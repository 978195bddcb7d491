-- 02, M-107, larger sheets. Raised limits change no answer but 4 and 5: "All stored sheets remain lawful and fold to the same bytes". And M-108: "A stored
-- sheet that passes" the limit of lists "is refused from now on. .. Where this isn't refused, demands 2 and 3 read as before". And 13 in plain
-- numbers: "form 1 only, exactly when the result has more than 65,535 rules or a rule with more than 1,023 items of a sort"; "form 2 always can" carry a fold.
use Rattle.std.specs.Prelude.{◌≡◌, List, ◌⊎◌, ℕ, ◌≤◌, ◌<◌}
use Rattle.laws.specs.Lists.{All}
use Rattle.definition.specs.Rule.{Rule}
use Rattle.definition.specs.Sheet.{Form, Limits, form1, form2, sheet_limits, former_limits, decode}
use Rattle.definition.specs.Fold.{fold, write_back}
use Rattle.definition.specs.Show.{show_line}
use Rattle.definition.specs.Lookup.{lookup}
use Rattle.definition.specs.Forms.{convert}
use Rattle.promises.specs.Conditions.{written, MoreThan, Met, Accepted, Foldable}
use Rattle.promises.specs.Codes.{Exactly, FoldAnswers}
use Rattle.promises.specs.Convert.{OfFolds}

-- ## 13
-- in form 1, both ways
abbrev pub PastInForm1 : Limits → ℕ → List ℕ → Type 0
PastInForm1 limits room sheet = (p : ℕ)
    → Exactly (FoldAnswers form1 limits sheet room 13 p) ((rs : List Rule) × Foldable form1 limits sheet rs × MoreThan 65535 1023 (written rs) × (p ≡ 0))

abbrev pub NeverPast : Form → Limits → ℕ → List ℕ → Type 0
NeverPast form limits room sheet = All (λ b. b < 256) sheet → (fold form limits room sheet).code ≡ 13 → ⊥

abbrev pub NeverMany : Form → Limits → ℕ → List ℕ → Type 0
NeverMany form limits room sheet = All (λ b. b < 256) sheet → (fold form limits room sheet).code ≡ 14 → ⊥

-- codes of the fold of a sheet in form 1, and of the same sheet in form 2: where 13 refuses the one, the other is done, or lacks nothing but room
abbrev pub Form2Can : (one two : ℕ) → Type 0
Form2Can one two = (two ≡ 13 → ⊥) × (one ≡ 13 → (two ≡ 0) ⊎ (two ≡ 7))

pub record OnlyInForm1 (limits : Limits) (room : ℕ) (sheet : List ℕ) : Type 0 where
  pub exactly : PastInForm1 limits room sheet
  pub never : NeverPast form2 limits room sheet
  -- converted to form 2, and from form 2
  pub there : OfFolds form1 form2 limits room sheet (λ one two. Form2Can one.code two.code)
  pub back : OfFolds form2 form1 limits room sheet (λ two one. Form2Can one.code two.code)

-- ## Raised limits
-- "Limits go to 256 rules and 4,096 boxes in both forms; items, spans and list length stay."
pub record Raised (limits raised : Limits) : Type 0 where
  pub rules-raised : limits.rules ≤ raised.rules
  pub items-raised : limits.items ≤ raised.items
  pub spans-raised : limits.spans ≤ raised.spans
  pub boxes-raised : limits.boxes ≤ raised.boxes
  pub entries-kept : raised.entries ≡ limits.entries

-- codes of an entry under both: the first refuses neither by 5 nor by 14, and the second not by 14, whatever their limits of lists
abbrev pub Stays : (before now : ℕ) → Type 0
Stays before now = (before ≡ 5 → ⊥) × (before ≡ 14 → ⊥) × (now ≡ 14 → ⊥)

-- the same reading, and the same answer of each entry: numbers and bytes; fold and lookup, where 5 didn't refuse them nor 14 does
pub record SameAnswers (form : Form) (limits raised : Limits) (sheet : List ℕ) : Type 0 where
  pub same-reading : decode form raised sheet ≡ decode form limits sheet
  pub same_fold : (room : ℕ) → Stays (fold form limits room sheet).code (fold form raised room sheet).code → fold form raised room sheet ≡ fold form limits room sheet
  pub same-lookup : (y mo d m : ℕ) → Stays (lookup form limits sheet y mo d m).code (lookup form raised sheet y mo d m).code
      → lookup form raised sheet y mo d m ≡ lookup form limits sheet y mo d m
  pub same_back : (room : ℕ) → write_back form raised room sheet ≡ write_back form limits room sheet
  pub same_line : (room : ℕ) → show_line form raised room sheet ≡ show_line form limits room sheet
  pub same-conversion : (to : Form) (room : ℕ) → convert form to raised room sheet ≡ convert form to limits room sheet

-- THE LAW, of whatever 4 doesn't refuse; and so of accepted sheets, which remain lawful
abbrev pub RaisedKeeps : Form → Limits → Limits → Type 0
RaisedKeeps form limits raised = (sheet : List ℕ) → ((p : ℕ) → Met form limits sheet 4 p → ⊥) → SameAnswers form limits raised sheet

abbrev pub RemainLawful : Form → Limits → Limits → Type 0
RemainLawful form limits raised = (sheet : List ℕ) (rs : List Rule) → Accepted form limits sheet rs → Accepted form raised sheet rs × SameAnswers form limits raised sheet

-- ## Sheets that were stored, in a form, under 01's limits
pub record StoredSheets (form : Form) : Type 0 where
  pub answers : RaisedKeeps form former_limits sheet_limits
  pub lawful : RemainLawful form former_limits sheet_limits
  -- under those limits 13 never comes, and a sheet that they let fold isn't refused by it now
  pub never-before : (room : ℕ) (sheet : List ℕ) → NeverPast form former_limits room sheet
  pub never-now : (room : ℕ) (sheet : List ℕ) (rs : List Rule) → Accepted form former_limits sheet rs → ((fold form former_limits room sheet).code ≡ 5 → ⊥)
      → NeverPast form sheet_limits room sheet
  -- nor did 14 come: 01 has no limit of lists
  pub never-many : (room : ℕ) (sheet : List ℕ) → NeverMany form former_limits room sheet
