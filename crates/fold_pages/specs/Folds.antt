-- What popping groups and folding boxes leave in the buffer of pages.
use Rattle.std.specs.Prelude.{◌≡◌, List, ℕ, length}
use Rattle.std.proofs.lemmas.List.Edits.{sets}
use Rattle.definition.specs.Rule.{Rule}
use Rattle.definition.specs.Sheet.{Form}
use Rattle.paving.specs.Sweep.{groups_from}
use Rattle.paving_pages.specs.Pages.{groups_numbers}
use Rattle.tables.specs.Rules.{AllCommented, RuleTimes}
use Rattle.tables.specs.Lists.{BoxLists}
use Rattle.tables.specs.Pages.{Paged}
use Rattle.tables.specs.declared.lent.Cuts.{Cuts}
use Rattle.tables.specs.declared.lent.DrainedRules.{DrainedRules}

-- the numbers of all groups of boxes that have one day
abbrev pub group_numbers : Cuts → List ℕ → List ℕ → List ℕ
group_numbers cuts cells classes =
    groups_numbers cuts.row_starts.now cuts.cuts.now cuts.sizes.now 4 (groups_from cells classes cuts.sizes.now 5 1 4)

-- they stand at the front of the pages, so many
abbrev pub Popped : Cuts → List ℕ → List ℕ → List ℕ → List ℕ → ℕ → Type 0
Popped cuts cells classes pages pages' stop =
    (stop ≡ length (group_numbers cuts cells classes)) × (pages' ≡ sets pages 0 (group_numbers cuts cells classes))

-- so many pages stand for the fold of the rules whose lists the boxes have
abbrev pub Folds : DrainedRules → Cuts → List ℕ → List ℕ → ℕ → List ℕ → ℕ → Type 0
Folds rules cuts lists cells used pages count =
    (rs : List Rule) (form : Form) → RuleTimes rules.states.now rules.span_counts.now rules.spans.now rs
    → BoxLists cuts.row_starts.now cuts.sizes.now cuts.cuts.now cells lists used rs → AllCommented form rs
    → Paged form rules.states.now rules.span_counts.now rules.spans.now lists pages count rs
