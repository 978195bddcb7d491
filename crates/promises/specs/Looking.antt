-- What an accepted lookup tells: the kind and comment that the drained rules say at the date's point and minute, and that the folded rules
-- say there, whatever spans that aren't simple cover. A refused one tells neither.
use Rattle.std.specs.Prelude.{◌≡◌, List, ℕ}
use Rattle.definition.specs.Rule.{kind_number, State, Rule}
use Rattle.definition.specs.Sheet.{Form, Limits}
use Rattle.definition.specs.Stop.{drained}
use Rattle.definition.specs.Group.{folded}
use Rattle.definition.specs.Date.{point_of}
use Rattle.definition.specs.Lookup.{Looked, lookup}
use Rattle.definition.specs.Saying.{Cover, says}
use Rattle.promises.specs.Conditions.{Accepted}

-- the answer has a state's kind and comment
abbrev pub Tells : Looked → State → Type 0
Tells k S = (k.kind ≡ kind_number S.kind) × (k.comment ≡ S.comment)

module _ (form : Form) (limits : Limits) (sheet : List ℕ) (y mo d m : ℕ) where
  abbrev pub LookupSays : Type 0
  LookupSays = (lookup form limits sheet y mo d m).code ≡ 0
      → (rs : List Rule) × Accepted form limits sheet rs × ((choice : Cover)
      → Tells (lookup form limits sheet y mo d m) (says choice (drained rs) (point_of y mo d) m)
      × Tells (lookup form limits sheet y mo d m) (says choice (folded (drained rs)) (point_of y mo d) m))

  abbrev pub LookupSilent : Type 0
  LookupSilent =
      ((lookup form limits sheet y mo d m).code ≡ 0 → ⊥) → ((lookup form limits sheet y mo d m).kind ≡ 0) × ((lookup form limits sheet y mo d m).comment ≡ 0)
