-- 01, "State lookup": "Takes a sheet, a year, month, day and minute (0 to 1439); gives kind and comment of the last covering span in that
-- point's list, else Closed and 0. .. It answers code, kind, comment and the table's place; refused, kind and comment are 0."
-- Refusals: 1 to 4, then 8, 11 (02, M-101), 5, 6 and 14 (M-108), 9. 9: "a rule is left, or the point's list holds a non-simple span".
use Rattle.std.specs.Prelude.{List, [], ◌∷◌, map, Bool, true, false, ◌&&◌, ◌||◌, not, ℕ, ltb}
use Rattle.laws.specs.Lists.{any_of}
use Rattle.definition.specs.Field.{got, refused, no_date, unsettled}
use Rattle.definition.specs.Rule.{kind_number, midnight24, State, closed, Rule}
use Rattle.definition.specs.Sheet.{Form, Limits, decode}
use Rattle.definition.specs.Stop.{drained, left}
use Rattle.definition.specs.Point.{list_at}
use Rattle.definition.specs.Day.{entry_of, flattened, simple, within, last_over}
use Rattle.definition.specs.Fold.{fine, over, drain}
use Rattle.definition.specs.Date.{is_date, point_of}

pub record Looked : Type 0 where
  pub code : ℕ
  pub kind : ℕ
  pub comment : ℕ
  pub place : ℕ

-- the numbers in 01's order
abbrev pub numbers : Looked → List ℕ
numbers k = k.code ∷ k.kind ∷ k.comment ∷ k.place ∷ []

abbrev pub refusal : ℕ → ℕ → Looked
refusal c p = record { code = c; kind = 0; comment = 0; place = p }

abbrev pub found : State → Looked
found S = record { code = 0; kind = kind_number S.kind; comment = S.comment; place = 0 }

abbrev pub any_left : List Rule → Bool
any_left [] = false
any_left (r ∷ rs) = true

-- the state at a point and minute, by the spans of its list l; 9 where a rule is left (`rest`) or a span of l isn't simple
unfoldable pub state_at : List Rule → List Rule → ℕ → Looked
state_at rest l m =
    let xs = flattened (map entry_of l) in
    elim (any_left rest || any_of (λ x. not (simple x.1)) xs) [ true ↦ refusal unsettled 0 | false ↦ found (last_over within closed xs m) ]

unfoldable pub look_rules : Limits → List Rule → ℕ → ℕ → ℕ → ℕ → Looked
look_rules limits rs y mo d m = elim (is_date y mo d && ltb m midnight24) [
  | false ↦ refusal no_date 0
  | true ↦ elim (drain limits (drained rs)) [ over c p ↦ refusal c p | fine ↦ state_at (left rs) (list_at (drained rs) (point_of y mo d)) m ]
]

-- THE LOOKUP IN A SHEET
unfoldable pub lookup : Form → Limits → List ℕ → ℕ → ℕ → ℕ → ℕ → Looked
lookup form limits sheet y mo d m = elim (decode form limits sheet) [ refused c p ↦ refusal c p | got rs q ↦ look_rules limits rs y mo d m ]
