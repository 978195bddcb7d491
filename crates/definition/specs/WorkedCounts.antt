-- THE WORKED COUNTS, one table of cases under one statement: what 02's M-107 says of results on both sides of what a form's counts can carry. No sheet that
-- folds to so much is computed here; a case begins where the drained rules are judged and folded.
use Rattle.std.specs.Prelude.{◌≡◌, List, [], ◌∷◌, Bool, true, false, ℕ, replicate}
use Rattle.definition.specs.Field.{past_counts, no_room}
use Rattle.definition.specs.Rule.{Normal, Fallback, closed, Rule, no_rule}
use Rattle.definition.specs.Sheet.{Form, form1, form2, sheet_limits}
use Rattle.definition.specs.Fold.{Folded, refusal, fine, passes_counts, fold_rules}

-- ## Results and forms
pub record Case : Type 0 where
  pub form : Form
  pub result : List Rule
  pub passes : Bool

-- THE STATEMENT
abbrev pub Worked : Case → Type 0
Worked c = passes_counts c.form c.result ≡ c.passes

abbrev case : Form → List Rule → Bool → Case
case form result passes = record { form = form; result = result; passes = passes }

-- so many rules, and a rule with so many items of years
abbrev rules : ℕ → List Rule
rules n = replicate n no_rule

abbrev in_years : ℕ → Rule
in_years n = record { operator = Normal; state = closed; years = replicate n (record { start = 2024; end = 2024; step = 1 }); monthdays = []; weeks = []; weekdays = []; spans = [] }

abbrev pub cases : List Case
cases =
    -- "more than 65,535 rules"
    case form1 (rules 65535) false ∷ case form1 (rules 65536) true ∷ case form2 (rules 65536) false
    -- "more than 1,023 items", in any rule
    ∷ case form1 (in_years 1023 ∷ []) false ∷ case form1 (in_years 1024 ∷ []) true ∷ case form1 (no_rule ∷ in_years 1024 ∷ no_rule ∷ []) true
    ∷ case form2 (in_years 1024 ∷ []) false ∷ case form2 (in_years 4095 ∷ []) false ∷ []

-- ## 13, before 7
-- the fold of rules of form 1, all of them left, behind so many folded ones, into a buffer without room
abbrev into0 : List Rule → List Rule → Folded
into0 left folded_rules = fold_rules form1 sheet_limits 0 left fine folded_rules

abbrev fallback : Rule
fallback = record { operator = Fallback; state = closed; years = []; monthdays = []; weeks = []; weekdays = []; spans = [] }

pub record Answers : Type 0 where
  -- a rule of 1,024 items is 13, and one of 1,023 is 7 with the 5,638 bytes that it takes
  pub items-past : into0 [] (in_years 1024 ∷ []) ≡ refusal past_counts 0
  pub items-fit : into0 [] (in_years 1023 ∷ []) ≡ refusal no_room 5638
  -- the rules left count: 65,535 folded rules and one left are too many
  pub left-counted : into0 (fallback ∷ []) (rules 65535) ≡ refusal past_counts 0
