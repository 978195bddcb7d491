-- The text of a rule in the order in which it is put: what stands before it, days and spans, kind and comment.
use Rattle.std.specs.Prelude.{◌≡◌, List, [], ◌++◌, Bool, ◌&&◌, ◌||◌, not, cond, ℕ}
use Rattle.definition.specs.Rule.{Operator, Rule}
use Rattle.definition.specs.Point.{is_normal}
use Rattle.definition.specs.Text.{word, ◌then◌, several}
use Rattle.definition.specs.Line.{year_text, month_text, week_text, weekday_text, span_text, part, before, rule_text}
use Rattle.definition.specs.Show.{wordless}
use Rattle.text.specs.Put.{Put}
use Rattle.rule_text.specs.declared.rule.Told.{Told}
use Rattle.rule_text.specs.Tale.{Tale}
use Rattle.rule_text.specs.Row.{followed, part_told}

-- four parts of so many items, one behind the other
unfoldable pub days_told : ℕ → ℕ → ℕ → ℕ → List ℕ → ℕ → Tale
days_told years monthdays weeks weekdays s p =
    let y = part_told 0 years s p in
    let m = part_told 1 monthdays s y.next in
    let w = part_told 2 weeks s m.next in
    followed y (followed m (followed w (part_told 3 weekdays s w.next)))

-- a rule's days
abbrev pub days_text : Rule → List ℕ
days_text r =
    (part (several "," year_text)).write r.years ++ ((part (several "," month_text)).write r.monthdays
    ++ ((part (word "week " then several "," week_text)).write r.weeks ++ (part (several "," weekday_text)).write r.weekdays))

-- and its spans
unfoldable pub body_text : Rule → List ℕ
body_text r = days_text r ++ (several "," span_text).write r.spans

-- "Nothing stands before the first rule"
abbrev pub start_text : Bool → Operator → List ℕ
start_text first o = cond first [] (before o)

unfoldable pub shown_text : Bool → Rule → List ℕ
shown_text first r = start_text first r.operator ++ rule_text.write r

-- "a rule with ..., or a first rule that isn't Normal"
unfoldable pub lacks_words : Bool → Rule → Bool
lacks_words first r = first && not (is_normal r.operator) || wordless r

-- an answer that tells a text and whether it lacks words
pub record Tells (text : List ℕ) (lacks : Bool) (before : List ℕ) (place : ℕ) (r : Told) (after : List ℕ) : Type 0 where
  pub put : Put before place text r.to after
  pub so : r.wordless ≡ lacks
