-- Why a rule stops: its items row by row, and the first number in 02's order.
use Rattle.std.specs.Prelude.{List, cond, ℕ, zero, suc, eqb, ltb}
use Rattle.laws.specs.Lists.{any_of}
use Rattle.definition.specs.Rule.{Rule}
use Rattle.definition.specs.Stop.{year_stops, monthday_stops, week_stops, is_holiday, is_moved, lacks_nth, span_stops}
use Rattle.stopping.specs.declared.part.Reasoned.{Reasoned}
use Rattle.stopping.specs.Part.{found, item_reasoned}

-- of two numbers the one that comes first in the order; 0 is none
abbrev pub earlier : ℕ → ℕ → ℕ
earlier a b = cond (eqb a 0) b (cond (eqb b 0) a (cond (ltb b a) b a))

-- nothing was found yet, at a bit
abbrev pub begun : ℕ → Reasoned
begun p = found 0 p

-- n items more
unfoldable pub row_reasoned : ℕ → ℕ → List ℕ → Reasoned → Reasoned
row_reasoned sort zero s r = r
row_reasoned sort (suc n) s r = let x = item_reasoned sort s r.at in row_reasoned sort n s (found (earlier r.reason x.reason) x.at)

-- five rows, one behind the other
unfoldable pub body_reason : ℕ → ℕ → ℕ → ℕ → ℕ → List ℕ → ℕ → ℕ
body_reason years monthdays weeks weekdays spans s p =
    let y = row_reasoned 0 years s (begun p) in
    let m = row_reasoned 1 monthdays s (begun y.at) in
    let w = row_reasoned 2 weeks s (begun m.at) in
    let d = row_reasoned 3 weekdays s (begun w.at) in
    let t = row_reasoned 4 spans s (begun d.at) in
    earlier t.reason (earlier y.reason (earlier m.reason (earlier w.reason d.reason)))

-- the first number that applies to a rule's items
abbrev pub parts_reason : Rule → ℕ
parts_reason r =
    cond (any_of span_stops r.spans) 2 (cond (any_of year_stops r.years) 3 (cond (any_of monthday_stops r.monthdays) 4 (cond (any_of week_stops r.weeks) 5
    (cond (any_of is_holiday r.weekdays) 6 (cond (any_of is_moved r.weekdays) 7 (cond (any_of lacks_nth r.weekdays) 8 0))))))
