-- WHY THE FOLD STOPPED: the worked reasons, computed; a rule stops exactly when it has a reason; and the reason told is that of the first rule
-- left. Rests on the definition and on the laws of draining alone.
use mathlib.Core.Path.{◌≡◌, refl, ap, ◌∙◌}
use mathlib.Core.Bool.{Bool, true, false, ◌||◌, not, cond}
use mathlib.Core.List.{List, [], ◌∷◌}
use Prim.Native.Nat.{suc, ◌<◌}
use native.Mathlib.Omega.{arith}
use lib.Dec.{eqb}
use lib.ListN.{length, get_or}
use borrow.Author.Tests.{eqb-true}
use Rattle.laws.specs.Lists.{every, any_of, All}
use Rattle.laws.proofs.Lists.{every-all, any_of-either}
use Rattle.definition.specs.Rule.{Rule, no_rule}
use Rattle.definition.specs.Stop.{is_fallback, span_stops, year_stops, week_stops, monthday_stops, is_holiday, is_moved, lacks_nth, stops, first_that_applies, reason, drained, left, why}
use Rattle.definition.specs.WorkedReasons.{Case, Worked, cases}
use Rattle.definition.proofs.Drained.{left_behind}

-- ## The worked reasons
agrees : Case → Bool
agrees c = eqb (why c.rules) c.number

computed : every agrees cases ≡ true
unfolding agrees every any_of stops first_that_applies reason left why
computed = refl

pub worked : All Worked cases
unfolding agrees
worked = every-all Worked agrees (λ c h. eqb-true _ _ h) cases computed

-- A RULE STOPS EXACTLY WHEN IT HAS A REASON
pub stops-reason : (r : Rule) → stops r ≡ not (eqb (reason r) 0)
unfolding stops reason first_that_applies
stops-reason r =
    let days = any_of-either is_holiday (λ d. is_moved d || lacks_nth d) r.weekdays ∙ ap (any_of is_holiday r.weekdays ||◌) (any_of-either is_moved lacks_nth r.weekdays) in
    ap (λ b. is_fallback r.operator || (any_of year_stops r.years || (any_of monthday_stops r.monthdays || (any_of week_stops r.weeks || (b || any_of span_stops r.spans))))) days
    ∙ go (is_fallback r.operator) (any_of span_stops r.spans) (any_of year_stops r.years) (any_of monthday_stops r.monthdays) (any_of week_stops r.weeks)
    (any_of is_holiday r.weekdays) (any_of is_moved r.weekdays) (any_of lacks_nth r.weekdays)
  where
    go : (f t y m w h o n : Bool) → f || (y || (m || (w || ((h || (o || n)) || t))))
        ≡ not (eqb (cond f 1 (cond t 2 (cond y 3 (cond m 4 (cond w 5 (cond h 6 (cond o 7 (cond n 8 0)))))))) 0)
    go true t y m w h o n = refl
    go false true true m w h o n = refl
    go false true false true w h o n = refl
    go false true false false true h o n = refl
    go false true false false false true o n = refl
    go false true false false false false true n = refl
    go false true false false false false false true = refl
    go false true false false false false false false = refl
    go false false true m w h o n = refl
    go false false false true w h o n = refl
    go false false false false true h o n = refl
    go false false false false false true o n = refl
    go false false false false false false true n = refl
    go false false false false false false false true = refl
    go false false false false false false false false = refl

-- ## The first rule left
-- none is left, or the first of them tells why
pub why-none : (rs : List Rule) → length (drained rs) ≡ length rs → why rs ≡ 0
unfolding why
why-none rs e = go (left rs) refl
  where
    go : (qs : List Rule) → left rs ≡ qs → why rs ≡ 0
    go [] l = rw (l, why) refl
    go (q ∷ qs) l = absurd (omega (arith, (left_behind rs).1, ap length l))

pub why-first : (rs : List Rule) → length (drained rs) < length rs → why rs ≡ reason (get_or rs (length (drained rs)) no_rule)
unfolding why drained left
why-first [] l = absurd (omega arith)
why-first (r ∷ rs) l = go (stops r) refl (why-first rs)
  where
    go : (b : Bool) → stops r ≡ b → (length (drained rs) < length rs → why rs ≡ reason (get_or rs (length (drained rs)) no_rule))
        → why (r ∷ rs) ≡ reason (get_or (r ∷ rs) (length (drained (r ∷ rs))) no_rule)
    go true e ih = rw (e, why, drained, left) refl
    go false e ih =
        let m : suc (length (drained rs)) < suc (length rs) = rw (e, drained) at l in
        rw (e, why, drained, left) (ih (omega arith))
