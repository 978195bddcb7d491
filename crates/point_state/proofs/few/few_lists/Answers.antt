-- `point_state::few::few_lists` meets its contract: too many rules are not counted further, and few boxes, or few combinations of kinds, have few lists.
use mathlib.Core.Path.{sym, ◌∙◌}
use mathlib.Core.Bool.{true≢false}
use mathlib.Core.List.{List, [], ◌∷◌}
use Prim.Native.Nat.{ℕ, ◌+◌, ◌*◌, ◌<◌}
use native.Mathlib.Omega.{arith}
use lib.ListN.{length, get_or}
use borrow.Author.Rules.{rules}
use borrow.Author.Tests.{ltb-false, not-true}
use Rattle.definition.specs.Sheet.{sheet_limits}
use Rattle.plain_lists.proofs.Covering.{ranges-there}
use Rattle.definition.specs.Rule.{Rule}
use Rattle.point_state.specs.Few.{AllThere, DaysCut}
use Rattle.point_state.proofs.Columns.{kinds-all, four-kinds}
use Rattle.point_state.proofs.FewLists.{four-sizes, four_products, few-none}
use Rattle.point_state.proofs.few.few_lists.Goals as goal

module _ (counts ranges rows sizes cuts : List ℕ) (rules : ℕ) (rs : List Rule) (given : DaysCut counts ranges rows sizes cuts rules rs) where
  all_there : AllThere counts ranges rules
  all_there = ranges-there counts ranges rules rs given.days

  kinds-there : (i : ℕ) → i < 4 → (i < length rows) × (i < length sizes) × (get_or rows i 0 + get_or sizes i 0 < length cuts)
  kinds-there i h = (omega (arith, given.cut.all-rows), omega (arith, given.cut.four), given.cut.inside i h)

pub returns-then-rules-gt32 : goal.returns-then-rules-gt32
returns-then-rules-gt32 c =
    λ e. absurd (true≢false (sym e))

pub size_of-requires : goal.size_of-requires
size_of-requires c =
    let given = c.requires.1 in (omega (arith, given.cut.four), given.cut.filled, omega (arith, given.few-boxes))

pub returns-then-not-lists_over : goal.returns-then-not-lists_over
returns-then-not-lists_over c =
    λ _ rs given. few-none _ _ _ _ _ _ rs given c.args.sizes.now (omega (arith, given.cut.four)) (λ i l. kinds-all _ _ _ _ _ _ _) (omega arith)
    (omega (arith, ltb-false sheet_limits.lists c.size_of.result (sym c.lists_over.ensures ∙ c.if-not-lists_over.true), c.size_of.ensures))

pub kinds_in-years-requires : goal.kinds_in-years-requires
kinds_in-years-requires c =
    let g = c.requires in record { all_there = (all_there _ _ _ _ _ _ g.0 g.1, omega arith, omega arith); dimension_in_bounds = kinds-there _ _ _ _ _ _ g.0 g.1 0 (omega arith) }

pub kinds_in-months-requires : goal.kinds_in-months-requires
kinds_in-months-requires c =
    let g = c.requires in record { all_there = (all_there _ _ _ _ _ _ g.0 g.1, omega arith, omega arith); dimension_in_bounds = kinds-there _ _ _ _ _ _ g.0 g.1 1 (omega arith) }

pub kinds_in-weeks-requires : goal.kinds_in-weeks-requires
kinds_in-weeks-requires c =
    let g = c.requires in record { all_there = (all_there _ _ _ _ _ _ g.0 g.1, omega arith, omega arith); dimension_in_bounds = kinds-there _ _ _ _ _ _ g.0 g.1 2 (omega arith) }

pub kinds_in-weekdays-requires : goal.kinds_in-weekdays-requires
kinds_in-weekdays-requires c =
    let g = c.requires in record { all_there = (all_there _ _ _ _ _ _ g.0 g.1, omega arith, omega arith); dimension_in_bounds = kinds-there _ _ _ _ _ _ g.0 g.1 3 (omega arith) }

pub overflow_mul-months : goal.overflow_mul-months
overflow_mul-months c =
    search (rules, (four_products _ _ _ _ c.kinds_in-years.ensures.0 c.kinds_in-months.ensures.0 c.kinds_in-weeks.ensures.0 c.kinds_in-weekdays.ensures.0).0)

pub overflow_mul-weeks : goal.overflow_mul-weeks
overflow_mul-weeks c =
    search (rules, (four_products _ _ _ _ c.kinds_in-years.ensures.0 c.kinds_in-months.ensures.0 c.kinds_in-weeks.ensures.0 c.kinds_in-weekdays.ensures.0).1)

pub overflow_mul-weekdays : goal.overflow_mul-weekdays
overflow_mul-weekdays c =
    search (rules, (four_products _ _ _ _ c.kinds_in-years.ensures.0 c.kinds_in-months.ensures.0 c.kinds_in-weeks.ensures.0 c.kinds_in-weekdays.ensures.0).2)

pub returns : goal.returns
returns c =
    let y = c.kinds_in-years in
    let m = c.kinds_in-months in
    let w = c.kinds_in-weeks in
    let d = c.kinds_in-weekdays in
    λ e rs given. few-none _ _ _ _ _ _ rs given (y.result ∷ m.result ∷ w.result ∷ d.result ∷ []) (omega arith)
    (four-kinds _ _ _ _ c.args.sizes.now _ _ _ _ _ y.ensures.1 m.ensures.1 w.ensures.1 d.ensures.1) (omega arith)
    (omega (arith, four-sizes y.result m.result w.result d.result, ltb-false sheet_limits.lists (d.result * (w.result * (m.result * y.result))) (sym c.lists_over-2.ensures ∙ not-true _ e)))
