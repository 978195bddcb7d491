-- `state_at::look` meets its contract, by the law that the list which the cell of a point's box names is the list at the point.
use mathlib.Core.Path.{ap, ◌∙◌}
use mathlib.Core.List.{[]}
use Rattle.definition.specs.Lookup.{state_at}
use Rattle.tables.proofs.Days.{fits-lawful}
use Rattle.state_at.proofs.Meaning.{empty-answered}
use Rattle.state_at.proofs.Point.{point-gridded, list-empty, list-earlier, list_held}
use Rattle.state_at.proofs.look.Goals as goal

pub box_at-box_index-requires : goal.box_at-box_index-requires
box_at-box_index-requires c =
    let given = c.requires.by_index in point-gridded _ _ _ _ _ given.1 given.0 given.3 (fits-lawful given.0 given.2.fits) _ c.requires.in_bounds

pub returns-then-number-eq0 : goal.returns-then-number-eq0
returns-then-number-eq0 c =
    λ rs used tables boxed. empty-answered c.args.moment.minute
    ∙ ap (λ l. state_at [] l c.args.moment.minute)
    (list-empty _ _ _ _ _ used rs boxed (fits-lawful rs tables.fits) _ _ c.box_at-box_index.ensures _ c.from-number.ensures c.if-number-eq0.true)

pub returns : goal.returns
returns c =
    let at = c.box_at-box_index.ensures in
    let number = c.from-number.ensures in
    let some = c.if-number-eq0.false in
    λ rs used tables boxed. let lawful = fits-lawful rs tables.fits in
    c.list_state.ensures rs tables (list-earlier _ _ _ _ _ used rs boxed lawful _ _ at _ number some)
    ∙ ap (λ l. state_at [] l c.args.moment.minute) (list_held _ _ _ _ _ used rs boxed lawful _ _ at _ number some)
