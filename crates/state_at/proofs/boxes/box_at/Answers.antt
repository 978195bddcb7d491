-- `state_at::boxes::box_at` meets its contract: a child in each dimension.
use Rattle.state_at.proofs.Search.{child-of, box-found}
use Rattle.state_at.proofs.boxes.box_at.Goals as goal

pub returns : goal.returns
returns c =
    box-found _ _ _ _ _ _ _ _ _ _ _ (child-of _ _ _ _ _ _ _ _ c.from.ensures c.child_at-by_weekday.ensures)
    (child-of _ _ _ _ _ _ _ _ c.from-2.ensures c.child_at-by_week.ensures)
    (child-of _ _ _ _ _ _ _ _ c.from-3.ensures c.child_at-by_month.ensures) c.child_at.ensures
