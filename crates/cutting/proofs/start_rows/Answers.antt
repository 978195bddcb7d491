-- `cutting::start_rows` meets its contract: the rows at their places, then both bounds in each.
use Rattle.cutting.proofs.Cutting.{bounds-cut}
use Rattle.cutting.proofs.start_rows.Goals as goal

pub returns : goal.returns
returns c =
    let pre = c.requires in
    let placed = c.place_rows.ensures in (
      placed,
      bounds-cut _ _ placed pre.le_places.0 _ _ pre.row_starts_len.1 pre.le_places.2 _ _ _ _ c.start_row.ensures c.start_row-2.ensures
          c.start_row-3.ensures c.start_row-4.ensures,
    )
