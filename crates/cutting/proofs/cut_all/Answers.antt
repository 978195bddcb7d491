-- `cutting::cut_all` meets its contract: the bounds, then the rules; and the boxes between the cuts are the definition's.
use mathlib.Core.Path.{◌∙◌}
use native.Mathlib.Omega.{arith}
use Rattle.cutting.proofs.Cutting.{cut-there}
use Rattle.cutting.proofs.cut_all.Goals as goal

pub returns : goal.returns
returns c =
    let pre = c.requires in
    let start = c.start_rows in
    let cut = c.cut_rules in
    λ rs days. cut-there _ _ _ _ days _ _ _
    (record {
      four-rows = start.auto.row_starts ∙ pre.row_starts_len.0;
      four-sizes = cut.auto.sizes ∙ start.auto.sizes ∙ pre.row_starts_len.1;
      all-cuts = omega (arith, cut.auto.cuts, start.auto.cuts, pre.row_starts_len.2);
      placed = start.ensures.0;
    }) _ c.box_count.ensures.0 (cut.ensures rs days)
