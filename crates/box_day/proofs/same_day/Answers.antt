-- `box_day::same_day` meets its contract: the box's day is folded, then compared with the other day.
use Rattle.std.proofs.Common.{◌∙◌, arith}
use Rattle.words.proofs.Sets.{part-taken}
use Rattle.box_day.proofs.same_day.Goals as goal

pub returns : goal.returns
returns c =
    let folded = c.fold_box-count in
    let day = part-taken folded.new.words 0 folded.result (omega (arith, folded.ensures.1, c.requires.wordy, folded.auto.words)) ∙ folded.ensures.0 in
    cc day
