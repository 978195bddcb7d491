-- `stopping::part::reason_of_item` meets its contract.
use mathlib.Core.Path.{ap, ◌∙◌}
use Rattle.stopping.specs.Part.{found}
use Rattle.stopping.proofs.Items.{or-none}
use Rattle.stopping.proofs.part.reason_of_item.Goals as goal

pub returns : goal.returns
returns c = ap (λ v. found v.0 v.1) c.unwrap_or-reason.ensures ∙ or-none c.number_at.result c.args.at ∙ c.number_at.ensures
