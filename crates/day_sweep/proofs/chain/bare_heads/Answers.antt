-- `day_sweep::chain::bare_heads` meets its contract.
use mathlib.Core.Path.{refl}
use Rattle.day_sweep.proofs.Chains.{bare}
use Rattle.day_sweep.proofs.chain.bare_heads.Goals as goal

pub returns : goal.returns
returns c = (refl, λ b h. bare 64 b h)
