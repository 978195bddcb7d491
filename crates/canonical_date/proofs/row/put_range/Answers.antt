-- `canonical_date::row::put_range` meets its contract.
use Rattle.canonical_date.proofs.Flat.{put_one}
use Rattle.canonical_date.proofs.row.put_range.Goals as goal

pub returns : goal.returns
returns c =
    put_one _ _ (c.args.range.start, c.args.range.end)
