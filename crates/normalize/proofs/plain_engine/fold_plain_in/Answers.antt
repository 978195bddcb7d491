-- The engine has answered about the drained rules, and its answer is written.
use Rattle.normalize.proofs.ToWrite.{to_write}
use Rattle.normalize.proofs.plain_engine.fold_plain_in.Goals as goal

pub write_paved-requires : goal.write_paved-requires
write_paved-requires c =
    let given = c.requires.foldable in
    (given.0, to_write _ _ _ _ _ _ _ _ _ given.1 (c.pave-paved.ensures _ given.1.to-draw))
