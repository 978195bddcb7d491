-- The engine's refusal is the definition's; else what is written is the definition's fold.
use Rattle.paved.proofs.Told.{paved-refused, paved-pages}
use Rattle.normalize.proofs.Answers.{list-refused, rules-folded}
use Rattle.normalize.proofs.written.write_paved.Goals as goal

pub returns-in-Err : goal.returns-in-Err
returns-in-Err c =
    let given = c.requires.1 in
    list-refused _ c.args.sheet.now c.args.out.now _ _ _ given.read given.apart given.few-boxes _ _
    (paved-refused _ _ _ _ _ _ _ given.paves _ c.in-Err.is) c.refused.ensures

pub emit-requires : goal.emit-requires
emit-requires c =
    let given = c.requires.1 in
    (_, (paved-pages _ _ _ _ _ _ _ given.paves _ c.in-Ok.is).1 _ given.commented, given.leaving)

pub returns-in-Ok : goal.returns-in-Ok
returns-in-Ok c =
    let given = c.requires.1 in
    let pages = paved-pages _ _ _ _ _ _ _ given.paves _ c.in-Ok.is in
    rules-folded _ c.args.sheet.now c.args.out.now _ _ _ given.read given.apart given.few-boxes _ pages.0
    (c.emit.ensures _ (pages.1 _ given.commented) given.leaving)
