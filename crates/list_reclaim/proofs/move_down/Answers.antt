-- `list_reclaim::move_down` meets its contract: the marked lists before the place at hand are moved down.
use mathlib.Core.Path.{◌≡◌}
use Prim.Native.Nat.{◌*◌}
use native.Mathlib.Omega.{arith}
use Rattle.tables.specs.Sizes.{list_places}
use Rattle.list_reclaim.proofs.Moving.{moved_none, moved_more}
use Rattle.list_reclaim.proofs.move_down.Goals as goal

pub loop-place-init : goal.loop-place-init
loop-place-init c =
    moved_none _ _

pub move_list-next-requires : goal.move_list-next-requires
move_list-next-requires c =
    let inv = c.loop-place.invariant in
    let pre = c.requires in
    let inside = c.loop-place-test.true in
    (inv.down, omega (arith, c.loop-place.auto.lists, pre.0, inside), omega (arith, inv.words (c.loop-place.place * list_places) (omega arith), pre.3 c.loop-place.place inside), omega (arith, c.loop-place.auto.memo, pre.1, inside), omega (arith, pre.2, inside))

pub loop-place-preserved : goal.loop-place-preserved
loop-place-preserved c =
    let inv = c.loop-place.invariant in
    let inside = c.loop-place-test.true in
    moved_more _ _ _ _ _ _ _ _ _ (λ l h. c.requires.3 l (omega (arith, h, inside))) inv c.move_list-next.ensures

pub returns : goal.returns
returns c =
    let e : c.loop-place.place ≡ c.args.used = omega arith in
    rw e at c.loop-place.invariant
