-- `plain_lists::append` meets its contract. `based`: the list at whose end the rule is put is as long as the count says; `few`: it has fewer rules than it may.
use mathlib.Core.Path.{◌≡◌, sym, ◌∙◌}
use native.Mathlib.Omega.{arith}
use lib.ListN.{length}
use borrow.Author.Tests.{ltb-true, not-true, not-false}
use Rattle.tables.specs.Lists.{list_of}
use Rattle.tables.specs.Plain.{base}
use Rattle.plain_lists.proofs.Appending.{based-none, based-all, appended-full, appended-more}
use Rattle.plain_lists.proofs.append.Goals.{then-replaces, else-replaces}
use Rattle.plain_lists.proofs.append.Goals as goal

pub returns-then-not-entry_allowed : goal.returns-then-not-entry_allowed
returns-then-not-entry_allowed c =
    let a = c.args in
    let based : c.if-replaces.count ≡ length (base a.replaces (list_of a.lists.now a.box_index)) = elim c.if-replaces.branch [
      | then-replaces w ↦ based-none a.lists.now a.box_index a.replaces c.if-replaces.count w.if-replaces.true w.count-is
      | else-replaces w ↦ based-all a.lists.now a.box_index a.replaces c.if-replaces.count w.if-replaces.false w.count-is
    ] in
    appended-full _ _ _ _ _ based (sym c.entry_allowed.ensures ∙ not-true _ c.if-not-entry_allowed.true-raw)

pub bounds-lists-count_at-2 : goal.bounds-lists-count_at-2
bounds-lists-count_at-2 c =
    let allowed = sym c.entry_allowed.ensures ∙ not-false _ c.if-not-entry_allowed.false-raw in
    let few = ltb-true c.if-replaces.count 32 allowed in
    omega (arith, c.requires.room, few, c.from.ensures)

pub overflow_add-lists : goal.overflow_add-lists
overflow_add-lists c =
    let allowed = sym c.entry_allowed.ensures ∙ not-false _ c.if-not-entry_allowed.false-raw in
    let few = ltb-true c.if-replaces.count 32 allowed in
    omega (arith, few)

pub returns : goal.returns
returns c =
    let a = c.args in
    let based : c.if-replaces.count ≡ length (base a.replaces (list_of a.lists.now a.box_index)) = elim c.if-replaces.branch [
      | then-replaces w ↦ based-none a.lists.now a.box_index a.replaces c.if-replaces.count w.if-replaces.true w.count-is
      | else-replaces w ↦ based-all a.lists.now a.box_index a.replaces c.if-replaces.count w.if-replaces.false w.count-is
    ] in
    let allowed = sym c.entry_allowed.ensures ∙ not-false _ c.if-not-entry_allowed.false-raw in
    let few = ltb-true c.if-replaces.count 32 allowed in
    appended-more _ _ _ _ _ based c.requires allowed few _ (omega (arith, c.from.ensures))
