-- `stopping::rule::row_reason` meets its contract.
use mathlib.Core.Path.{sym, ap, ap₂, ◌∙◌}
use Prim.Native.Nat.{◌+◌, ◌-◌}
use native.Mathlib.Omega.{arith}
use Rattle.definition.specs.Field.{sheet_bits}
use Rattle.item.specs.Sort.{number_of}
use Rattle.stopping.specs.declared.part.Reasoned.{Reasoned}
use Rattle.stopping.specs.Part.{found}
use Rattle.stopping.specs.Rule.{earlier, row_reasoned}
use Rattle.stopping.proofs.Rows.{item-near, row_more, row_ends}
use Rattle.stopping.proofs.rule.row_reason.Goals as goal

pub reason_of_item-item-requires : goal.reason_of_item-item-requires
reason_of_item-item-requires c = omega (arith, c.loop-i.invariant.near, c.requires)

pub loop-i-preserved : goal.loop-i-preserved
loop-i-preserved c =
    let item = c.reason_of_item-item.ensures in
    let old = c.loop-i in
    let args = c.args in
    let s = sheet_bits args.sheet.now in
    let sort = number_of args.sort in record {
      near = omega (arith, item-near sort s old.found.at, ap (λ (x : Reasoned). x.at) item, old.invariant.near);
      same = ap₂ (λ a q. row_reasoned sort (args.count - (old.i + 1)) s (found a q)) (c.earlier.ensures ∙ ap (λ (x : Reasoned). earlier old.found.reason x.reason) item)
          (ap (λ (x : Reasoned). x.at) item) ∙ row_more sort _ s old.found _ (omega arith) ∙ old.invariant.same;
    }

pub returns : goal.returns
returns c = sym (row_ends _ _ _ _ (omega arith)) ∙ c.loop-i.invariant.same
