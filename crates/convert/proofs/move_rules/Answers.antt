-- `convert::move_rules` meets its contract.
use mathlib.Core.Path.{sym, ap, ◌∙◌, subst}
use mathlib.Core.Bool.{cond}
use mathlib.Core.List.{flat_map}
use Prim.Native.Nat.{◌+◌, ◌<◌}
use native.Mathlib.Omega.{arith}
use lib.Dec.{ltb}
use lib.ListN.{length, get_or}
use Rattle.laws.proofs.Lists.{All-at}
use Rattle.definition.specs.Rule.{no_rule}
use Rattle.definition.specs.Sheet.{sheet_limits, rule}
use Rattle.field.proofs.Bytes.{known_bytes}
use Rattle.forms.specs.Form.{as_form}
use Rattle.sheet.proofs.Begins.{begins-long}
use Rattle.tables.specs.Rules.{Commented}
use Rattle.item_writer.specs.Written.{RoomFor}
use Rattle.item_writer.proofs.Chain.{room_as, wrote_as}
use Rattle.convert.proofs.Moving.{there, rules-once, moving-none, rule-room, moving-more, moving-all}
use Rattle.convert.proofs.move_rules.Goals as goal

pub loop-rule-init : goal.loop-rule-init
loop-rule-init c = λ rs reading room. moving-none _ rs _ _ room

pub rule_end-behind-requires : goal.rule_end-behind-requires
rule_end-behind-requires c =
    let a = c.args in
    let bytes = known_bytes a.sheet.now (λ j. omega (arith, c.type_inv.sheet j)) in
    (omega arith, omega (arith, (begins-long _ a.sheet.now a.begins.now bytes _ _ c.requires.1).1, c.requires.2))

pub offset_bounds-begins-rule : goal.offset_bounds-begins-rule
offset_bounds-begins-rule c =
    let a = c.args in
    let bytes = known_bytes a.sheet.now (λ j. omega (arith, c.type_inv.sheet j)) in
    omega (arith, (begins-long _ a.sheet.now a.begins.now bytes _ _ c.requires.1).0, c.requires.2)

pub bounds-begins-rule : goal.bounds-begins-rule
bounds-begins-rule c =
    let a = c.args in
    let bytes = known_bytes a.sheet.now (λ j. omega (arith, c.type_inv.sheet j)) in
    omega (arith, (begins-long _ a.sheet.now a.begins.now bytes _ _ c.requires.1).1, c.requires.2)

pub move_rule-next-requires : goal.move_rule-next-requires
move_rule-next-requires c =
    let a = c.args in
    let bytes = known_bytes a.sheet.now (λ j. omega (arith, c.type_inv.sheet j)) in
    let rs = c.requires.0 in
    let many = c.requires.2 in
    let i = c.loop-rule.rule in
    let l : i < length rs = omega (arith, many) in
    let here = there _ _ _ bytes rs _ c.requires.1 i l in
    let room = rule-room _ rs (c.loop-rule.invariant rs c.requires.1 c.requires.4) l in record {
      at_bound = (
        (here.readable, c.rule_end-behind.ensures ∙ ap (λ n. cond (ltb (i + 1) n) (get_or a.begins.now (i + 1) 0) a.end) many ∙ here.ends),
        here.low,
      );
      at_bound_2 = rw here.same (All-at (λ r. Commented (as_form a.to) r.state) rs no_rule c.requires.3 i l);
      room_for = room_as (ap (rule (as_form a.to) sheet_limits).write (sym here.same)) room;
    }

pub loop-rule-preserved : goal.loop-rule-preserved
loop-rule-preserved c =
    let a = c.args in
    let bytes = known_bytes a.sheet.now (λ j. omega (arith, c.type_inv.sheet j)) in
    λ rs read room.
    let many = c.requires.2 ∙ ap length (rules-once c.requires.0 rs c.requires.1 read) in
    let here = there _ _ _ bytes rs _ read c.loop-rule.rule (omega (arith, many)) in
    moving-more _ rs (c.loop-rule.invariant rs read room) (omega (arith, many))
    (wrote_as (ap (rule (as_form a.to) sheet_limits).write (sym here.same)) c.move_rule-next.ensures)

pub returns : goal.returns
returns c =
    let a = c.args in
    λ rs read many. moving-all _ rs (c.loop-rule.invariant rs read
    (subst (λ qs. RoomFor (length a.out.now) a.place (flat_map (rule (as_form a.to) sheet_limits).write qs)) (rules-once c.requires.0 rs c.requires.1 read) c.requires.4))
    (omega (arith, many))
