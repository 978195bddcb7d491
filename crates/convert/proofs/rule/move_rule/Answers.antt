-- `convert::rule::move_rule` meets its contract: title, counts and items, one behind the other.
use mathlib.Core.Path.{◌≡◌, refl, ap, ◌∙◌}
use mathlib.Core.List.{List}
use Prim.Native.Nat.{ℕ, ◌+◌, ◌*◌, ◌-◌, ◌^◌, ◌≤◌, ◌<◌}
use native.Mathlib.Omega.{arith}
use lib.ListN.{length}
use lib.Seq.{sets}
use Rattle.definition.specs.Field.{sheet_bits}
use Rattle.definition.specs.Sheet.{Form, head_width}
use Rattle.definition.proofs.Bits.{Bytes}
use Rattle.field.proofs.Bytes.{known_bytes}
use Rattle.forms.specs.Form.{Narrow, as_form}
use Rattle.forms.proofs.Numbers.{narrow}
use Rattle.sheet.specs.Begin.{rule_read_at, Readable}
use Rattle.item_writer.proofs.Chain.{wrote_then, room-rest, room-first, room_as, wrote_as}
use Rattle.sheet.proofs.RuleBits.{body_bits, rule-split}
use Rattle.convert.proofs.Parts.{counts-there, body-there, body-size, reaches}
use Rattle.convert.proofs.rule.move_rule.Goals as goal

-- the items stand from the head's end up to the rule's
body-low : (form : Form) → Narrow form → (sheet : List ℕ) → Bytes sheet → (at : ℕ) (readable : Readable form (sheet_bits sheet) at) → at < 2 ^ 25
    → (end : ℕ) → end ≡ readable.end → (width : ℕ) → width ≡ head_width form
    → (at + width ≤ end) × (end ≤ 8 * length sheet) × (end < 2 ^ 26) × (end - (at + width) ≡ length (body_bits (rule_read_at form (sheet_bits sheet) at)))
body-low form narrow sheet bytes at readable low end ends width wide =
    let reach = reaches form sheet bytes at readable narrow low in
    let size = body-size form sheet bytes at readable in
    (omega (arith, reach.0), omega (arith, reach.1), omega (arith, reach.2), omega (arith, size))

pub move_title-counts_place-requires : goal.move_title-counts_place-requires
move_title-counts_place-requires c =
    let pre = c.requires in record {
      readable = (pre.at_bound.0.0, pre.at_bound.1);
      at_bound = pre.at_bound_2;
      room_for = room-first _ _ (room_as (rule-split (as_form c.args.to) _) pre.room_for);
    }

pub move_counts-body_place-requires : goal.move_counts-body_place-requires
move_counts-body_place-requires c =
    let a = c.args in
    let pre = c.requires in
    let bytes = known_bytes a.sheet.now (λ j. omega (arith, c.type_inv.sheet j)) in
    let rest = room-rest c.move_title-counts_place.ensures _ (room_as (rule-split (as_form a.to) _) pre.room_for) in record {
      by_index = (_, _, counts-there _ a.sheet.now bytes a.at pre.at_bound.0.0 _ (ap (a.at +◌) c.title_width.ensures.0), room-first _ _ rest);
      at_bound = omega (arith, pre.at_bound.1, c.title_width.ensures.1);
    }

pub overflow_sub-end : goal.overflow_sub-end
overflow_sub-end c =
    let a = c.args in
    let given = c.requires.at_bound in
    let bytes = known_bytes a.sheet.now (λ j. omega (arith, c.type_inv.sheet j)) in
    (body-low _ (narrow a.form) a.sheet.now bytes a.at given.0.0 given.1 a.end given.0.1 _ c.head_width.ensures.0).0

pub copy_bits-requires : goal.copy_bits-requires
copy_bits-requires c =
    let a = c.args in
    let given = c.requires.at_bound in
    let bytes = known_bytes a.sheet.now (λ j. omega (arith, c.type_inv.sheet j)) in
    let low = body-low _ (narrow a.form) a.sheet.now bytes a.at given.0.0 given.1 a.end given.0.1 _ c.head_width.ensures.0 in
    let counts = c.move_counts-body_place.ensures _ _ (counts-there _ a.sheet.now bytes a.at given.0.0 _ (ap (a.at +◌) c.title_width.ensures.0)) in
    let rest = room-rest counts _ (room-rest c.move_title-counts_place.ensures _ (room_as (rule-split (as_form a.to) _) c.requires.room_for)) in
    (omega (arith, low.0, low.1), omega (arith, rest.inside, low.3), omega (arith, low.0, low.2), omega (arith, rest.low, low.3))

pub overflow_sub-result : goal.overflow_sub-result
overflow_sub-result c =
    let a = c.args in
    let given = c.requires.at_bound in
    let bytes = known_bytes a.sheet.now (λ j. omega (arith, c.type_inv.sheet j)) in
    (body-low _ (narrow a.form) a.sheet.now bytes a.at given.0.0 given.1 a.end given.0.1 _ c.head_width.ensures.0).0

pub overflow_add-result : goal.overflow_add-result
overflow_add-result c =
    let a = c.args in
    let given = c.requires.at_bound in
    let bytes = known_bytes a.sheet.now (λ j. omega (arith, c.type_inv.sheet j)) in
    let low = body-low _ (narrow a.form) a.sheet.now bytes a.at given.0.0 given.1 a.end given.0.1 _ c.head_width.ensures.0 in
    let counts = c.move_counts-body_place.ensures _ _ (counts-there _ a.sheet.now bytes a.at given.0.0 _ (ap (a.at +◌) c.title_width.ensures.0)) in
    let rest = room-rest counts _ (room-rest c.move_title-counts_place.ensures _ (room_as (rule-split (as_form a.to) _) c.requires.room_for)) in
    omega (arith, rest.low, low.3)

pub returns : goal.returns
returns c =
    let a = c.args in
    let given = c.requires.at_bound in
    let bytes = known_bytes a.sheet.now (λ j. omega (arith, c.type_inv.sheet j)) in
    let low = body-low _ (narrow a.form) a.sheet.now bytes a.at given.0.0 given.1 a.end given.0.1 _ c.head_width.ensures.0 in
    let counts = c.move_counts-body_place.ensures _ _ (counts-there _ a.sheet.now bytes a.at given.0.0 _ (ap (a.at +◌) c.title_width.ensures.0)) in
    let body = body-there _ a.sheet.now bytes a.at given.0.0 _ _ _ (ap (a.at +◌) c.head_width.ensures.0) given.0.1 refl in
    wrote_as (rule-split (as_form a.to) _)
    (wrote_then c.move_title-counts_place.ensures
    (wrote_then counts (record { behind = omega (arith, low.3); stored = c.copy_bits.ensures ∙ ap (sets _ _) body })))
