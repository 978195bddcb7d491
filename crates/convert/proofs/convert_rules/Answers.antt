-- `convert::convert_rules` meets its contract: a comment without room, a buffer without room, or the sheet in the other form.
use mathlib.Core.Path.{sym, ap, ◌∙◌}
use mathlib.Core.List.{[], ◌∷◌}
use Prim.Native.Nat.{◌+◌, ◌/◌, ◌≤◌}
use native.Mathlib.Omega.{arith}
use lib.ListN.{length}
use borrow.Author.Tests.{ltb-true, ltb-false}
use Rattle.definition.specs.Field.{bytes_for}
use Rattle.definition.specs.Sheet.{sheet_limits}
use Rattle.definition.specs.Fold.{buffer, written_numbers}
use Rattle.definition.specs.Forms.{convert_rules}
use Rattle.field.proofs.Bytes.{known_bytes}
use Rattle.forms.specs.Form.{as_form}
use Rattle.forms.proofs.Numbers.{rules-fit}
use Rattle.sheet.proofs.Begins.{rules-end, begins-long}
use Rattle.item_writer.proofs.Chain.{wrote_then, room-first, room-rest, same_size}
use Rattle.sheet_writer.proofs.Frame.{padding-length}
use Rattle.convert.proofs.Answer.{converts-not, all-commented, encoded-length, converts-short, converts-fine, rules-begun, long-told, heads-inside, moved_length, laid, room-for-all, all-written}
use Rattle.convert.proofs.convert_rules.Goals as goal

pub first_long_comment-requires : goal.first_long_comment-requires
first_long_comment-requires c =
    let a = c.args in
    let bytes = known_bytes a.sheet.now (λ j. omega (arith, c.type_inv.sheet j)) in
    let read = c.requires.1 in
    (rules-begun _ (as_form a.form) a.sheet.now a.begins.now bytes _ _ a.count read.0 read.1, omega (arith, (begins-long _ a.sheet.now a.begins.now bytes _ _ read.0).1, read.1))

pub returns-in-Some : goal.returns-in-Some
returns-in-Some c =
    let a = c.args in
    let bytes = known_bytes a.sheet.now (λ j. omega (arith, c.type_inv.sheet j)) in
    let to = as_form c.other_form-to.result in
    λ rs read many.
    let first = sym (long-told _ to a.sheet.now a.begins.now bytes rs a.end a.count read many) ∙ c.in-Some.ensures in
    let answer = sym (ap (λ f. convert_rules f sheet_limits (length a.out.now) rs) c.other_form-to.ensures) ∙ converts-not to (length a.out.now) rs _ first in
    (c.refused.ensures ∙ sym (ap written_numbers answer), sym (ap (λ w. buffer w.result a.out.now) answer))

pub moved_bits-requires : goal.moved_bits-requires
moved_bits-requires c =
    let a = c.args in
    let bytes = known_bytes a.sheet.now (λ j. omega (arith, c.type_inv.sheet j)) in
    let read = c.requires.1 in (
      omega (arith, (begins-long _ a.sheet.now a.begins.now bytes _ _ read.0).0, read.1),
      heads-inside _ (as_form a.form) a.sheet.now a.begins.now bytes _ _ a.count read.0 read.1,
      (rules-end _ a.sheet.now _ _ read.0.narrow bytes read.0.read).1,
    )

pub returns-then-lacks_room : goal.returns-then-lacks_room
returns-then-lacks_room c =
    let a = c.args in
    let bytes = known_bytes a.sheet.now (λ j. omega (arith, c.type_inv.sheet j)) in
    let to = as_form c.other_form-to.result in
    let lacking = ltb-true _ _ (sym c.lacks_room.ensures ∙ c.if-lacks_room.true) in
    λ rs read many.
    let none = sym (long-told _ to a.sheet.now a.begins.now bytes rs a.end a.count read many) ∙ c.in_default.ensures in
    let sized = moved_length _ to a.sheet.now a.begins.now bytes rs a.end a.count read many _ c.moved_bits.ensures.0 in
    let encoded = encoded-length to 0 rs none ∙ ap bytes_for sized in
    let answer = sym (ap (λ f. convert_rules f sheet_limits (length a.out.now) rs) c.other_form-to.ensures) ∙ converts-short to (length a.out.now) rs none _ encoded lacking in
    (c.refused-then-lacks_room.ensures ∙ sym (ap written_numbers answer), sym (ap (λ w. buffer w.result a.out.now) answer))

pub put_opening-first-requires : goal.put_opening-first-requires
put_opening-first-requires c =
    let a = c.args in
    let bytes = known_bytes a.sheet.now (λ j. omega (arith, c.type_inv.sheet j)) in
    let to = as_form c.other_form-to.result in
    let read = c.requires.1 in
    let few = (begins-long _ a.sheet.now a.begins.now bytes _ _ read.0).0 in
    let sized = moved_length _ to a.sheet.now a.begins.now bytes _ a.end a.count read.0 read.1 _ c.moved_bits.ensures.0 in
    let enough : (c.moved_bits.result + 7) / 8 ≤ length a.out.now = ltb-false _ _ (sym c.lacks_room.ensures ∙ c.if-lacks_room.false) in
    let room = room-for-all _ to a.sheet.now a.begins.now bytes _ a.end a.count read.0 read.1 _ _ sized enough c.moved_bits.ensures.1 in
    record { count_bound = rules-fit c.other_form-to.result a.count (omega (arith, few, read.1)); room_for = room-first _ _ room }

pub move_rules-behind-requires : goal.move_rules-behind-requires
move_rules-behind-requires c =
    let a = c.args in
    let bytes = known_bytes a.sheet.now (λ j. omega (arith, c.type_inv.sheet j)) in
    let to = as_form c.other_form-to.result in
    let read = c.requires.1 in
    let none = sym (long-told _ to a.sheet.now a.begins.now bytes _ a.end a.count read.0 read.1) ∙ c.in_default.ensures in
    let sized = moved_length _ to a.sheet.now a.begins.now bytes _ a.end a.count read.0 read.1 _ c.moved_bits.ensures.0 in
    let enough : (c.moved_bits.result + 7) / 8 ≤ length a.out.now = ltb-false _ _ (sym c.lacks_room.ensures ∙ c.if-lacks_room.false) in
    let room = room-for-all _ to a.sheet.now a.begins.now bytes _ a.end a.count read.0 read.1 _ _ sized enough c.moved_bits.ensures.1 in
    (c.requires.0, read.0, read.1, all-commented to 0 _ none, room-rest c.put_opening-first.ensures _ room)

pub put_padding-requires : goal.put_padding-requires
put_padding-requires c =
    let a = c.args in
    let bytes = known_bytes a.sheet.now (λ j. omega (arith, c.type_inv.sheet j)) in
    let to = as_form c.other_form-to.result in
    let read = c.requires.1 in
    let sized = moved_length _ to a.sheet.now a.begins.now bytes _ a.end a.count read.0 read.1 _ c.moved_bits.ensures.0 in
    let enough : (c.moved_bits.result + 7) / 8 ≤ length a.out.now = ltb-false _ _ (sym c.lacks_room.ensures ∙ c.if-lacks_room.false) in
    let room = room-for-all _ to a.sheet.now a.begins.now bytes _ a.end a.count read.0 read.1 _ _ sized enough c.moved_bits.ensures.1 in
    let all = wrote_then c.put_opening-first.ensures (c.move_rules-behind.ensures _ read.0 read.1) in
    let long = ap length (laid _ to a.sheet.now a.begins.now bytes _ a.end a.count read.0 read.1) in
    (omega (arith, all.behind, room.inside, same_size all), omega (arith, all.behind, long, sized, c.moved_bits.ensures.1))

pub returns : goal.returns
returns c =
    let a = c.args in
    let bytes = known_bytes a.sheet.now (λ j. omega (arith, c.type_inv.sheet j)) in
    let to = as_form c.other_form-to.result in
    let enough : (c.moved_bits.result + 7) / 8 ≤ length a.out.now = ltb-false _ _ (sym c.lacks_room.ensures ∙ c.if-lacks_room.false) in
    λ rs read many.
    let none = sym (long-told _ to a.sheet.now a.begins.now bytes rs a.end a.count read many) ∙ c.in_default.ensures in
    let sized = moved_length _ to a.sheet.now a.begins.now bytes rs a.end a.count read many _ c.moved_bits.ensures.0 in
    let encoded = encoded-length to 0 rs none ∙ ap bytes_for sized in
    let fine = sym (ap (λ f. convert_rules f sheet_limits (length a.out.now) rs) c.other_form-to.ensures) ∙ converts-fine to (length a.out.now) rs none _ encoded enough in
    let behind = c.move_rules-behind.result in
    let new = all-written _ to a.sheet.now a.begins.now bytes rs a.end a.count read many c.put_opening-first.ensures
    (c.move_rules-behind.ensures rs read many) (record { behind = sym (padding-length behind); stored = c.put_padding.ensures.1 }) (omega (arith, sized, enough)) (λ j. omega (arith, c.slice_known-1.given j))
    (λ j. omega (arith, c.slice_known-4-1.given j)) in (
      ap (λ n. 0 ∷ n ∷ 0 ∷ []) (sym encoded) ∙ sym (ap written_numbers fine),
      new ∙ sym (ap (λ w. buffer w.result a.out.now) fine),
    )
