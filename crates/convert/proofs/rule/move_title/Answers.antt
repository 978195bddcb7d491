-- `convert::rule::move_title` meets its contract: four bits copied, and the comment in the width of the other form.
use mathlib.Core.Path.{◌≡◌, sym, ap, ap₂, ◌∙◌}
use mathlib.Core.List.{List}
use Prim.Native.Nat.{ℕ, ◌+◌, ◌<◌, ◌^◌}
use native.Mathlib.Omega.{arith}
use lib.ListN.{take, drop}
use lib.Seq.{sets}
use Rattle.definition.specs.Field.{bits, field_at, sheet_bits}
use Rattle.definition.specs.Sheet.{Form}
use Rattle.definition.proofs.Bits.{Bytes}
use Rattle.field.proofs.Bytes.{known_bytes}
use Rattle.forms.specs.Form.{as_form}
use Rattle.forms.proofs.Numbers.{narrow}
use Rattle.sheet.specs.Begin.{rule_read_at, Readable}
use Rattle.item_writer.specs.Written.{Wrote}
use Rattle.item_writer.proofs.Chain.{wrote_then, room-rest, room-first, room_as, wrote_as}
use Rattle.sheet.proofs.RuleBits.{kind_bits, kinds-length, title-split}
use Rattle.convert.proofs.Parts.{kinds-there, comment-there, reaches}
use Rattle.convert.proofs.rule.move_title.Goals as goal

-- the four bits of operator and kind, where they were copied
copied : (form : Form) (sheet : List ℕ) (bytes : Bytes sheet) (at : ℕ) (readable : Readable form (sheet_bits sheet) at) (out mid : List ℕ) (place : ℕ)
    → sheet_bits mid ≡ sets (sheet_bits out) place (take 4 (drop at (sheet_bits sheet)))
    → Wrote out place (kind_bits (rule_read_at form (sheet_bits sheet) at)) mid (place + 4)
copied form sheet bytes at readable out mid place e = record {
  behind = omega (arith, kinds-length (rule_read_at form (sheet_bits sheet) at));
  stored = e ∙ ap (sets (sheet_bits out) place) (kinds-there form sheet bytes at readable);
}

pub copy_bits-requires : goal.copy_bits-requires
copy_bits-requires c =
    let a = c.args in
    let r = rule_read_at (as_form a.form) (sheet_bits a.sheet.now) a.at in
    let bytes = known_bytes a.sheet.now (λ j. omega (arith, c.type_inv.sheet j)) in
    let reach = reaches _ a.sheet.now bytes a.at c.requires.readable.0 (narrow a.form) c.requires.readable.1 in
    let room = room-first (kind_bits r) _ (room_as (title-split (as_form a.to) r) c.requires.room_for) in
    (omega (arith, reach.0, reach.1), omega (arith, room.inside, kinds-length r), omega (arith, c.requires.readable.1), omega (arith, room.low, kinds-length r))

pub field_at-requires : goal.field_at-requires
field_at-requires c =
    let a = c.args in
    let bytes = known_bytes a.sheet.now (λ j. omega (arith, c.type_inv.sheet j)) in
    let reach = reaches _ a.sheet.now bytes a.at c.requires.readable.0 (narrow a.form) c.requires.readable.1 in
    let width = c.comment_width-2.ensures in
    (omega (arith, width.1), omega (arith, c.requires.readable.1), omega (arith, reach.0, reach.1, width.0))

pub put-requires : goal.put-requires
put-requires c =
    let a = c.args in
    let r = rule_read_at (as_form a.form) (sheet_bits a.sheet.now) a.at in
    let bytes = known_bytes a.sheet.now (λ j. omega (arith, c.type_inv.sheet j)) in
    let width = c.comment_width.ensures in
    let comment : c.field_at.result ≡ r.state.comment = c.field_at.ensures ∙ ap (field_at (sheet_bits a.sheet.now) (a.at + 4)) c.comment_width-2.ensures.0
    ∙ comment-there _ a.sheet.now bytes a.at c.requires.readable.0 in
    let rewritten : bits (as_form a.to).comment r.state.comment ≡ bits c.comment_width.result c.field_at.result = ap₂ bits (sym width.0) (sym comment) in
    let whole = room_as (title-split (as_form a.to) r) c.requires.room_for in
    let low : c.field_at.result < 2 ^ c.comment_width.result = rw (comment, width.0) c.requires.at_bound in
    record {
      fits = (omega (arith, width.1), low);
      room_for = room_as rewritten (room-rest (copied _ a.sheet.now bytes a.at c.requires.readable.0 a.out.now _ a.place c.copy_bits.ensures) _ whole);
    }

pub returns : goal.returns
returns c =
    let a = c.args in
    let r = rule_read_at (as_form a.form) (sheet_bits a.sheet.now) a.at in
    let bytes = known_bytes a.sheet.now (λ j. omega (arith, c.type_inv.sheet j)) in
    let comment : c.field_at.result ≡ r.state.comment = c.field_at.ensures ∙ ap (field_at (sheet_bits a.sheet.now) (a.at + 4)) c.comment_width-2.ensures.0
    ∙ comment-there _ a.sheet.now bytes a.at c.requires.readable.0 in
    let rewritten : bits (as_form a.to).comment r.state.comment ≡ bits c.comment_width.result c.field_at.result = ap₂ bits (sym c.comment_width.ensures.0) (sym comment) in
    wrote_as (title-split (as_form a.to) r)
    (wrote_then (copied _ a.sheet.now bytes a.at c.requires.readable.0 a.out.now _ a.place c.copy_bits.ensures) (wrote_as rewritten c.put.ensures))
