-- `convert::rule::has_long_comment` meets its contract: the comment stands behind operator and kind.
use mathlib.Core.Path.{ap, ◌∙◌}
use native.Mathlib.Omega.{arith}
use Prim.Native.Nat.{◌+◌, ◌^◌}
use lib.Dec.{leb}
use Rattle.definition.specs.Field.{field_at, sheet_bits}
use Rattle.field.proofs.Bytes.{known_bytes}
use Rattle.forms.specs.Form.{as_form}
use Rattle.forms.proofs.Numbers.{narrow}
use Rattle.convert.proofs.Parts.{comment-there, reaches}
use Rattle.convert.proofs.rule.has_long_comment.Goals as goal

pub overflow_add-at : goal.overflow_add-at
overflow_add-at c =
    omega (arith, c.requires.1)

pub field_at-requires : goal.field_at-requires
field_at-requires c =
    let a = c.args in
    let bytes = known_bytes a.sheet.now (λ j. omega (arith, c.type_inv.sheet j)) in
    let reach = reaches _ a.sheet.now bytes a.at c.requires.0 (narrow a.form) c.requires.1 in
    let width = c.comment_width.ensures in
    (omega (arith, width.1), omega (arith, c.requires.1), omega (arith, reach.0, reach.1, width.0))

pub returns : goal.returns
returns c =
    let a = c.args in
    let bytes = known_bytes a.sheet.now (λ j. omega (arith, c.type_inv.sheet j)) in
    let comment = c.field_at.ensures ∙ ap (field_at (sheet_bits a.sheet.now) (a.at + 4)) c.comment_width.ensures.0
    ∙ comment-there _ a.sheet.now bytes a.at c.requires.0 in
    c.comment_over.ensures ∙ ap (leb (2 ^ (as_form a.to).comment)) comment
