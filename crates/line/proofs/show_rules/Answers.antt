-- `line::show_rules` meets its contract: rule after rule.
use mathlib.Core.Path.{◌∙◌}
use native.Mathlib.Omega.{arith}
use lib.Dec.{eqb}
use lib.ListN.{get_or}
use borrow.Author.Rules.{rules}
use Rattle.field.proofs.Bytes.{known_bytes}
use Rattle.forms.proofs.Numbers.{narrow}
use Rattle.text.proofs.Putting.{put-length}
use Rattle.line.proofs.Steps.{walk_start, next-short, walk-next, walk-wordless, walk_end}
use Rattle.line.proofs.show_rules.Goals as goal

pub loop-i-init : goal.loop-i-init
loop-i-init c = walk_start _ _ _ _

pub show_rule-told-requires : goal.show_rule-told-requires
show_rule-told-requires c =
    let args = c.args in
    let sheet = args.sheet.now in
    let i = c.loop-i.i in
    let begin = c.requires.0 i (omega arith) in
    let short = next-short _ (narrow args.form) sheet (known_bytes sheet (λ j. search rules)) (get_or args.begins.now i 0) begin.0 (eqb i 0) in
    record { readable = begin.0; at_bound = (begin.1, omega (arith, short, c.loop-i.invariant.short, c.requires.1)) }

pub shape_of-out-then-told : goal.shape_of-out-then-told
shape_of-out-then-told c = put-length c.show_rule-told.ensures.put ∙ put-length c.loop-i.invariant.put

pub returns-then-told : goal.returns-then-told
returns-then-told c = walk-wordless c.loop-i.invariant c.show_rule-told.ensures c.if-told.true _ (omega arith)

pub loop-i-preserved : goal.loop-i-preserved
loop-i-preserved c =
    let args = c.args in
    let sheet = args.sheet.now in
    let i = c.loop-i.i in
    let begin = c.requires.0 i (omega arith) in
    let short = next-short _ (narrow args.form) sheet (known_bytes sheet (λ j. search rules)) (get_or args.begins.now i 0) begin.0 (eqb i 0) in
    walk-next c.loop-i.invariant c.show_rule-told.ensures c.if-told.false short

pub shape_of-out : goal.shape_of-out
shape_of-out c = put-length c.loop-i.invariant.put

pub returns : goal.returns
returns c = walk_end c.loop-i.invariant _ (omega arith)
