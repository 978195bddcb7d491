-- `rule_text::shown::show_span` meets its contract: a span between fixed times without repeats has words, and no other.
use mathlib.Core.Path.{sym, ap, ap₂, ◌∙◌}
use mathlib.Core.Bool.{not}
use native.Mathlib.Omega.{arith}
use lib.ListN.{length}
use Rattle.definition.specs.Line.{is_plain, span_text}
use Rattle.field.proofs.Bytes.{known_bytes}
use Rattle.item.specs.Answer.{as_span}
use Rattle.item_text.specs.Time.{plain_span}
use Rattle.text.proofs.Putting.{put_as}
use Rattle.rule_text.proofs.Telling.{got-within, got-shows, got-silent, refused-silent}
use Rattle.rule_text.proofs.Items.{span-times, span-item, span-silent}
use Rattle.rule_text.proofs.shown.show_span.Goals as goal

pub returns-in_default : goal.returns-in_default
returns-in_default c = refused-silent span_text (λ x. not (is_plain x)) _ _ _ _ _ _ (sym c.in_default.ensures) c.silent.ensures

pub put_span-requires : goal.put_span-requires
put_span-requires c =
    let args = c.args in
    let x = as_span c.in-Ok.span in
    let read = sym c.in-Ok.ensures in
    let plain = sym c.plain.ensures ∙ c.if-plain.true in
    let small = span-times args.sheet.now (known_bytes args.sheet.now (λ j. omega (arith, c.type_inv.sheet j))) args.at x _ read plain in
    let same = ap₂ (λ a b. plain_span a b c.in-Ok.span.open_end) c.minutes.ensures c.minutes-then-plain.ensures ∙ span-item x plain in (
      omega (arith, small.0, c.minutes.ensures),
      omega (arith, small.1, c.minutes-then-plain.ensures),
      omega (arith, got-within span_text (λ y. not (is_plain y)) _ _ args.place x _ read c.requires.1, ap length same),
    )

pub returns-then-plain : goal.returns-then-plain
returns-then-plain c =
    let x = as_span c.in-Ok.span in
    let plain = sym c.plain.ensures ∙ c.if-plain.true in
    let same = ap₂ (λ a b. plain_span a b c.in-Ok.span.open_end) c.minutes.ensures c.minutes-then-plain.ensures ∙ span-item x plain in
    got-shows span_text (λ y. not (is_plain y)) _ _ _ x _ _ _ (sym c.in-Ok.ensures) (sym (ap not plain)) (put_as same c.put_span.ensures)

pub returns-else-plain : goal.returns-else-plain
returns-else-plain c =
    let x = as_span c.in-Ok.span in
    let not_plain = sym c.plain.ensures ∙ c.if-plain.false in
    got-silent span_text (λ y. not (is_plain y)) _ _ _ x _ _ (sym c.in-Ok.ensures) (ap not not_plain)
    (span-silent x not_plain) c.silent-else-plain.ensures
