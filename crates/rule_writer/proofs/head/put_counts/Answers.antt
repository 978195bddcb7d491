-- `rule_writer::head::put_counts` meets its contract: three counts, and two.
use mathlib.Core.Path.{refl, ap₂, ◌∙◌}
use mathlib.Core.List.{◌++◌}
use native.Mathlib.Omega.{arith}
use Rattle.forms.specs.Form.{as_form}
use Rattle.forms.proofs.Numbers.{count_fits}
use Rattle.item_writer.proofs.Chain.{wrote_then, room-first, room-rest, room_as, wrote_as}
use Rattle.item_writer.proofs.Joined.{two_carried, three_carried}
use Rattle.rule_writer.proofs.Items.{sort-fits, counts_bits}
use Rattle.rule_writer.proofs.head.put_counts.Goals as goal

pub new-requires : goal.new-requires
new-requires c =
    let width = c.item_count_width-width.ensures in
    (omega (arith, width.1), sort-fits (as_form c.args.form) c.args.item_counts.now c.requires.in_bounds.1 _ _ 0 width.0 (omega arith) c.from.ensures)

pub then-requires : goal.then-requires
then-requires c =
    let width = c.item_count_width-width.ensures in (
      c.new.ensures.fits,
      (omega (arith, width.1), sort-fits (as_form c.args.form) c.args.item_counts.now c.requires.in_bounds.1 _ _ 1 width.0 (omega arith) c.from-2.ensures),
      omega (arith, width.1, c.new.ensures.spans),
    )

pub then-dates-requires : goal.then-dates-requires
then-dates-requires c =
    let width = c.item_count_width-width.ensures in (
      c.then.ensures.fits,
      (omega (arith, width.1), sort-fits (as_form c.args.form) c.args.item_counts.now c.requires.in_bounds.1 _ _ 2 width.0 (omega arith) c.from-3.ensures),
      omega (arith, width.1, c.new.ensures.spans, c.then.ensures.spans),
    )

pub put-weekdays_at-requires : goal.put-weekdays_at-requires
put-weekdays_at-requires c = record {
  fits = c.then-dates.ensures.fits;
  room_for = room_as (three_carried c.item_count_width-width.result c.from-2.result c.new.ensures c.then.ensures c.item_count_width-width.result c.from-3.result c.then-dates.ensures)
      (room-first _ _
      (room_as (counts_bits _ c.args.item_counts.now _ _ _ _ c.args.spans _ c.from.ensures c.from-2.ensures c.from-3.ensures refl c.item_count_width-width.ensures.0) c.requires.room_for));
}

pub new-requires-2 : goal.new-requires-2
new-requires-2 c =
    let width = c.item_count_width-width.ensures in
    (omega (arith, width.1), sort-fits (as_form c.args.form) c.args.item_counts.now c.requires.in_bounds.1 _ _ 3 width.0 (omega arith) c.from-4.ensures)

pub then-rest-requires : goal.then-rest-requires
then-rest-requires c =
    let width = c.item_count_width-width.ensures in (
      c.new-2.ensures.fits,
      (omega (arith, width.1), count_fits c.args.form _ _ width.0 c.requires.in_bounds.2),
      omega (arith, width.1, c.new-2.ensures.spans),
    )

pub put-requires : goal.put-requires
put-requires c =
    let width = c.item_count_width-width.result in
    let whole = room_as
    ((counts_bits _ c.args.item_counts.now _ _ _ _ c.args.spans _ c.from.ensures c.from-2.ensures c.from-3.ensures c.from-4.ensures c.item_count_width-width.ensures.0) ∙ ap₂ ◌++◌ (three_carried width c.from-2.result c.new.ensures c.then.ensures width c.from-3.result c.then-dates.ensures) (two_carried width c.args.spans c.new-2.ensures c.then-rest.ensures))
    c.requires.room_for in
    record { fits = c.then-rest.ensures.fits; room_for = room-rest c.put-weekdays_at.ensures _ whole }

pub returns : goal.returns
returns c =
    let width = c.item_count_width-width.result in
    wrote_as
    ((counts_bits _ c.args.item_counts.now _ _ _ _ c.args.spans _ c.from.ensures c.from-2.ensures c.from-3.ensures c.from-4.ensures c.item_count_width-width.ensures.0) ∙ ap₂ ◌++◌ (three_carried width c.from-2.result c.new.ensures c.then.ensures width c.from-3.result c.then-dates.ensures) (two_carried width c.args.spans c.new-2.ensures c.then-rest.ensures))
    (wrote_then c.put-weekdays_at.ensures c.put.ensures)
