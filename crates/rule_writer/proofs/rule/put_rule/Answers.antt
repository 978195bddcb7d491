-- `rule_writer::rule::put_rule` meets its contract: title, counts, rows, spans, one behind the other.
use Rattle.item_writer.proofs.Chain.{wrote_then, room-first, room-rest, room_as, wrote_as}
use Rattle.rule_writer.proofs.Laid.{rule-parts}
use Rattle.rule_writer.proofs.rule.put_rule.Goals as goal

pub put_title-counts_at-requires : goal.put_title-counts_at-requires
put_title-counts_at-requires c =
    let a = c.args in
    record { operator_bound = c.requires.operator_bound; room_for = room-first _ _ (room_as (rule-parts _ a.operator a.state a.ends.now a.item_counts.now a.spans.now c.requires.rows.0.inside) c.requires.room_for) }

pub put_counts-rows_at-requires : goal.put_counts-rows_at-requires
put_counts-rows_at-requires c =
    let a = c.args in
    let whole = room_as (rule-parts _ a.operator a.state a.ends.now a.item_counts.now a.spans.now c.requires.rows.0.inside) c.requires.room_for in record {
      in_bounds = (c.requires.rows.0.four, c.requires.rows.1, c.requires.span_count_in_bounds.0);
      room_for = room-first _ _ (room-rest c.put_title-counts_at.ensures _ whole);
    }

pub put_rows-spans_at-requires : goal.put_rows-spans_at-requires
put_rows-spans_at-requires c =
    let a = c.args in
    let whole = room_as (rule-parts _ a.operator a.state a.ends.now a.item_counts.now a.spans.now c.requires.rows.0.inside) c.requires.room_for in record {
      rows = c.requires.rows.0;
      room_for = room-first _ _ (room-rest c.put_counts-rows_at.ensures _ (room-rest c.put_title-counts_at.ensures _ whole));
    }

pub put_spans-requires : goal.put_spans-requires
put_spans-requires c =
    let a = c.args in
    let whole = room_as (rule-parts _ a.operator a.state a.ends.now a.item_counts.now a.spans.now c.requires.rows.0.inside) c.requires.room_for in record {
      all = c.requires.span_count_in_bounds.1;
      room_for = room-rest c.put_rows-spans_at.ensures _ (room-rest c.put_counts-rows_at.ensures _ (room-rest c.put_title-counts_at.ensures _ whole));
    }

pub returns : goal.returns
returns c =
    let a = c.args in
    wrote_as (rule-parts _ a.operator a.state a.ends.now a.item_counts.now a.spans.now c.requires.rows.0.inside)
    (wrote_then c.put_title-counts_at.ensures
    (wrote_then c.put_counts-rows_at.ensures (wrote_then c.put_rows-spans_at.ensures c.put_spans.ensures)))
