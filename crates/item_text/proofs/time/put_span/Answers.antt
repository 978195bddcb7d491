-- `item_text::time::put_span` meets its contract: start, `-`, end, and `+` where the end is open.
use mathlib.Core.Path.{sym, ap}
use mathlib.Core.Bool.{cond}
use Prim.Native.Nat.{ℕ}
use native.Mathlib.Omega.{arith}
use Rattle.text.proofs.Putting.{put_then, put_as}
use Rattle.item_text.proofs.Spelled.{clock-long, span-open, span-shut, span-long}
use Rattle.item_text.proofs.time.put_span.Goals as goal

pub put_clock-first-requires : goal.put_clock-first-requires
put_clock-first-requires c =
    let args = c.args in
    let pre = c.requires in
    (pre.0, omega (arith, pre.2, span-long args.start args.end args.open_end pre.0 pre.1, clock-long args.start pre.0))

pub put_byte-dash-requires : goal.put_byte-dash-requires
put_byte-dash-requires c =
    let args = c.args in
    let pre = c.requires in
    omega (
      arith,
      pre.2,
      span-long args.start args.end args.open_end pre.0 pre.1,
      clock-long args.start pre.0,
      c.put_clock-first.ensures.ends,
    )

pub put_clock-last-requires : goal.put_clock-last-requires
put_clock-last-requires c =
    let args = c.args in
    let pre = c.requires in
    let long = span-long args.start args.end args.open_end pre.0 pre.1 in (
      pre.1,
      omega (
        arith,
        pre.2,
        long,
        clock-long args.start pre.0,
        clock-long args.end pre.1,
        c.put_clock-first.ensures.ends,
        c.put_byte-dash.ensures.ends,
      ),
    )

pub put_byte-requires : goal.put_byte-requires
put_byte-requires c =
    let args = c.args in
    let pre = c.requires in
    let long = span-long args.start args.end args.open_end pre.0 pre.1 in
    let plus = ap (λ o. cond {A = ℕ} o 1 0) c.if-open_end.true in
    omega (
      arith,
      pre.2,
      long,
      plus,
      clock-long args.start pre.0,
      clock-long args.end pre.1,
      c.put_clock-first.ensures.ends,
      c.put_byte-dash.ensures.ends,
      c.put_clock-last.ensures.ends,
    )

pub returns-then-open_end : goal.returns-then-open_end
returns-then-open_end c =
    put_as (sym (span-open _ _ _ c.if-open_end.true))
    (put_then c.put_clock-first.ensures
    (put_then c.put_byte-dash.ensures (put_then c.put_clock-last.ensures c.put_byte.ensures)))

pub returns-else-open_end : goal.returns-else-open_end
returns-else-open_end c =
    put_as (sym (span-shut _ _ _ c.if-open_end.false))
    (put_then c.put_clock-first.ensures (put_then c.put_byte-dash.ensures c.put_clock-last.ensures))
