-- `canonical_date::row::items` meets its contract.
use mathlib.Core.Path.{◌≡◌, sym, ap, ◌∙◌, subst}
use Prim.Native.Nat.{◌-◌}
use native.Mathlib.Omega.{arith}
use Rattle.definition.specs.Field.{sheet_bits}
use Rattle.field.proofs.Bytes.{known_bytes}
use Rattle.bounded.specs.Strict.{list_of}
use Rattle.canonical_date.specs.Row.{items_ranges, items_end, row_of}
use Rattle.canonical_date.proofs.Flat.{flat-length}
use Rattle.canonical_date.proofs.ItemFacts.{item-facts}
use Rattle.canonical_date.proofs.Rows.{Owed, items-none, items-stop, items-go}
use Rattle.canonical_date.proofs.row.items.Goals as goal

pub loop-i-init : goal.loop-i-init
loop-i-init c =
    let a = c.args in
    let s = sheet_bits a.sheet.now in
    let all : a.count - 0 ≡ a.count = omega arith in record {
      near = omega arith;
      room = omega arith;
      owed = λ r after o. subst (λ n. Owed r after a.first a.ranges.now (items_ranges a.sort n s a.start) (items_end a.sort n s a.start)) all o;
    }

pub item_at-requires : goal.item_at-requires
item_at-requires c = omega (arith, c.loop-i.invariant.near, c.requires.0)

pub put_split-requires : goal.put_split-requires
put_split-requires c =
    let s = c.args.sheet.now in
    let facts = item-facts _ s (known_bytes s (λ j. omega (arith, c.type_inv.sheet j))) _ _ _ (sym c.in_ok-split.ensures) in
    (omega (arith, c.loop-i.invariant.room, c.requires.1), facts.narrow)

pub returns-in_err-split : goal.returns-in_err-split
returns-in_err-split c =
    let owed = c.loop-i.invariant.owed _ _ (items-stop _ _ _ _ _ _ (λ z. omega arith) (sym c.in_err-split.ensures)) in
    (ap row_of c.from_residual.ensures ∙ owed.0, owed.1)

pub loop-i-preserved : goal.loop-i-preserved
loop-i-preserved c =
    let old = c.loop-i in
    let s = c.args.sheet.now in
    let facts = item-facts _ s (known_bytes s (λ j. omega (arith, c.type_inv.sheet j))) _ _ _ (sym c.in_ok-split.ensures) in record {
      near = omega (arith, facts.ends, old.invariant.near);
      room = omega (arith, facts.few, flat-length (list_of c.in_ok-split.split), c.put_split.ensures.0, old.invariant.room);
      owed = λ r after o. old.invariant.owed r after
          (items-go _ _ _ _ _ _ _ _ _ _ _ _ _ (omega arith) (sym c.in_ok-split.ensures) c.put_split.ensures.0 c.put_split.ensures.1 o);
    }

pub returns : goal.returns
returns c = c.loop-i.invariant.owed _ _ (items-none _ _ _ _ _ _ (omega arith))
