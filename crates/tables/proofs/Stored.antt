-- The lists that cells name: a box has the list at its first point, and a list in use names only rules. A store's lists are such.
use mathlib.Core.Path.{◌≡◌, ap, ◌∙◌}
use mathlib.Core.List.{List, map}
use Prim.Native.Nat.{ℕ, zero, suc, ◌≤◌, ◌<◌}
use native.Mathlib.Omega.{arith}
use lib.ListN.{length}
use lib.Seq.{take-length}
use Rattle.laws.specs.Lists.{All}
use Rattle.definition.specs.Rule.{Rule}
use Rattle.definition.specs.Point.{list_at}
use Rattle.definition.proofs.Points.{indexes-rules}
use Rattle.tables.specs.Rules.{rule_at}
use Rattle.tables.specs.Lists.{named, shown, Within, box_of, start_of, BoxLists, NamedLists}

module _ (rows sizes table cells lists : List ℕ) (used : ℕ) (rs : List Rule) (boxed : NamedLists rows sizes table cells lists used rs) where
  pub box-listed : (p : List ℕ) → Within sizes 4 p → map (rule_at rs) (shown cells lists (box_of sizes 4 0 p)) ≡ list_at rs (start_of rows table 4 p)
  box-listed p w =
      let q = start_of rows table 4 p in
      ap (map (rule_at rs)) (boxed.list p w) ∙ indexes-rules rs (length rs) q (omega arith) ∙ ap (λ z. list_at z q) (take-length rs)

  pub rules-named : (n : ℕ) → n ≤ used → All (λ k. k < length rs) (named lists n)
  unfolding named
  rules-named zero l = tt
  rules-named (suc i) l = boxed.earlier i l

pub store-names : (rows sizes table cells lists : List ℕ) (used : ℕ) (rs : List Rule) → BoxLists rows sizes table cells lists used rs → NamedLists rows sizes table cells lists used rs
store-names rows sizes table cells lists used rs boxed =
    let stored = boxed.stored in
    record {
      cut = boxed.cut;
      few-boxes = boxed.few-boxes;
      names = stored.store.names;
      room = stored.store.room;
      short = stored.store.short;
      earlier = stored.earlier;
      list = stored.list;
    }
