-- The walk of one dimension, over the nodes from one up to another and over the runs below each: what holds on the way, and a law for each of its steps.
-- Rests on the laws of passed boxes and of walks.
use mathlib.Core.Path.{◌≡◌, refl, ◌∙◌}
use mathlib.Core.Bool.{Bool}
use mathlib.Core.List.{List}
use Prim.Native.Nat.{ℕ, suc, ◌+◌, ◌*◌, ◌≤◌, ◌<◌}
use native.Mathlib.Omega.{arith}
use lib.ListN.{length, get_or}
use Rattle.list_store.specs.Draw.{Making, Walked}
use Rattle.list_store.proofs.Walking.{walked_as, walked_none, walked-append}
use Rattle.tables.specs.Sizes.{range_places}
use Rattle.draw_rule.specs.Runs.{Planned, Nodes, end_of, first_below, end_below, reached_from}
use Rattle.draw_rule.proofs.Passing.{nodes-child, nodes-in, passed, passed_none, passed-run, passed-node, passed-all}

-- ON THE WAY, at a run of a node: the runs before it are drawn, and so are the nodes before
pub record Level (cells₀ lists₀ memo₀ : List ℕ) (used₀ : ℕ) (over₀ : Bool) (rule : ℕ) (replaces : Bool) (before : ℕ) (sizes counts runs : List ℕ) (i first end count : ℕ)
    (cells lists memo : List ℕ) (used : ℕ) (over : Bool) (node range : ℕ) : Type 0 where
  pub from_first : first ≤ node
  pub to_end : node ≤ end
  pub few : range ≤ count
  pub done : end ≤ node → range ≡ 0
  pub cells-kept : length cells ≡ length cells₀
  pub lists-kept : length lists ≡ length lists₀
  pub memo-kept : length memo ≡ length memo₀
  pub walked : Walked cells₀ lists₀ used₀ over₀ cells lists memo used over rule replaces before (passed sizes counts runs i first node range)

module _ {cells₀ lists₀ memo₀ : List ℕ} {used₀ : ℕ} {over₀ : Bool} {rule : ℕ} {replaces : Bool} {before : ℕ} {sizes counts runs : List ℕ} {i first end : ℕ} where
  pub level-start : {count : ℕ} → Making cells₀ lists₀ memo₀ rule before used₀ → first ≤ end
      → Level cells₀ lists₀ memo₀ used₀ over₀ rule replaces before sizes counts runs i first end count cells₀ lists₀ memo₀ used₀ over₀ first 0
  level-start making h = record {
    from_first = omega arith;
    to_end = h;
    few = omega arith;
    done = λ _. refl;
    cells-kept = refl;
    lists-kept = refl;
    memo-kept = refl;
    walked = walked_as (passed_none sizes counts runs i first) (walked_none making);
  }

  module _ {count : ℕ} {cells lists memo : List ℕ} {used : ℕ} {over : Bool} {node range : ℕ}
      (level : Level cells₀ lists₀ memo₀ used₀ over₀ rule replaces before sizes counts runs i first end count cells lists memo used over node range) where
    -- ## A run
    module _ (inside : node < end) (left : range < count) where
      pub level-run : Making cells₀ lists₀ memo₀ rule before used₀ → {cells' lists' memo' : List ℕ} {used' : ℕ} {over' : Bool}
          → length cells' ≡ length cells → length lists' ≡ length lists → length memo' ≡ length memo → {start stop : ℕ} → start ≡ first_below sizes runs i node range → stop ≡ end_below sizes runs i node range
          → Walked cells lists used over cells' lists' memo' used' over' rule replaces before (reached_from sizes counts runs i start stop)
          → Level cells₀ lists₀ memo₀ used₀ over₀ rule replaces before sizes counts runs i first end count cells' lists' memo' used' over' node (range + 1)
      level-run making c l m {start} {stop} a b w = record {
        from_first = level.from_first;
        to_end = level.to_end;
        few = omega arith;
        done = λ h. absurd (omega arith);
        cells-kept = c ∙ level.cells-kept;
        lists-kept = l ∙ level.lists-kept;
        memo-kept = m ∙ level.memo-kept;
        walked = walked_as (passed-run sizes counts runs i first node range start stop a b) (walked-append making level.walked w);
      }

      module _ (planned : Planned sizes counts runs) (few : i < 4) (all : count ≡ get_or counts i 0) (nodes : Nodes (length cells₀) sizes (suc i) end) where
        -- it stands in the table, and its numbers fit
        pub run-there : (i < length sizes) × (i * range_places + 2 * range + 1 < length runs) × (node * get_or sizes i 0 ≤ length cells₀)
        run-there =
            let h = nodes-in i (nodes-child i node 0 nodes inside (omega arith)) in
            (omega (arith, planned.all-sizes), omega (arith, planned.all_runs, planned.count i few), omega arith)

        -- its cells are there
        pub run-nodes : {start stop : ℕ} → start ≡ first_below sizes runs i node range → stop ≡ end_below sizes runs i node range → Nodes (length cells) sizes i stop × (start ≤ stop)
        run-nodes a b =
            (rw (level.cells-kept, b) (nodes-child i node (end_of runs i range) nodes inside (planned.inside i range few (omega arith))), omega (arith, planned.ordered i range few (omega arith)))

    -- ## All runs of a node
    pub level-node : node < end → count ≤ range → count ≡ get_or counts i 0
        → Level cells₀ lists₀ memo₀ used₀ over₀ rule replaces before sizes counts runs i first end count cells lists memo used over (node + 1) 0
    level-node inside last all = record {
      from_first = omega (arith, level.from_first);
      to_end = omega arith;
      few = omega arith;
      done = λ _. refl;
      cells-kept = level.cells-kept;
      lists-kept = level.lists-kept;
      memo-kept = level.memo-kept;
      walked = walked_as (passed-node sizes counts runs i first node range level.from_first (omega (arith, level.few))) level.walked;
    }

    -- ## All nodes
    pub level-end : end ≤ node → Walked cells₀ lists₀ used₀ over₀ cells lists memo used over rule replaces before (reached_from sizes counts runs (suc i) first end)
    level-end h = walked_as (passed-all sizes counts runs i first node range end (omega (arith, level.to_end)) (level.done h)) level.walked
