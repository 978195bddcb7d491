-- THE MEANING OF A WALK over the runs of all dimensions: it is the plain step of the rule. Rests on the laws of covered boxes and on those of the store.
use mathlib.Core.Path.{◌≡◌, subst}
use mathlib.Core.Bool.{Bool, false}
use mathlib.Core.List.{List}
use Prim.Native.Nat.{ℕ, ◌<◌}
use lib.ListN.{length}
use Rattle.laws.specs.Lists.{Mem}
use Rattle.laws.proofs.Tests.{exact-eqb}
use Rattle.laws.proofs.Lists.{Mem-any}
use Rattle.paving.specs.Grid.{Node}
use Rattle.tables.proofs.Lists.{box_in}
use Rattle.list_store.specs.Draw.{Walked, Ready, Drew}
use Rattle.list_store.proofs.Walking.{walked_as}
use Rattle.list_store.proofs.Drawing.{drew-all}
use Rattle.draw_rule.specs.Update.{leaves, covered_box}
use Rattle.draw_rule.specs.Runs.{RunsUpTo, reached_from}
use Rattle.draw_rule.proofs.Reaching.{reached-all}
use Rattle.draw_rule.proofs.Covering.{leaf-box}

module _ (sizes counts rows cuts ranges : List ℕ) where
  -- THE WALK over the runs of all dimensions
  pub rule-drawn : {cells lists memo cells' lists' memo' : List ℕ} {rule : ℕ} {replaces : Bool} {used used' : ℕ} {over : Bool} (runs : List ℕ) → RunsUpTo sizes counts rows cuts ranges runs 4
      → Node (length cells) sizes 4 0 → Ready cells lists memo rule used → length cells' ≡ length cells → length lists' ≡ length lists
      → Walked cells lists used false cells' lists' memo' used' over rule replaces used (reached_from sizes counts runs 4 0 1)
      → Drew cells lists cells' lists' memo' (covered_box sizes counts rows cuts ranges) rule replaces used used' over
  unfolding covered_box
  rule-drawn {cells} runs found n r same len w = drew-all r (walked_as (reached-all sizes counts rows cuts ranges runs found) w) same len inside
    where
      inside : (box : ℕ) → Mem box (leaves sizes counts rows cuts ranges 4 0) → box < length cells
      inside box m = let q = leaf-box sizes counts rows cuts ranges 4 0 box (Mem-any exact-eqb box _ m) in subst (◌< length cells) q.2 (box_in (length cells) sizes 4 0 q.0 n q.1)
