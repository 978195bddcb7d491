-- A RULE MORE IN THE STORE: where it showed the lists of indexes after k rules and a rule was drawn, it shows those after one rule more. Rests on one rule
-- more over boxes, however lists are kept.
use mathlib.Core.Path.{◌≡◌, sym, ap, ◌∙◌, subst}
use mathlib.Core.Bool.{Bool, false, not}
use mathlib.Core.List.{List, map}
use Prim.Native.Nat.{ℕ, suc, ◌≤◌, ◌<◌}
use native.Mathlib.Omega.{arith}
use lib.Dec.{eqb, ltb}
use lib.ListN.{length, get_or, take}
use Rattle.laws.specs.Lists.{from, All}
use Rattle.definition.specs.Rule.{Rule}
use Rattle.definition.specs.Sheet.{sheet_limits}
use Rattle.definition.specs.Point.{combinations}
use Rattle.definition.specs.Lists.{indexes_at, distinct_lists}
use Rattle.definition.proofs.Lists.{long, many}
use Rattle.paving.specs.Grid.{size_of, Node}
use Rattle.paving_points.proofs.Stepping.{boxes-node, many-lists, next-at, some-long}
use Rattle.list_store.specs.Draw.{Drew}
use Rattle.draw_rule.specs.Update.{covered_box}
use Rattle.draw_rule.proofs.Covering.{box-covered}
use Rattle.tables.specs.Sizes.{held_limit}
use Rattle.tables.specs.Ranges.{table_row, selector_of}
use Rattle.tables.specs.Cuts.{ToList}
use Rattle.tables.specs.Lists.{list_of, shown, Store, Earlier, Within, box_of, start_of, Stored}
use Rattle.tables.specs.Plain.{some_overfull}
use Rattle.tables.proofs.Lists.{box_in}
use Rattle.draw_rules.specs.Listing.{Settled}
use Rattle.draw_rules.proofs.Settling.{shown-short}

-- ## A store that shows the same lists
module _ (sizes rows table : List ℕ) (rs : List Rule) (node : Node (size_of sizes 4) sizes 4 0) (cells lists : List ℕ) (used k : ℕ) (one_cell : length cells ≡ size_of sizes 4)
    (earlier : Earlier lists used k) (list : (p : List ℕ) → Within sizes 4 p → shown cells lists (box_of sizes 4 0 p) ≡ indexes_at (take k rs) (start_of rows table 4 p)) where
  pub stored_moved : (cells' lists' : List ℕ) (kept : ℕ) → Store cells' lists' kept → ((box : ℕ) → box < length cells → shown cells' lists' box ≡ shown cells lists box)
      → ((p : ℕ) → p < kept → (l : ℕ) × (l < used) × (list_of lists' p ≡ list_of lists l)) → kept ≤ held_limit → Stored sizes rows table cells' lists' kept rs k
  stored_moved cells' lists' kept store shows there few = record {
    store = store;
    earlier = λ p h. let o = there p h in subst (All (λ r. r < k)) (sym o.2) (earlier o.0 o.1);
    few = few;
    list = λ p w. let inside = box_in (size_of sizes 4) sizes 4 0 p node w in shows (box_of sizes 4 0 p) (omega (arith, inside)) ∙ list p w;
  }

module _ (replacing counts ranges rows sizes table : List ℕ) (n : ℕ) (rs : List Rule) (to-list : ToList replacing counts ranges rows sizes table n rs)
    (cells lists : List ℕ) (used k : ℕ) (here : k < n) (before : Stored sizes rows table cells lists used rs k) (one_cell : length cells ≡ size_of sizes 4) where
  abbrev covered : ℕ → Bool
  covered = covered_box sizes (table_row counts k 4) rows table (table_row ranges k 256)

  covers : (p : List ℕ) → Within sizes 4 p
      → covered (box_of sizes 4 0 p) ≡ not (eqb (combinations (selector_of (table_row counts k 4) (table_row ranges k 256) 4) (start_of rows table 4 p)) 0)
  covers = box-covered sizes (table_row counts k 4) rows table (table_row ranges k 256)

  module _ (cells' lists' memo' : List ℕ) (used' : ℕ) (over : Bool) (drew : Drew cells lists cells' lists' memo' covered k (eqb (get_or replacing k 0) 1) used used' over) where
    -- 6
    pub long-told : over ≡ long sheet_limits rs k
    long-told =
        drew.told ∙ ap (some_overfull (eqb (get_or replacing k 0) 1) covered (shown cells lists)) one_cell
        ∙ some-long replacing counts ranges rows sizes table n rs to-list k here covered covers (shown cells lists) before.list (λ b _. shown-short cells lists used before.store b)

    module _ (same : length cells' ≡ length cells) (quiet : over ≡ false) where
      -- the store shows it
      drawn-at : (p : List ℕ) → Within sizes 4 p → shown cells' lists' (box_of sizes 4 0 p) ≡ indexes_at (take (suc k) rs) (start_of rows table 4 p)
      drawn-at p w =
          let inside = box_in (size_of sizes 4) sizes 4 0 p (boxes-node replacing counts ranges rows sizes table n rs to-list) w in
          drew.shows quiet (box_of sizes 4 0 p) (omega (arith, inside))
          ∙ next-at replacing counts ranges rows sizes table n rs to-list k here covered covers (shown cells lists) before.list p w

      module _ (cells'' lists'' memo'' : List ℕ) (most kept : ℕ) (settled : Settled cells' lists' cells'' lists'' memo'' most used' kept) where
        -- 14
        pub many-told : ltb held_limit kept ≡ many sheet_limits rs k
        many-told =
            settled.told ∙ ap (λ m. ltb held_limit (length (distinct_lists (map (shown cells' lists') (from 0 m))))) (same ∙ one_cell)
            ∙ many-lists replacing counts ranges rows sizes table n rs to-list k here (shown cells' lists') drawn-at

        -- THE STORE AFTER THE RULE
        pub stored_next : kept ≤ held_limit → Stored sizes rows table cells'' lists'' kept rs (suc k)
        stored_next few =
            stored_moved sizes rows table rs (boxes-node replacing counts ranges rows sizes table n rs to-list) cells' lists' used' (suc k) (same ∙ one_cell) drew.earlier drawn-at
            cells'' lists'' kept settled.store settled.shows settled.there few
