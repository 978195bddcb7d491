-- THE RULES OF THE PAGES ARE THE GROUPS': laying items over a rule sort by sort, or dimension by dimension, gives the same rule. Rests on the
-- law that the pages are read back.
use mathlib.Core.Path.{◌≡◌, refl, ap, ◌∙◌}
use mathlib.Core.List.{List, flat_map}
use Prim.Native.Nat.{ℕ, ◌≤◌}
use lib.ListN.{length}
use lib.Seq.{sets}
use Rattle.laws.specs.Lists.{All}
use Rattle.laws.proofs.Lists.{All-map}
use Rattle.laws.proofs.Spread.{flat_map-map}
use Rattle.grid.specs.Group.{Set, Group}
use Rattle.grid.proofs.Part.{Part}
use Rattle.paving.specs.Grid.{axes}
use Rattle.tables.specs.Days.{box_words, number_day}
use Rattle.tables.specs.Items.{over_items}
use Rattle.tables.specs.Pages.{day_rules, pages_at, page_rules, pages_rules}
use Rattle.paving_pages.specs.Pages.{page_items, groups_numbers}
use Rattle.paving_pages.specs.Sorts.{over_sorts, group_rules}
use Rattle.paving_pages.proofs.Rules.{by-sorts}
use Rattle.page_count.specs.Items.{dimension_items, group_page}
use Rattle.page_count.proofs.Reading.{text-pages}

module _ (rows cuts sizes states counts spans lists : List ℕ) where
  page-rules : (v : ℕ) (S : Set ℕ) → Part (axes sizes 4) S
      → page_rules (box_words states counts spans lists) (group_page rows cuts sizes (v, S)) ≡ group_rules rows cuts sizes (number_day states counts spans lists) (v, S)
  unfolding page_rules day_rules group_rules over_items over_sorts page_items dimension_items
  page-rules v =
      by-sorts sizes (λ S. page_rules (box_words states counts spans lists) (group_page rows cuts sizes (v, S)) ≡ group_rules rows cuts sizes (number_day states counts spans lists) (v, S))
      (λ D K M Y p. refl)

  pub text-rules : (pages₀ pages : List ℕ) (gs : List (Group ℕ ℕ)) → pages ≡ sets pages₀ 0 (groups_numbers rows cuts sizes 4 gs)
      → length (groups_numbers rows cuts sizes 4 gs) ≤ length pages₀ → All (λ g. Part (axes sizes 4) g.1) gs
      → pages_rules (box_words states counts spans lists) (pages_at (length gs) pages 0) ≡ flat_map (group_rules rows cuts sizes (number_day states counts spans lists)) gs
  text-rules pages₀ pages gs laid room parts =
      ap (pages_rules (box_words states counts spans lists)) (text-pages rows cuts sizes pages₀ pages gs laid room parts)
      ∙ flat_map-map (page_rules (box_words states counts spans lists)) (group_rules rows cuts sizes (number_day states counts spans lists)) (group_page rows cuts sizes) gs
      (All-map (λ g p. page-rules g.0 g.1 p) gs parts)
