-- THE PAGES IN THE BUFFER ARE READ BACK AS THE GROUPS that were written there, one page for each, and they end where the groups' numbers do.
-- Rests on the law that a page is read back where its numbers stand.
use mathlib.Core.Path.{◌≡◌, refl, sym, ap, ap₂, ◌∙◌}
use mathlib.Core.List.{List, [], ◌∷◌, ◌++◌, map, flat_map, append_assoc}
use Prim.Native.Nat.{ℕ, ◌+◌, ◌≤◌}
use native.Mathlib.Omega.{arith}
use lib.ListN.{length, drop, length-append}
use lib.Seq.{sets, sets-eq}
use Rattle.laws.specs.Lists.{All}
use Rattle.grid.specs.Group.{Set, Group}
use Rattle.grid.proofs.Part.{Part}
use Rattle.definition.specs.Range.{Ends}
use Rattle.paving.specs.Grid.{axes}
use Rattle.paving_pages.specs.Pages.{sort_items, page_items, group_numbers, groups_numbers}
use Rattle.tables.specs.Items.{end_numbers}
use Rattle.paving_pages.proofs.Rules.{by-sorts}
use Rattle.tables.specs.Pages.{page_numbers, page_size, page_at, pages_at, Counted}
use Rattle.tables.proofs.Pages.{place-back, page-back, page-behind}
use Rattle.page_count.specs.Items.{dimension_items, group_page}

-- ## A page, and those behind it
page-sized : (Y M K D : List Ends) (pages : List ℕ) (at number : ℕ) (rest : List ℕ) → drop at pages ≡ page_numbers number (Y ∷ M ∷ K ∷ D ∷ []) ++ rest
    → page_size pages at ≡ length (page_numbers number (Y ∷ M ∷ K ∷ D ∷ []))
unfolding page_size page_numbers end_numbers flat_map
page-sized Y M K D pages at number rest held = omega (arith, place-back Y M K D pages at number rest held)

module _ (rows cuts sizes : List ℕ) where
  pub group-numbers : (v : ℕ) (D K M Y : List ℕ)
      → group_numbers rows cuts sizes 4 (v, D ∷ K ∷ M ∷ Y ∷ [])
      ≡ page_numbers v (sort_items rows cuts sizes 0 Y ∷ sort_items rows cuts sizes 1 M ∷ sort_items rows cuts sizes 2 K ∷ sort_items rows cuts sizes 3 D ∷ [])
  unfolding group_numbers page_items
  group-numbers v D K M Y = refl

  -- a group's page is read at a place, as long as its numbers, with these behind it
  pub record Read (pages : List ℕ) (at : ℕ) (g : Group ℕ ℕ) (rest : List ℕ) : Type 0 where
    pub held : drop at pages ≡ group_numbers rows cuts sizes 4 g ++ rest
    pub page : page_at pages at ≡ group_page rows cuts sizes g
    pub sized : page_size pages at ≡ length (group_numbers rows cuts sizes 4 g)
    pub behind : drop (at + page_size pages at) pages ≡ rest

  module _ (pages : List ℕ) where
    group-read : (at v : ℕ) (rest : List ℕ) (S : Set ℕ) → Part (axes sizes 4) S → drop at pages ≡ group_numbers rows cuts sizes 4 (v, S) ++ rest → Read pages at (v, S) rest
    unfolding dimension_items
    group-read at v rest = by-sorts sizes (λ S. drop at pages ≡ group_numbers rows cuts sizes 4 (v, S) ++ rest → Read pages at (v, S) rest) four
      where
        four : (D K M Y : List ℕ) → Part (axes sizes 4) (D ∷ K ∷ M ∷ Y ∷ []) → drop at pages ≡ group_numbers rows cuts sizes 4 (v, D ∷ K ∷ M ∷ Y ∷ []) ++ rest
            → Read pages at (v, D ∷ K ∷ M ∷ Y ∷ []) rest
        four D K M Y p h =
            let years : List Ends = sort_items rows cuts sizes 0 Y in
            let months : List Ends = sort_items rows cuts sizes 1 M in
            let weeks : List Ends = sort_items rows cuts sizes 2 K in
            let weekdays : List Ends = sort_items rows cuts sizes 3 D in
            let numbered = h ∙ ap (◌++ rest) (group-numbers v D K M Y) in
            record {
              held = h;
              page = page-back years months weeks weekdays pages at v rest numbered;
              sized = page-sized years months weeks weekdays pages at v rest numbered ∙ sym (ap length (group-numbers v D K M Y));
              behind = page-behind years months weeks weekdays pages at v rest numbered;
            }

    pub first_read : (g : Group ℕ ℕ) (gs : List (Group ℕ ℕ)) (at : ℕ) (rest : List ℕ) → Part (axes sizes 4) g.1 → drop at pages ≡ groups_numbers rows cuts sizes 4 (g ∷ gs) ++ rest
        → Read pages at g (groups_numbers rows cuts sizes 4 gs ++ rest)
    unfolding groups_numbers flat_map
    first_read g gs at rest p h =
        let more : List ℕ = groups_numbers rows cuts sizes 4 gs in
        group-read at g.0 (more ++ rest) g.1 p (h ∙ append_assoc (group_numbers rows cuts sizes 4 g) more rest)

    pages-read : (gs : List (Group ℕ ℕ)) (at : ℕ) (rest : List ℕ) → All (λ g. Part (axes sizes 4) g.1) gs → drop at pages ≡ groups_numbers rows cuts sizes 4 gs ++ rest
        → pages_at (length gs) pages at ≡ map (group_page rows cuts sizes) gs
    unfolding pages_at
    pages-read [] at rest p h = refl
    pages-read (g ∷ gs) at rest p h =
        let first = first_read g gs at rest p.0 h in
        ap₂ ◌∷◌ first.page (pages-read gs (at + page_size pages at) rest p.1 first.behind)

    pages-counted : (gs : List (Group ℕ ℕ)) (at stop : ℕ) (rest : List ℕ) → All (λ g. Part (axes sizes 4) g.1) gs → drop at pages ≡ groups_numbers rows cuts sizes 4 gs ++ rest
        → at + length (groups_numbers rows cuts sizes 4 gs) ≡ stop → Counted pages (length gs) at stop
    unfolding Counted groups_numbers flat_map
    pages-counted [] at stop rest p h e = omega (arith, e)
    pages-counted (g ∷ gs) at stop rest p h e =
        let first = first_read g gs at rest p.0 h in
        let size = length-append (group_numbers rows cuts sizes 4 g) (groups_numbers rows cuts sizes 4 gs) in
        (omega (arith, size, first.sized), pages-counted gs (at + page_size pages at) stop rest p.1 first.behind (omega (arith, size, first.sized)))

-- ## THE PAGES IN THE BUFFER ARE THE GROUPS, and end where the groups' numbers do
module _ (rows cuts sizes pages₀ pages : List ℕ) (gs : List (Group ℕ ℕ)) (laid : pages ≡ sets pages₀ 0 (groups_numbers rows cuts sizes 4 gs))
    (room : length (groups_numbers rows cuts sizes 4 gs) ≤ length pages₀) where
  abbrev numbers : List ℕ
  numbers = groups_numbers rows cuts sizes 4 gs

  abbrev pub numbers_behind : List ℕ
  numbers_behind = drop (length numbers) pages₀

  pub text-held : pages ≡ numbers ++ numbers_behind
  text-held = let none : 0 + length numbers ≡ length numbers = omega arith in laid ∙ sets-eq numbers pages₀ 0 (omega arith) ∙ ap (λ n. numbers ++ drop n pages₀) none

  module _ (parts : All (λ g. Part (axes sizes 4) g.1) gs) where
    pub text-pages : pages_at (length gs) pages 0 ≡ map (group_page rows cuts sizes) gs
    text-pages = pages-read rows cuts sizes pages gs 0 numbers_behind parts text-held

    pub text-counted : Counted pages (length gs) 0 (length numbers)
    text-counted = pages-counted rows cuts sizes pages gs 0 (length numbers) numbers_behind parts text-held (omega arith)
