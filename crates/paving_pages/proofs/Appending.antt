-- Pages appended one behind the other; and how the room that is required for all of them gives the room of a page, of a class and of the
-- classes behind it. Rests on paving's laws of the loop.
use mathlib.Core.Path.{◌≡◌, refl, sym, ap, ap₂, ◌∙◌}
use mathlib.Core.List.{List, [], ◌∷◌, ◌++◌, flat_map}
use Prim.Native.Nat.{ℕ, suc, ◌+◌, ◌≤◌}
use native.Mathlib.Omega.{arith}
use lib.ListN.{length, length-append}
use lib.Seq.{sets}
use Rattle.laws.proofs.Spread.{flat_map-append}
use Rattle.laws.proofs.Stores.{sets-append}
use Rattle.grid.specs.Group.{Group, groups}
use Rattle.paving.specs.Grid.{grid}
use Rattle.paving.specs.Sweep.{swept, classes_from, groups_from, emitted}
use Rattle.paving.proofs.Room.{from_cons}
use Rattle.paving.proofs.Sweeping.{groups-step}
use Rattle.paving_pages.specs.Pages.{state, group_numbers, groups_numbers, put_page}

module _ (rows cuts sizes : List ℕ) (l : ℕ) where
  pub pages-put : (pages : List ℕ) (next : ℕ) (gs : List (Group ℕ ℕ))
      → emitted (put_page rows cuts sizes l) (state pages next) gs ≡ state (sets pages next (groups_numbers rows cuts sizes l gs)) (next + length (groups_numbers rows cuts sizes l gs))
  unfolding emitted put_page groups_numbers flat_map
  pages-put pages next [] = let e : next ≡ next + 0 = omega arith in ap (state pages) e
  pages-put pages next (g ∷ gs) =
      let page : List ℕ = group_numbers rows cuts sizes l g in
      let more : List ℕ = groups_numbers rows cuts sizes l gs in
      let e : next + length page + length more ≡ next + length (page ++ more) = omega (arith, length-append page more) in
      pages-put (sets pages next page) (next + length page) gs ∙ ap₂ state (sym (sets-append pages next page more)) e

  -- from the front on
  pub pages-whole : (pages after : List ℕ) (r : ℕ) (gs : List (Group ℕ ℕ)) → state after r ≡ emitted (put_page rows cuts sizes l) (state pages 0) gs
      → (r ≡ length (groups_numbers rows cuts sizes l gs)) × (after ≡ sets pages 0 (groups_numbers rows cuts sizes l gs))
  pages-whole pages after r gs h = let e = h ∙ pages-put pages 0 gs in (omega (arith, ap (λ s. s.next) e), ap (λ s. s.pages) e)

  ends : (pages pages₁ : List ℕ) (next next₁ : ℕ) (gs gs₁ : List (Group ℕ ℕ))
      → emitted (put_page rows cuts sizes l) (state pages next) gs ≡ emitted (put_page rows cuts sizes l) (state pages₁ next₁) gs₁
      → next + length (groups_numbers rows cuts sizes l gs) ≡ next₁ + length (groups_numbers rows cuts sizes l gs₁)
  ends pages pages₁ next next₁ gs gs₁ e = ap (λ s. s.next) (sym (pages-put pages next gs) ∙ e ∙ pages-put pages₁ next₁ gs₁)

  -- a page has room where all that is left has
  pub round_room : (pages first : List ℕ) (next start : ℕ) (g : Group ℕ ℕ) (gs gs₁ : List (Group ℕ ℕ))
      → emitted (put_page rows cuts sizes l) (put_page rows cuts sizes l (state pages next) g) gs ≡ emitted (put_page rows cuts sizes l) (state first start) gs₁
      → length pages ≡ length first → start + length (groups_numbers rows cuts sizes l gs₁) ≤ length first
      → next + length (group_numbers rows cuts sizes l g) ≤ length pages
  unfolding put_page
  round_room pages first next start g gs gs₁ e same h =
      omega (arith, ends (sets pages next (group_numbers rows cuts sizes l g)) first (next + length (group_numbers rows cuts sizes l g)) start gs gs₁ e)

  front : (gs hs : List (Group ℕ ℕ)) → length (groups_numbers rows cuts sizes l gs) ≤ length (groups_numbers rows cuts sizes l (gs ++ hs))
  unfolding groups_numbers
  front gs hs =
      omega (arith, ap length (flat_map-append (group_numbers rows cuts sizes l) gs hs), length-append (flat_map (group_numbers rows cuts sizes l) gs) (flat_map (group_numbers rows cuts sizes l) hs))

  module _ (cells classes : List ℕ) (last k next : ℕ) (pages : List ℕ) (on : k ≤ last)
      (h : next + length (groups_numbers rows cuts sizes l (groups_from cells classes sizes last k l)) ≤ length pages) where
    -- a class has room where it has with those behind it
    pub class-room : next + length (groups_numbers rows cuts sizes l (swept cells classes sizes k l).0) ≤ length pages
    class-room = omega (arith, few)
      where
        few : length (groups_numbers rows cuts sizes l (swept cells classes sizes k l).0) ≤ length (groups_numbers rows cuts sizes l (groups_from cells classes sizes last k l))
        few = unfold swept groups_from classes_from groups in rw (from_cons k (suc last) (omega arith)) (front _ _)

    -- and so have these
    pub rest-room : (after pages₁ : List ℕ) (next₁ : ℕ) → state pages₁ next₁ ≡ emitted (put_page rows cuts sizes l) (state pages next) (swept cells classes sizes k l).0
        → grid after sizes l 0 ≡ (swept cells classes sizes k l).1 → length pages₁ ≡ length pages
        → next₁ + length (groups_numbers rows cuts sizes l (groups_from after classes sizes last (k + 1) l)) ≤ length pages₁
    rest-room after pages₁ next₁ a c same =
        omega (
          arith,
          ends pages₁ pages next₁ next (groups_from after classes sizes last (k + 1) l) (groups_from cells classes sizes last k l)
              (groups-step cells classes sizes last k l (put_page rows cuts sizes l) after (state pages next) (state pages₁ next₁) _ on a c refl),
        )
