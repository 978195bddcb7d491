-- THE PAGES IN THE BUFFER ARE THOSE OF THE FOLDED RULES, where the groups were appended to it. Rests on the laws that the folded rules are the
-- groups' and that pages are read back.
use mathlib.Core.Path.{◌≡◌, sym, ◌∙◌, subst}
use mathlib.Core.List.{List}
use Prim.Native.Nat.{ℕ, suc, ◌*◌, ◌≤◌}
use native.Mathlib.Omega.{arith}
use lib.ListN.{length}
use lib.Seq.{sets}
use Rattle.laws.specs.Lists.{All}
use Rattle.grid.specs.Group.{Group}
use Rattle.grid.proofs.Part.{Part}
use Rattle.definition.specs.Rule.{Rule}
use Rattle.definition.specs.Sheet.{Form}
use Rattle.paving.specs.Grid.{size_of, axes}
use Rattle.paving.specs.Sweep.{groups_from}
use Rattle.number_lists.specs.Numbered.{DaysNumbered}
use Rattle.tables.specs.Days.{number_words}
use Rattle.paving_pages.specs.Pages.{groups_numbers}
use Rattle.paving_pages.proofs.Enough.{pages-few}
use Rattle.tables.specs.Rules.{AllCommented, RuleTimes}
use Rattle.tables.specs.Lists.{Renamed, NamedLists}
use Rattle.tables.specs.Sizes.{day_room}
use Rattle.tables.specs.Pages.{Paged, Counted}
use Rattle.page_count.proofs.Reading.{text-counted}
use Rattle.page_count.proofs.Rules.{text-rules}
use Rattle.page_count.proofs.Ready.{text-ready}
use Rattle.tables.proofs.Days.{fits-lawful}
use Rattle.paved.proofs.Numbered.{empty-class, folded-found, found-few, found-parts, found-ready}

module _ (states counts spans rows sizes cuts lists cells numbers classes cells' : List ℕ) (used : ℕ) (rs : List Rule) (tables : RuleTimes states counts spans rs)
    (boxed : NamedLists rows sizes cuts cells lists used rs) (numbered : DaysNumbered (number_words states counts spans lists) numbers classes (suc used))
    (renamed : Renamed cells numbers cells' (length cells)) (pages₀ pages : List ℕ) (roomy : 13 * size_of sizes 4 ≤ length pages₀)
    (laid : pages ≡ sets pages₀ 0 (groups_numbers rows cuts sizes 4 (groups_from cells' classes sizes 5 1 4))) (stop : ℕ)
    (ends : stop ≡ length (groups_numbers rows cuts sizes 4 (groups_from cells' classes sizes 5 1 4))) where
  abbrev found : List (Group ℕ ℕ)
  found = groups_from cells' classes sizes 5 1 4

  inside : length (groups_numbers rows cuts sizes 4 found) ≤ length pages₀
  inside =
      omega (
        arith,
        pages-few rows cuts cells' classes sizes 5 1 (empty-class states counts spans rows sizes cuts lists cells numbers classes cells' used rs tables boxed numbered renamed),
      )

  parts : All (λ g. Part (axes sizes 4) g.1) found
  parts = found-parts cells' classes sizes 5 1 4

  -- the pages end where the groups' numbers do
  ended : Counted pages (length found) 0 stop
  ended = subst (Counted pages (length found) 0) (sym ends) (text-counted rows cuts sizes pages₀ pages found laid inside parts)

  pub pages-end : ((n : ℕ) × Counted pages n 0 stop) × (stop ≤ length pages₀)
  pages-end = ((length found, ended), omega (arith, inside))

  -- SO MANY PAGES as were counted
  pub pages-folded : (form : Form) → AllCommented form rs → (n : ℕ) → ((m : ℕ) → Counted pages m 0 stop → n ≡ m) → Paged form states counts spans lists pages n rs
  pages-folded form commented n counted = subst (λ m. Paged form states counts spans lists pages m rs) (sym (counted (length found) ended)) (record {
    few = found-few states counts spans rows sizes cuts lists cells numbers classes cells' used rs tables boxed numbered renamed;
    ready = text-ready rows sizes cuts rs boxed.cut (fits-lawful rs tables.fits) boxed.few-boxes
        form states counts spans lists pages₀ pages day_room found laid inside parts
        (found-ready states counts spans rows sizes cuts lists cells numbers classes cells' used rs tables boxed numbered renamed form commented);
    rules = text-rules rows cuts sizes states counts spans lists pages₀ pages found laid inside parts
        ∙ sym (folded-found states counts spans rows sizes cuts lists cells numbers classes cells' used rs tables boxed numbered renamed);
  })
