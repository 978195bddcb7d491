-- FROM A LIST FOR EACH BOX TO PAGES: what numbering the days and popping the groups require, and what stands in the buffer then. Rests on the laws of
-- numbered days, which are the same for both engines.
use mathlib.Core.Path.{◌≡◌, sym, ap, ◌∙◌, subst}
use mathlib.Core.List.{List}
use Prim.Native.Nat.{ℕ, suc, ◌+◌, ◌*◌, ◌≤◌, ◌<◌}
use native.Mathlib.Omega.{arith}
use lib.ListN.{length, get_or, take, drop}
use lib.Seq.{sets}
use Rattle.definition.specs.Rule.{Rule}
use Rattle.definition.specs.Sheet.{Form}
use Rattle.paving.specs.Grid.{size_of, Room}
use Rattle.paving.specs.Sweep.{groups_from}
use Rattle.paving_pages.specs.Pages.{CutRows, groups_numbers}
use Rattle.number_lists.specs.Numbered.{AllReady, NumberingRoom, DaysNumbered}
use Rattle.tables.specs.Days.{number_words}
use Rattle.tables.specs.Lists.{NamedLists}
use Rattle.tables.specs.Rules.{AllCommented, RuleTimes}
use Rattle.tables.specs.Sizes.{day_room}
use Rattle.tables.specs.Pages.{Paged, Counted}
use Rattle.paved.proofs.Ready.{list-ready, rows_cut, boxes-room}
use Rattle.paved.proofs.Numbered.{empty-class}
use Rattle.paved.proofs.Paging.{pages-end, pages-folded}
use Rattle.plain_lists.specs.Listing.{OwnLists}
use Rattle.plain.proofs.Own.{own, node, own-named, own-numbers, own-renamed}

module _ (states counts spans rows sizes cuts lists : List ℕ) (rs : List Rule) (times : RuleTimes states counts spans rs) (given : OwnLists rows sizes cuts lists rs) where
  named : NamedLists rows sizes cuts (own (size_of sizes 4)) lists (size_of sizes 4) rs
  named = own-named rows sizes cuts lists rs given

  -- ## To number the days
  pub own-numbered : (boxes hashes numbers classes : ℕ) → boxes ≡ size_of sizes 4 → 13 * size_of sizes 4 ≤ hashes → size_of sizes 4 < numbers → 4097 ≡ classes
      → AllReady states counts spans lists day_room boxes × NumberingRoom hashes numbers classes boxes
  own-numbered boxes hashes numbers classes e h n c = (
    subst (AllReady states counts spans lists day_room) (sym e) (list-ready states counts spans rs times rows sizes cuts (own (size_of sizes 4)) lists (size_of sizes 4) named),
    record { hashed = omega arith; numbered = omega arith; classed = omega (arith, given.few-boxes); few = omega (arith, given.few-boxes) },
  )

  -- ## To pop the groups, and what they are
  module _ (numbers classes : List ℕ) (boxes lent : ℕ) (sized : boxes ≡ size_of sizes 4) (whole : lent ≡ boxes) (room : size_of sizes 4 < length numbers)
      (numbered : DaysNumbered (number_words states counts spans lists) numbers classes (suc boxes)) where
    abbrev cells : List ℕ
    cells = take lent (drop 1 numbers)

    all : lent ≡ size_of sizes 4
    all = whole ∙ sized

    days : DaysNumbered (number_words states counts spans lists) numbers classes (suc (size_of sizes 4))
    days = subst (λ n. DaysNumbered (number_words states counts spans lists) numbers classes (suc n)) sized numbered

    pub own-popped : (marks pages : ℕ) → size_of sizes 4 + 3 ≤ marks → 13 * size_of sizes 4 ≤ pages
        → Room (length cells) marks sizes 4 0 0 × (CutRows rows cuts sizes 4 × ((get_or classes 0 0 ≡ 0) × (13 * size_of sizes 4 ≤ pages)))
    own-popped marks pages m p = (
      subst (λ n. Room n marks sizes 4 0 0) (sym (ap (λ n. length (take n (drop 1 numbers))) all ∙ own-numbers (size_of sizes 4) numbers room))
          (boxes-room sizes (size_of sizes 4) marks (node rows sizes cuts lists rs given) m),
      (
        rows_cut states counts spans rs times rows sizes cuts (own (size_of sizes 4)) lists (size_of sizes 4) named,
        (
          empty-class states counts spans rows sizes cuts lists (own (size_of sizes 4)) numbers classes (take (size_of sizes 4) (drop 1 numbers)) (size_of sizes 4) rs times named days
              (own-renamed (size_of sizes 4) numbers room),
          p,
        ),
      ),
    )

    module _ (pages₀ pages : List ℕ) (roomy : 13 * size_of sizes 4 ≤ length pages₀)
        (laid : pages ≡ sets pages₀ 0 (groups_numbers rows cuts sizes 4 (groups_from cells classes sizes 5 1 4)))
        (stop : ℕ) (ends : stop ≡ length (groups_numbers rows cuts sizes 4 (groups_from cells classes sizes 5 1 4))) where
      pub own-ended : ((n : ℕ) × Counted pages n 0 stop) × (stop ≤ length pages₀)
      own-ended =
          pages-end states counts spans rows sizes cuts lists (own (size_of sizes 4)) numbers classes (take (size_of sizes 4) (drop 1 numbers)) (size_of sizes 4) rs times
          named days (own-renamed (size_of sizes 4) numbers room) pages₀ pages roomy (rw all at laid) stop (rw all at ends)

      pub own-folded : (form : Form) → AllCommented form rs → (n : ℕ) → ((m : ℕ) → Counted pages m 0 stop → n ≡ m) → Paged form states counts spans lists pages n rs
      own-folded =
          pages-folded states counts spans rows sizes cuts lists (own (size_of sizes 4)) numbers classes (take (size_of sizes 4) (drop 1 numbers)) (size_of sizes 4) rs times
          named days (own-renamed (size_of sizes 4) numbers room) pages₀ pages roomy (rw all at laid) stop (rw all at ends)
