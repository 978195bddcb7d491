-- THE FOLDED RULES ARE THOSE OF THE POPPED GROUPS, where each box has the number of its list's day: the groups' numbers are in use and none is
-- the empty day's, and they are no more than the boxes. Rests on the laws of numbers and of popped groups.
use mathlib.Core.Path.{◌≡◌, refl, sym, ap, ◌∙◌, subst}
use mathlib.Core.Logic.{◌⊎◌, inl, inr}
use mathlib.Core.Bool.{Bool, true, false, cond, true≢false}
use mathlib.Core.List.{List, map, flat_map}
use Prim.Native.Nat.{ℕ, zero, suc, ◌-◌, ◌≤◌, ◌<◌}
use native.Mathlib.Omega.{arith}
use lib.Dec.{eqb}
use lib.ListN.{length, get_or, length-map, get_or-eq_default}
use Rattle.laws.specs.Lists.{from, All, OnSome}
use Rattle.laws.proofs.Lists.{All-map, All-each, All-image, OnSome-map, OnSome-both}
use Rattle.laws.proofs.Tests.{exact-eqb}
use Rattle.laws.proofs.Numbers.{at_most}
use Rattle.grid.specs.Group.{Set, Map, Group, inside, clear, pop}
use Rattle.grid.proofs.Part.{Part, groups-part, groups-each}
use Rattle.grid.proofs.Value.{pop-agree, pop-inside, clear-value}
use Rattle.definition.specs.Rule.{Rule}
use Rattle.definition.specs.Sheet.{Form, sheet_limits}
use Rattle.definition.specs.Point.{dimensions, list_at}
use Rattle.definition.specs.Day.{Day, day}
use Rattle.definition.specs.Group.{pages, folded}
use Rattle.definition.proofs.Lawful.{Lawful}
use Rattle.definition.proofs.Counts.{pages-count}
use Rattle.paving.specs.Grid.{axes, grid, in_class}
use Rattle.paving.specs.Sweep.{classes_from, groups_from}
use Rattle.paving.proofs.Points.{grid-values}
use Rattle.paving.proofs.Sweeping.{empty-unmatched}
use Rattle.tables.specs.Cuts.{cut_of}
use Rattle.tables.specs.Lists.{named, shown, Renamed, Within, box_of, start_of, NamedLists}
use Rattle.paving_cuts.proofs.ByRules.{boxes-counted}
use Rattle.tables.specs.Rules.{AllCommented, RuleTimes}
use Rattle.paving_points.specs.Paged.{page_of}
use Rattle.paving_points.proofs.Boxes.{lawful-bounded}
use Rattle.paving_points.proofs.Groups.{pages-popped}
use Rattle.day_flat.specs.Day.{unflat_from}
use Rattle.tables.specs.Days.{words_of, number_words, number_day}
use Rattle.number_lists.specs.Numbered.{DaysNumbered}
use Rattle.number_lists.proofs.InUse.{InUse, day-numbered, same-day-number, numbers-classed, zero_number, zero-used, zero-class, number-low}
use Rattle.paving_pages.specs.Sorts.{group_rules}
use Rattle.paving_pages.proofs.Rules.{rules-paged}
use Rattle.tables.specs.Sizes.{day_room}
use Rattle.tables.proofs.Days.{fits-lawful}
use Rattle.tables.proofs.Times.{day-listed}
use Rattle.tables.proofs.Stored.{box-listed, rules-named}
use Rattle.page_count.specs.DayReady.{DayReady}
use Rattle.paved.proofs.Ready.{list-ready, list-carried}

-- ## Popped values
module _ (P : ℕ → Type 0) (cells classes sizes : List ℕ) (last k l : ℕ) (empty : get_or classes 0 0 ≡ 0) (zero-too : P 0) (each : (j : ℕ) → P (get_or cells j 0)) where
  -- what holds of every cell holds of every popped value; and no group is of 0
  popped-values : All (λ g. P g.0 × (1 ≤ g.0)) (groups_from cells classes sizes last k l)
  unfolding groups_from classes_from
  popped-values = groups-each eqb eqb 0 (axes sizes l) (λ ok. ok 0 ≡ false) (λ g. P g.0 × (1 ≤ g.0)) (λ f. (p : List ℕ) → P (f p)) popped cleared
      (map (in_class classes) (from k (suc last - k)))
      (All-image (λ ok. ok 0 ≡ false) (in_class classes) (from k (suc last - k)) (All-each _ (λ c. empty-unmatched classes c empty) (from k (suc last - k))))
      (grid cells sizes l 0) (grid-values P cells sizes zero-too each l 0)
    where
      positive : (ok : ℕ → Bool) → ok 0 ≡ false → (v : ℕ) → ok v ≡ true → 1 ≤ v
      positive ok z zero e = absurd (true≢false (sym e ∙ z))
      positive ok z (suc v) e = omega arith

      popped : (ok : ℕ → Bool) → ok 0 ≡ false → (f : Map ℕ ℕ) → ((p : List ℕ) → P (f p)) → OnSome (λ g. P g.0 × (1 ≤ g.0)) (pop eqb ok (axes sizes l) f)
      popped ok z f h = OnSome-map (λ g q. (q.0, positive ok z g.0 q.1.1)) (pop eqb ok (axes sizes l) f)
          (OnSome-both _ _ (pop eqb ok (axes sizes l) f) (pop-inside eqb exact-eqb ok P (axes sizes l) f (λ p i. h p)) (pop-agree exact-eqb ok (axes sizes l) f))

      cleared : (S : Set ℕ) (f : Map ℕ ℕ) → ((p : List ℕ) → P (f p)) → (p : List ℕ) → P (clear eqb 0 S f p)
      cleared S f h p = subst P (sym (clear-value eqb 0 S f p)) (go (inside eqb S p))
        where
          go : (b : Bool) → P (cond b 0 (f p))
          go true = zero-too
          go false = h p

-- popped sets are parts of the dimensions
pub found-parts : (cells classes sizes : List ℕ) (last k l : ℕ) → All (λ g. Part (axes sizes l) g.1) (groups_from cells classes sizes last k l)
unfolding groups_from
found-parts cells classes sizes last k l = groups-part eqb eqb 0 (axes sizes l) (classes_from classes last k) (grid cells sizes l 0)

-- ## Cells with the numbers of days
-- a cell has what the table has for its list's number: so has a place past the last, where the table has 0 for the empty list
cell-number : (cells numbers cells' : List ℕ) → Renamed cells numbers cells' (length cells) → get_or numbers 0 0 ≡ 0 → (box : ℕ) → get_or cells' box 0 ≡ get_or numbers (get_or cells box 0) 0
cell-number cells numbers cells' renamed none box = go (at_most (length cells) box)
  where
    go : (length cells ≤ box) ⊎ (box < length cells) → get_or cells' box 0 ≡ get_or numbers (get_or cells box 0) 0
    go (inl l) = let past : get_or cells box 0 ≡ 0 = get_or-eq_default cells 0 l in renamed.later box l ∙ past ∙ sym none ∙ ap (λ n. get_or numbers n 0) (sym past)
    go (inr l) = renamed.anew box l

module _ (states counts spans rows sizes cuts lists cells numbers classes cells' : List ℕ) (used : ℕ) (rs : List Rule) (tables : RuleTimes states counts spans rs)
    (boxed : NamedLists rows sizes cuts cells lists used rs) (numbered : DaysNumbered (number_words states counts spans lists) numbers classes (suc used))
    (renamed : Renamed cells numbers cells' (length cells)) where
  abbrev found : List (Group ℕ ℕ)
  found = groups_from cells' classes sizes 5 1 4

  abbrev day_of : ℕ → Day
  day_of = number_day states counts spans lists

  abbrev Used : ℕ → Type 0
  Used = InUse numbers used

  numbered-cell : (box : ℕ) → get_or cells' box 0 ≡ get_or numbers (get_or cells box 0) 0
  numbered-cell = cell-number cells numbers cells' renamed (zero_number states counts spans lists numbers classes used numbered)

  cells-used : (box : ℕ) → Used (get_or cells' box 0)
  cells-used box = (get_or cells box 0, boxed.names box, numbered-cell box)

  none-used : Used 0
  none-used = zero-used states counts spans lists numbers classes used numbered

  pub empty-class : get_or classes 0 0 ≡ 0
  empty-class = zero-class states counts spans lists numbers classes used numbered

  lawful : All Lawful rs
  lawful = fits-lawful rs tables.fits

  -- ## The definition's pages
  -- at each box the day of its list
  box-day : (p : List ℕ) → Within sizes 4 p → day_of (get_or cells' (box_of sizes 4 0 p) 0) ≡ day (list_at rs (start_of rows cuts 4 p))
  unfolding shown
  box-day p w =
      let n : ℕ = get_or cells (box_of sizes 4 0 p) 0 in
      let in_use : n ≤ used = boxed.names (box_of sizes 4 0 p) in
      ap day_of (numbered-cell (box_of sizes 4 0 p)) ∙ day-numbered states counts spans lists numbers classes used numbered n in_use
      ∙ day-listed states counts spans rs tables (named lists n) (rules-named rows sizes cuts cells lists used rs boxed n in_use)
      ∙ ap day (box-listed rows sizes cuts cells lists used rs boxed p w)

  pages-found : pages rs ≡ map (page_of day_of (cut_of rows cuts) 4) found
  pages-found = pages-popped rows sizes cuts cells' classes rs lawful boxed.cut.cut_by day_of Used
      (same-day-number states counts spans lists numbers classes used numbered) (unfold words_of unflat_from in refl) none-used
      empty-class (numbers-classed states counts spans lists numbers classes used numbered) cells-used box-day

  pages-many : length (pages rs) ≡ length found
  pages-many = ap length pages-found ∙ length-map found (page_of day_of (cut_of rows cuts) 4)

  -- THE FOLDED RULES
  pub folded-found : folded rs ≡ flat_map (group_rules rows cuts sizes day_of) found
  folded-found = rules-paged rows sizes cuts rs day_of boxed.cut.cut_by (lawful-bounded rs lawful) cells' classes pages-found

  pub found-few : length found ≤ sheet_limits.boxes
  found-few = omega (arith, pages-many, pages-count rs lawful, boxes-counted rows sizes cuts rs dimensions boxed.cut.cut_by, boxed.few-boxes)

  -- ## The groups
  -- a group's number is that of a list's day
  pub found-ready : (form : Form) → AllCommented form rs → All (λ g. DayReady form states counts spans lists day_room g.0) found
  found-ready form commented = All-map (λ g q. each g.0 q.0 q.1) found (popped-values Used cells' classes sizes 5 1 4 empty-class none-used cells-used)
    where
      each : (v : ℕ) → Used v → 1 ≤ v → DayReady form states counts spans lists day_room v
      each v u l =
          let low : v - 1 < used = omega (arith, number-low states counts spans lists numbers classes used numbered v u) in (
            l,
            list-ready states counts spans rs tables rows sizes cuts cells lists used boxed (v - 1) low,
            list-carried states counts spans rs tables rows sizes cuts cells lists used boxed form commented (v - 1) low,
          )
