-- One lemma for each return of the writing: the sorts of a page one after the other, and a page. Rests on the laws of numbers laid over a
-- buffer.
use mathlib.Core.Path.{◌≡◌, refl, sym, ap, ap₂, ◌∙◌, subst}
use mathlib.Core.List.{List, [], ◌∷◌, ◌++◌, map, flat_map, map-append}
use Prim.Native.Nat.{ℕ, zero, suc, ◌+◌, ◌-◌, ◌*◌, ◌≤◌, ◌<◌}
use native.Mathlib.Omega.{arith}
use lib.ListN.{length, get_or, set, length-append, length-map, length-set}
use lib.Seq.{sets}
use Rattle.laws.proofs.Spread.{flat_map-last}
use Rattle.laws.proofs.Stores.{sets-append, sets-set}
use Rattle.definition.specs.Range.{Ends}
use Rattle.words.proofs.Sets.{sets-next}
use Rattle.paving.specs.Grid.{width_of, marks_from, chosen}
use Rattle.date_items.specs.Runs.{Cuts, items_at}
use Rattle.plain_boxes.proofs.Widths.{width-next, width-le}
use Rattle.tables.specs.Items.{numbers, end_numbers}
use Rattle.tables.proofs.Pages.{length-numbers}
use Rattle.paving_pages.specs.Pages.{CutRows, sort_items, page_items, marked_items, laid_items, state, group_numbers, put_page}
use Rattle.tables.specs.Pages.{page_numbers}

-- ## A sort more
last-numbers : (Es : List (List Ends)) (F : List Ends) → end_numbers (Es ++ (F ∷ [])) ≡ end_numbers Es ++ numbers F
unfolding end_numbers flat_map
last-numbers Es F = flat_map-last numbers Es F

pub last-length : (Es : List (List Ends)) (F : List Ends) → length (end_numbers (Es ++ (F ∷ []))) ≡ length (end_numbers Es) + 2 * length F
last-length Es F = ap length (last-numbers Es F) ∙ length-append (end_numbers Es) (numbers F) ∙ ap (length (end_numbers Es) +◌) (length-numbers F)

-- its items behind the others', then its count behind theirs
last-laid : (pages : List ℕ) (counts next : ℕ) (Es : List (List Ends)) (F : List Ends) → counts + length Es < next
    → set (sets (laid_items pages counts next Es) (next + length (end_numbers Es)) (numbers F)) (counts + length Es) (length F) ≡ laid_items pages counts next (Es ++ (F ∷ []))
unfolding laid_items
last-laid pages counts next Es F h =
    let before : List ℕ = sets pages counts (map length Es) in
    ap (λ t. set t (counts + length Es) (length F)) (sym (sets-append before next (end_numbers Es) (numbers F)) ∙ ap (sets before next) (sym (last-numbers Es F)))
    ∙ sym (sets-set before (counts + length Es) (length F) next (end_numbers (Es ++ (F ∷ []))) h)
    ∙ ap (λ k. sets (set before (counts + k) (length F)) next (end_numbers (Es ++ (F ∷ [])))) (sym (length-map Es length))
    ∙ ap (λ t. sets t next (end_numbers (Es ++ (F ∷ [])))) (sym (sets-append pages counts (map length Es) (length F ∷ [])))
    ∙ ap (λ ns. sets (sets pages counts ns) next (end_numbers (Es ++ (F ∷ [])))) (sym (map-append length Es (F ∷ [])))

-- ## One dimension
pub row-cuts : {rows cuts sizes : List ℕ} {left i row n : ℕ} → i < left → CutRows rows cuts sizes left → row ≡ get_or rows i 0 → n ≡ get_or sizes i 0 → Cuts cuts row n
row-cuts {i = i} lt r er en = rw (en, er) (r.row i lt)

-- ## The sorts of a set
module _ (rows cuts sizes marks : List ℕ) where
  abbrev items : ℕ → ℕ → List (List Ends)
  items l base = marked_items rows cuts sizes marks l base

  pub items-length : (l base : ℕ) → length (items l base) ≡ l
  unfolding chosen page_items
  items-length zero base = refl
  items-length (suc i) base =
      let F = sort_items rows cuts sizes i (marks_from marks base (get_or sizes i 0) 0) in
      omega (arith, length-append (items i (base + get_or sizes i 0)) (F ∷ []), items-length i (base + get_or sizes i 0))

  module _ (left i base n row : ℕ) (el : left ≡ suc i) (en : n ≡ get_or sizes i 0) (er : row ≡ get_or rows i 0) where
    sorts-step : items left base ≡ items i (base + n) ++ (items_at marks base n cuts row ∷ [])
    unfolding chosen page_items sort_items
    sorts-step = rw (el, en, er)

    pub numbers-step : length (end_numbers (items left base)) ≡ length (end_numbers (items i (base + n))) + 2 * length (items_at marks base n cuts row)
    numbers-step = ap (λ Es. length (end_numbers Es)) sorts-step ∙ last-length (items i (base + n)) (items_at marks base n cuts row)

    sorts-more : (counts next then many : ℕ) (pages pages₁ pages₂ : List ℕ) → counts + left ≤ next
        → (then ≡ next + length (end_numbers (items i (base + n)))) × (pages₁ ≡ laid_items pages counts next (items i (base + n)))
        → (many ≡ length (items_at marks base n cuts row)) × (pages₂ ≡ sets pages₁ then (numbers (items_at marks base n cuts row)))
        → (then + 2 * many ≡ next + length (end_numbers (items left base))) × (set pages₂ (counts + i) many ≡ laid_items pages counts next (items left base))
    sorts-more counts next then many pages pages₁ pages₂ h below last =
        let F : List Ends = items_at marks base n cuts row in
        let Es : List (List Ends) = items i (base + n) in
        let long : length Es ≡ i = items-length i (base + n) in (
          omega (arith, below.0, last.0, numbers-step),
          ap₂ (λ t m. set t (counts + i) m) (last.1 ∙ ap₂ (λ t k. sets t k (numbers F)) below.1 below.0) last.0
              ∙ ap (λ k. set (sets (laid_items pages counts next Es) (next + length (end_numbers Es)) (numbers F)) (counts + k) (length F)) (sym long)
              ∙ last-laid pages counts next Es F (omega (arith, long)) ∙ ap (laid_items pages counts next) (sym sorts-step),
        )

  sorts-none : (base counts next : ℕ) (pages : List ℕ) → (next ≡ next + length (end_numbers (items 0 base))) × (pages ≡ laid_items pages counts next (items 0 base))
  unfolding chosen page_items end_numbers laid_items flat_map
  sorts-none base counts next pages = (omega arith, refl)

  -- the sorts of fewer dimensions have no more numbers
  numbers-part : (d k l low base : ℕ) → l ≡ k + d → low + width_of sizes k ≡ base + width_of sizes l → length (end_numbers (items k low)) ≤ length (end_numbers (items l base))
  numbers-part zero k l low base e h =
      let same : l ≡ k = omega arith in
      let here : low ≡ base = omega (arith, ap (width_of sizes) same) in
      omega (arith, ap₂ (λ m b. length (end_numbers (items m b))) same (sym here))
  numbers-part (suc d) k l low base e h =
      let i = k + d in
      let n = get_or sizes i 0 in
      let el : l ≡ suc i = omega arith in
      omega (
        arith,
        numbers-part d k i low (base + n) refl (omega (arith, width-next sizes i l el)),
        numbers-step l i base n (get_or rows i 0) el refl refl,
      )

  -- ## The loop over the sorts
  -- the sorts before one are laid
  pub record LaidTo (left counts next : ℕ) (pages₀ pages : List ℕ) (base then i : ℕ) : Type 0 where
    pub sorts : i ≤ left
    pub place : base + width_of sizes i ≡ width_of sizes left
    pub long : length pages ≡ length pages₀
    pub laid : (then ≡ next + length (end_numbers (items i base))) × (pages ≡ laid_items pages₀ counts next (items i base))

  pub laid-begin : (left counts next base : ℕ) (pages : List ℕ) → base ≡ width_of sizes left → LaidTo left counts next pages pages base next 0
  unfolding width_of
  laid-begin left counts next base pages e = record { sorts = omega arith; place = omega arith; long = refl; laid = sorts-none base counts next pages }

  module _ (left counts next : ℕ) (pages₀ pages : List ℕ) (base then i n row : ℕ) (to : LaidTo left counts next pages₀ pages base then i) (lt : i < left)
      (en : n ≡ get_or sizes i 0) (er : row ≡ get_or rows i 0) where
    next-width : width_of sizes (suc i) ≡ n + width_of sizes i
    next-width = omega (arith, width-next sizes i (suc i) refl, en)

    pub base_there : n ≤ base
    base_there = omega (arith, width-le sizes (suc i) left lt, next-width, to.place)

    next_place : base - n + width_of sizes (suc i) ≡ width_of sizes left
    next_place = omega (arith, next-width, to.place, base_there)

    back : base - n + n ≡ base
    back = omega (arith, base_there)

    -- the items of the next sort have room
    pub sort-room : next + length (end_numbers (items left 0)) ≤ length pages₀ → then + 2 * length (items_at marks (base - n) n cuts row) ≤ length pages
    sort-room h =
        omega (
          arith,
          numbers-part (left - suc i) (suc i) left (base - n) 0 (omega arith) (omega (arith, next_place)),
          numbers-step (suc i) i (base - n) n row refl en er,
          ap (λ b. length (end_numbers (items i b))) back,
          to.laid.0,
          to.long,
          h,
        )

    pub laid_more : (many : ℕ) (pages₂ : List ℕ) → counts + left ≤ next → length pages₂ ≡ length pages
        → (many ≡ length (items_at marks (base - n) n cuts row)) × (pages₂ ≡ sets pages then (numbers (items_at marks (base - n) n cuts row)))
        → LaidTo left counts next pages₀ (set pages₂ (counts + i) many) (base - n) (then + 2 * many) (i + 1)
    laid_more many pages₂ h l last =
        let one : i + 1 ≡ suc i = omega arith in
        let below = subst (λ b. (then ≡ next + length (end_numbers (items i b))) × (pages ≡ laid_items pages₀ counts next (items i b))) (sym back) to.laid in
        rw one
        (record {
          sorts = lt;
          place = next_place;
          long = length-set pages₂ (counts + i) many ∙ l ∙ to.long;
          laid = sorts-more (suc i) i (base - n) n row refl en er counts next then many pages₀ pages pages₂ (omega arith) below last;
        })

  pub laid_end : (left counts next : ℕ) (pages₀ pages : List ℕ) (base then i : ℕ) → LaidTo left counts next pages₀ pages base then i → left ≤ i
      → (then ≡ next + length (end_numbers (items left 0))) × (pages ≡ laid_items pages₀ counts next (items left 0))
  laid_end left counts next pages₀ pages base then i to h =
      let all : i ≡ left = omega (arith, to.sorts) in
      let none : base ≡ 0 = omega (arith, to.place, ap (width_of sizes) all) in
      subst (λ m. (then ≡ next + length (end_numbers (items m 0))) × (pages ≡ laid_items pages₀ counts next (items m 0))) all
      (subst (λ b. (then ≡ next + length (end_numbers (items i b))) × (pages ≡ laid_items pages₀ counts next (items i b))) none to.laid)

  -- ## A page
  module _ (value at left : ℕ) where
    page-numbers : length (group_numbers rows cuts sizes left (value, chosen marks sizes left 0)) ≡ 1 + left + length (end_numbers (items left 0))
    unfolding group_numbers page_numbers
    page-numbers =
        omega (arith, length-append (map length (items left 0)) (end_numbers (items left 0)), length-map (items left 0) length, items-length left 0)

    pub page-room : (size : ℕ) → at + length (group_numbers rows cuts sizes left (value, chosen marks sizes left 0)) ≤ size
        → at + 1 + left + length (end_numbers (items left 0)) ≤ size
    page-room size h = omega (arith, page-numbers)

    page-laid : (pages : List ℕ) → laid_items (set pages at value) (at + 1) (at + 1 + left) (items left 0) ≡ sets pages at (group_numbers rows cuts sizes left (value, chosen marks sizes left 0))
    unfolding laid_items group_numbers page_numbers
    page-laid pages =
        let ns : List ℕ = map length (items left 0) in
        let long : left ≡ length ns = sym (length-map (items left 0) length ∙ items-length left 0) in
        ap (λ k. sets (sets (set pages at value) (at + 1) ns) (at + 1 + k) (end_numbers (items left 0))) long
        ∙ sym (sets-append (set pages at value) (at + 1) ns (end_numbers (items left 0))) ∙ sets-next pages at value (ns ++ end_numbers (items left 0))

    pub put-page : (r : ℕ) (pages after : List ℕ)
        → (r ≡ at + 1 + left + length (end_numbers (items left 0))) × (after ≡ laid_items (set pages at value) (at + 1) (at + 1 + left) (items left 0))
        → state after r ≡ put_page rows cuts sizes left (state pages at) (value, chosen marks sizes left 0)
    unfolding put_page
    put-page r pages after p = ap₂ state (p.1 ∙ page-laid pages) (omega (arith, p.0, page-numbers))
