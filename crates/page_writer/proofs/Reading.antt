-- Pages read from the buffer: a page cut out of it, and pages one after the other, with the rules that they stand for.
use mathlib.Core.Path.{◌≡◌, sym, ap, ap₂, ◌∙◌, subst}
use mathlib.Core.List.{List, [], ◌++◌, flat_map}
use mathlib.Core.Bool.{false, ◌||◌}
use Prim.Native.Nat.{ℕ, zero, suc, ◌+◌, ◌-◌, ◌≤◌, ◌<◌}
use native.Mathlib.Omega.{arith}
use lib.ListN.{length, get_or, take, drop, length-append, length-drop}
use lib.Seq.{length-take-le, take-add, take-take, drop_at, drop-drop, get_or-take, get_or-drop}
use Rattle.laws.specs.Lists.{All, any_of}
use Rattle.laws.proofs.Lists.{any_of-append}
use Rattle.laws.proofs.Spread.{flat_map-append}
use Rattle.definition.specs.Rule.{Rule}
use Rattle.definition.specs.Sheet.{Form, sheet_limits, rule}
use Rattle.definition.specs.Fold.{many_items}
use Rattle.day_flat.specs.Day.{unflat}
use Rattle.day_writer.specs.Rules.{rules_bits}
use Rattle.tables.specs.Days.{Carried, box_words, Ready}
use Rattle.tables.specs.Items.{row_place, Rows, rows_below}
use Rattle.tables.specs.Pages.{Page, page_counts, page_ends, page_size, page_at, pages_at, page_rules, pages_rules, PageReady, Pages}
use Rattle.tables.proofs.Pages.{size_low}

-- ## A page cut out, as the code does it
abbrev pub cut_out : List ℕ → ℕ → ℕ → List ℕ
cut_out pages at size = take (at + size - at) (drop at pages)

module _ (pages : List ℕ) (at size : ℕ) (sized : size ≡ page_size pages at) (inside : at + size ≤ length pages) where
  abbrev page : List ℕ
  page = cut_out pages at size

  behind : (n m : ℕ) → n + m ≤ size → take m (drop n page) ≡ take m (drop (at + n) pages)
  behind n m h =
      let whole : at + size - at ≡ n + (size - n) = omega arith in
      let xs = drop at pages in
      let long : length (take n xs) ≡ n = length-take-le n xs (omega (arith, length-drop at pages)) in
      let rest : m ≤ size - n = omega arith in
      ap (λ k. take m (drop n (take k xs))) whole ∙ ap (λ l. take m (drop n l)) (take-add n (size - n) xs)
      ∙ ap (take m) (drop_at (take n xs) (take (size - n) (drop n xs)) n long) ∙ take-take m (size - n) (drop n xs) rest ∙ ap (take m) (drop-drop n at pages)

  cut-counts : page_counts page 0 ≡ page_counts pages at
  cut-counts = behind 1 4 (omega (arith, size_low pages at))

  cut-ends : page_ends page 0 ≡ page_ends pages at
  unfolding page_size
  cut-ends = ap (λ s. take (row_place s 4) (drop 5 page)) cut-counts ∙ behind 5 (row_place (page_counts pages at) 4) (omega (arith, sized))

  cut-number : get_or page 0 0 ≡ get_or pages at 0
  cut-number =
      let some : 0 < at + size - at = omega (arith, size_low pages at) in
      let same : at + 0 ≡ at = omega arith in
      get_or-take (at + size - at) (drop at pages) 0 0 some ∙ get_or-drop at pages 0 0 ∙ ap (λ j. get_or pages j 0) same

  cut-length : length page ≡ size
  cut-length = let n : at + size - at ≡ size = omega arith in length-take-le (at + size - at) (drop at pages) (omega (arith, length-drop at pages)) ∙ n

  -- it is the page, and all of it
  pub cut-page : page_at page 0 ≡ page_at pages at
  unfolding page_at
  cut-page = λ i. (cut-number i, ap₂ (λ e s. rows_below e s 4) cut-ends cut-counts i)

  pub cut-whole : length page ≡ page_size page 0
  unfolding page_size
  cut-whole = cut-length ∙ sized ∙ ap (λ s. 5 + row_place s 4) (sym cut-counts)

  pub cut-ready : {form : Form} {states counts spans lists : List ℕ} {room : ℕ} → PageReady form states counts spans lists pages room at → {room' : ℕ} → room ≡ room'
      → PageReady form states counts spans lists page room' 0
  cut-ready {form} {states} {counts} {spans} {lists} {room} ready e =
      subst (λ r. PageReady form states counts spans lists page r 0) e
      record {
        inside = omega (arith, cut-whole);
        rows = subst (λ l. Rows l (page_counts page 0)) (sym cut-ends) (subst (Rows (page_ends pages at)) (sym cut-counts) ready.rows);
        numbered = omega (arith, cut-number, ready.numbered);
        ready = subst (λ k. Ready states counts spans lists room (k - 1)) (sym cut-number) ready.ready;
        carried = subst (λ k. All (Carried form) (unflat (box_words states counts spans lists (k - 1)))) (sym cut-number) ready.carried;
      }

-- ## Pages
module _ (form : Form) (W : ℕ → List ℕ) (pages : List ℕ) (at n : ℕ) where
  abbrev all : List Rule
  all = pages_rules W (pages_at n pages at)

  none : n ≡ 0 → all ≡ []
  unfolding pages_at flat_map
  none e = ap (λ k. pages_rules W (pages_at k pages at)) e

  pub none-bits : n ≡ 0 → rules_bits form all ≡ []
  unfolding flat_map
  none-bits e = ap (rules_bits form) (none e)

  pub none-counted : n ≡ 0 → any_of (many_items form) all ≡ false
  unfolding any_of
  none-counted e = ap (any_of (many_items form)) (none e)

  pub none-size : n ≡ 0 → (length all ≡ 0) × (length (rules_bits form all) ≡ 0)
  none-size e = (ap length (none e), ap length (none-bits e))

  module _ (some : 0 < n) (size : ℕ) (sized : size ≡ page_size pages at) (page : Page) (read : page ≡ page_at pages at) where
    abbrev first : List Rule
    first = page_rules W page

    abbrev later : List Rule
    later = pages_rules W (pages_at (n - 1) pages (at + size))

    more : all ≡ first ++ later
    unfolding pages_at flat_map
    more =
        let e : n ≡ suc (n - 1) = omega arith in
        ap (λ k. pages_rules W (pages_at k pages at)) e ∙ ap₂ (λ g s. page_rules W g ++ pages_rules W (pages_at (n - 1) pages (at + s))) (sym read) (sym sized)

    pub more-bits : rules_bits form all ≡ rules_bits form first ++ rules_bits form later
    more-bits = ap (rules_bits form) more ∙ flat_map-append (rule form sheet_limits).write first later

    pub more-counted : any_of (many_items form) all ≡ any_of (many_items form) first || any_of (many_items form) later
    more-counted = ap (any_of (many_items form)) more ∙ any_of-append (many_items form) first later

    pub more-size : (r s a b : ℕ) → length first ≡ r → length later ≡ s → length (rules_bits form first) ≡ a → length (rules_bits form later) ≡ b
        → (length all ≡ r + s) × (length (rules_bits form all) ≡ a + b)
    more-size r s a b p q u v = (
      ap length more ∙ omega (arith, length-append first later, p, q),
      ap length more-bits ∙ omega (arith, length-append (rules_bits form first) (rules_bits form later), u, v),
    )

-- ## Pages that are ready
module _ (form : Form) (states counts spans lists pages : List ℕ) (room : ℕ) where
  pub pages-first : (n at : ℕ) → 0 < n → Pages form states counts spans lists pages room n at → PageReady form states counts spans lists pages room at
  unfolding Pages
  pages-first zero at some p = absurd (omega arith)
  pages-first (suc n) at some p = p.0

  pub pages-later : (n at size : ℕ) → 0 < n → size ≡ page_size pages at → Pages form states counts spans lists pages room n at
      → Pages form states counts spans lists pages room (n - 1) (at + size)
  unfolding Pages
  pages-later zero at size some e p = absurd (omega arith)
  pages-later (suc n) at size some e p =
      let k : n ≡ suc n - 1 = omega arith in
      subst (λ s. Pages form states counts spans lists pages room (suc n - 1) (at + s)) (sym e)
      (subst (λ m. Pages form states counts spans lists pages room m (at + page_size pages at)) k p.1)
