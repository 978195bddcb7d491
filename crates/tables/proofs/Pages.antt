-- A page's size; and A PAGE IS READ BACK where its numbers stand, and behind it stands what follows them.
use mathlib.Core.Path.{◌≡◌, refl, sym, ap, ap₂, ◌∙◌}
use mathlib.Core.List.{List, [], ◌∷◌, ◌++◌, flat_map, append_assoc}
use Prim.Native.Nat.{ℕ, suc, ◌+◌, ◌*◌, ◌≤◌, ◌<◌}
use native.Mathlib.Omega.{arith}
use lib.ListN.{length, take, drop, get_or, length-append}
use lib.Seq.{take-append_seam, drop-append_seam, get_or-take, get_or-drop, drop-drop}
use Rattle.definition.specs.Range.{Ends}
use Rattle.tables.specs.Items.{end_numbers, pairs, ends_at, row_place, row, rows_below, numbers}
use Rattle.tables.specs.Pages.{page_numbers, page_counts, page_ends, page_size, page_at}

-- ## Its size
module _ (pages : List ℕ) (at : ℕ) where
  count_at : (k place : ℕ) → k < 4 → at + 1 + k ≡ place → get_or (page_counts pages at) k 0 ≡ get_or pages place 0
  count_at k place l e = get_or-take 4 (drop (at + 1) pages) k 0 l ∙ get_or-drop (at + 1) pages k 0 ∙ ap (λ j. get_or pages j 0) e

  pub size_is : (years months weeks weekdays : ℕ) → years ≡ get_or pages (at + 1) 0 → months ≡ get_or pages (at + 2) 0 → weeks ≡ get_or pages (at + 3) 0 → weekdays ≡ get_or pages (at + 4) 0
      → 5 + 2 * (years + months + weeks + weekdays) ≡ page_size pages at
  unfolding page_size row_place
  size_is years months weeks weekdays p q r s =
      let a = count_at 0 (at + 1) (omega arith) (omega arith) in
      let b = count_at 1 (at + 2) (omega arith) (omega arith) in
      let c = count_at 2 (at + 3) (omega arith) (omega arith) in
      let d = count_at 3 (at + 4) (omega arith) (omega arith) in
      omega (arith, a, b, c, d, p, q, r, s)

  pub size_low : 5 ≤ page_size pages at
  unfolding page_size
  size_low = omega arith

-- ## A row
pairs-back : (es : List Ends) → pairs (numbers es) ≡ es
unfolding pairs numbers
pairs-back [] = refl
pairs-back (e ∷ es) = ap (e ∷◌) (pairs-back es)

pub length-numbers : (es : List Ends) → length (numbers es) ≡ 2 * length es
unfolding numbers
length-numbers [] = refl
length-numbers (e ∷ es) = omega (arith, length-numbers es)

row_back : (before after : List ℕ) (es : List Ends) (place : ℕ) → length before ≡ place → ends_at (before ++ (numbers es ++ after)) place (length es) ≡ es
unfolding ends_at
row_back before after es place e =
    ap (λ p. pairs (take (2 * length es) (drop p (before ++ (numbers es ++ after))))) (sym e) ∙ ap (λ l. pairs (take (2 * length es) l)) (drop-append_seam before (numbers es ++ after))
    ∙ ap (λ n. pairs (take n (numbers es ++ after))) (sym (length-numbers es)) ∙ ap pairs (take-append_seam (numbers es) after) ∙ pairs-back es

-- ## A page
module _ (Y M K D : List Ends) where
  abbrev pub ends : List ℕ
  ends = numbers Y ++ (numbers M ++ (numbers K ++ (numbers D ++ [])))

  abbrev pub sorts : List ℕ
  sorts = length Y ∷ length M ∷ length K ∷ length D ∷ []

  pub ends-length : length ends ≡ row_place sorts 4
  unfolding row_place
  ends-length =
      omega (
        arith,
        length-append (numbers Y) (numbers M ++ (numbers K ++ (numbers D ++ []))),
        length-append (numbers M) (numbers K ++ (numbers D ++ [])),
        length-append (numbers K) (numbers D ++ []),
        length-append (numbers D) [],
        length-numbers Y,
        length-numbers M,
        length-numbers K,
        length-numbers D,
      )

  pub rows_back : rows_below ends sorts 4 ≡ D ∷ K ∷ M ∷ Y ∷ []
  unfolding rows_below row row_place
  rows_back =
      ap₂ ◌∷◌ weekdays (ap₂ ◌∷◌ weeks
      (ap₂ ◌∷◌ (row_back (numbers Y) (numbers K ++ (numbers D ++ [])) M (0 + 2 * length Y) (omega (arith, length-numbers Y)))
      (ap (◌∷ []) (row_back [] (numbers M ++ (numbers K ++ (numbers D ++ []))) Y 0 refl))))
    where
      weeks : ends_at ends (0 + 2 * length Y + 2 * length M) (length K) ≡ K
      weeks =
          ap (λ l. ends_at l (0 + 2 * length Y + 2 * length M) (length K)) (sym (append_assoc (numbers Y) (numbers M) (numbers K ++ (numbers D ++ []))))
          ∙ row_back (numbers Y ++ numbers M) (numbers D ++ []) K (0 + 2 * length Y + 2 * length M) (omega (arith, length-append (numbers Y) (numbers M), length-numbers Y, length-numbers M))

      weekdays : ends_at ends (0 + 2 * length Y + 2 * length M + 2 * length K) (length D) ≡ D
      weekdays =
          ap (λ l. ends_at l (0 + 2 * length Y + 2 * length M + 2 * length K) (length D))
          (sym (append_assoc (numbers Y) (numbers M ++ numbers K) (numbers D ++ []) ∙ ap (numbers Y ++◌) (append_assoc (numbers M) (numbers K) (numbers D ++ []))))
          ∙ row_back (numbers Y ++ (numbers M ++ numbers K)) [] D (0 + 2 * length Y + 2 * length M + 2 * length K)
          (omega (arith, length-append (numbers Y) (numbers M ++ numbers K), length-append (numbers M) (numbers K), length-numbers Y, length-numbers M, length-numbers K))

  module _ (text : List ℕ) (at number : ℕ) (rest : List ℕ) (held : drop at text ≡ page_numbers number (Y ∷ M ∷ K ∷ D ∷ []) ++ rest) where
    behind : (n : ℕ) → drop (at + n) text ≡ drop n (page_numbers number (Y ∷ M ∷ K ∷ D ∷ []) ++ rest)
    behind n = sym (drop-drop n at text) ∙ ap (drop n) held

    pub counts-back : page_counts text at ≡ sorts
    unfolding page_numbers end_numbers flat_map
    counts-back = ap (take 4) (behind 1)

    pub place-back : row_place (page_counts text at) 4 ≡ length ends
    place-back = ap (λ l. row_place l 4) counts-back ∙ sym ends-length

    pub ends-back : page_ends text at ≡ ends
    unfolding page_numbers end_numbers flat_map
    ends-back = ap₂ take place-back (behind 5) ∙ take-append_seam ends rest

    -- THE PAGE, AND WHAT FOLLOWS IT
    pub page-back : page_at text at ≡ (number, D ∷ K ∷ M ∷ Y ∷ [])
    unfolding page_at page_numbers end_numbers
    page-back =
        let zero_more : at + 0 ≡ at = omega arith in
        let first : get_or text at 0 ≡ number = sym (get_or-drop at text 0 0 ∙ ap (λ j. get_or text j 0) zero_more) ∙ ap (λ l. get_or l 0 0) held in
        λ i. (first i, (ap₂ (λ e s. rows_below e s 4) ends-back counts-back ∙ rows_back) i)

    pub page-behind : drop (at + page_size text at) text ≡ rest
    unfolding page_size page_numbers end_numbers flat_map
    page-behind =
        let five : 5 + length ends ≡ suc (suc (suc (suc (suc (length ends))))) = omega arith in
        behind (5 + row_place (page_counts text at) 4) ∙ ap (λ n. drop n (page_numbers number (Y ∷ M ∷ K ∷ D ∷ []) ++ rest)) (ap (5 +◌) place-back ∙ five)
        ∙ drop-append_seam (number ∷ (sorts ++ ends)) rest
