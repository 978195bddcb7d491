-- A page's day, folded into words: they are a whole number of entries, few, and over the page's items their rules are the page's. Rests on the
-- laws that the day of a list over tables is read back from its words and has few of them.
use mathlib.Core.Path.{◌≡◌, sym, ap, ap₂, ◌∙◌, subst}
use mathlib.Core.List.{List}
use Prim.Native.Nat.{ℕ, suc, ◌+◌, ◌-◌, ◌*◌, ◌≤◌}
use native.Mathlib.Omega.{arith}
use lib.ListN.{length, get_or, take, drop}
use Rattle.laws.specs.Lists.{All}
use Rattle.definition.specs.Day.{Day, day}
use lib.Seq.{take-length}
use Rattle.words.specs.Words.{part}
use Rattle.words.proofs.Sets.{part-taken, length_part}
use Rattle.day_flat.specs.Day.{flat, unflat, list_rules}
use Rattle.day_flat.proofs.Flat.{unflat-flat}
use Rattle.day_flat.proofs.Own.{day-own}
use Rattle.day_flat.proofs.Room.{day-room}
use Rattle.tables.specs.Items.{row_place, Rows, rows_below}
use Rattle.definition.specs.Sheet.{Form}
use Rattle.day_writer.specs.Rules.{day_in, Whole}
use Rattle.tables.specs.Pages.{day_rules, page_counts, page_ends, page_size, page_at, page_rules, PageReady}
use Rattle.tables.specs.Days.{Carried, words_of, box_words, number_words, Ready}
use Rattle.tables.specs.Sizes.{list_places, list_limit}
use Rattle.tables.specs.Lists.{list_of}
use Rattle.tables.proofs.Lists.{list_length}

module _ {form : Form} {states counts spans lists page : List ℕ} {room : ℕ} (ready : PageReady form states counts spans lists page room 0) where
  -- ## Its items
  abbrev ends : List ℕ
  ends = take (length page - 5) (drop 5 page)

  pub ends-whole : length page ≡ page_size page 0 → ends ≡ page_ends page 0
  unfolding page_size
  ends-whole e = let n : length page - 5 ≡ row_place (page_counts page 0) 4 = omega (arith, e) in ap (λ n. take n (drop 5 page)) n

  pub rows_whole : length page ≡ page_size page 0 → Rows ends (page_counts page 0)
  rows_whole e = subst (λ l. Rows l (page_counts page 0)) (sym (ends-whole e)) ready.rows

  -- ## Its day
  module _ (box : ℕ) (named : box ≡ get_or page 0 0 - 1) where
    box-ready : Ready states counts spans lists room box
    box-ready = subst (Ready states counts spans lists room) (sym named) ready.ready

    module _ (words : List ℕ) (count : ℕ) (sized : count ≤ length words) (held : part words 0 count ≡ box_words states counts spans lists box)
        (long : count ≡ length (box_words states counts spans lists box)) where
      abbrev list : List ℕ
      list = list_of lists box

      abbrev box_day : Day
      box_day = day (list_rules states counts spans list 0 (length list))

      as-flat : part words 0 count ≡ flat box_day
      unfolding box_words
      as-flat = held

      whole : Whole form words 0 count
      whole = record {
        inside = omega (arith, sized);
        flatly = as-flat ∙ sym (ap flat (ap unflat as-flat ∙ unflat-flat box_day (day-own states counts spans list 0 (length list))));
        carried = subst (All (Carried form)) (sym (ap unflat held ∙ ap (λ k. unflat (box_words states counts spans lists k)) named)) ready.carried;
      }

      short : count ≤ 2049
      unfolding box_words
      short =
          let k : get_or lists (box * list_places) 0 ≤ list_limit = box-ready.short in
          let r = day-room states counts spans list box-ready.tabled.few 0 (length list) in
          omega (arith, long, k, r, list_length lists box)

      words-of : part words 0 count ≡ words_of (box_words states counts spans lists) (get_or page 0 0)
      unfolding words_of
      words-of = let e : get_or page 0 0 ≡ suc box = omega (arith, ready.numbered, named) in held ∙ sym (ap (words_of (box_words states counts spans lists)) e)

      -- THE DAY'S RULES OVER THE PAGE'S ITEMS ARE THE PAGE'S
      page-rules : (items : List ℕ) → items ≡ page_ends page 0
          → day_rules (rows_below items (page_counts page 0) 4) (day_in words 0 count) ≡ page_rules (box_words states counts spans lists) (page_at page 0)
      unfolding page_rules page_at
      page-rules items e = ap₂ day_rules (ap (λ x. rows_below x (page_counts page 0) 4) e) (ap unflat words-of)

  -- ## Its day, where it stands in the book
  module _ (number : ℕ) (named : number ≡ get_or page 0 0) where
    pub number-ready : (1 ≤ number) × Ready states counts spans lists room (number - 1)
    number-ready = (omega (arith, ready.numbered, named), box-ready (number - 1) (ap (◌- 1) named))

    module _ (book : List ℕ) (from count : ℕ) (inside : from + count ≤ length book)
        (held : part book from count ≡ number_words states counts spans lists number) where
      abbrev words : List ℕ
      words = take (from + count - from) (drop from book)

      cut : words ≡ part book from count
      cut = let n : from + count - from ≡ count = omega arith in ap (λ k. take k (drop from book)) n ∙ part-taken book from count inside

      cut-length : length words ≡ count
      cut-length = ap length cut ∙ length_part book from count

      cut-held : part words 0 count ≡ box_words states counts spans lists (number - 1)
      unfolding words_of
      cut-held =
          let e : number ≡ suc (number - 1) = omega (arith, number-ready.0) in
          sym (part-taken words 0 count (omega (arith, cut-length))) ∙ ap (λ n. take n words) (sym cut-length) ∙ take-length words ∙ cut ∙ held
          ∙ ap (words_of (box_words states counts spans lists)) e

      cut-long : count ≡ length (box_words states counts spans lists (number - 1))
      cut-long = sym (length_part words 0 count) ∙ ap length cut-held

      pub book-whole : Whole form words 0 (length words)
      book-whole = subst (Whole form words 0) (sym cut-length) (whole (number - 1) (ap (◌- 1) named) words count (omega (arith, cut-length)) cut-held cut-long)

      pub book-short : length words ≤ 2049
      book-short = omega (arith, cut-length, short (number - 1) (ap (◌- 1) named) words count (omega (arith, cut-length)) cut-held cut-long)

      pub book-rules : (items : List ℕ) → items ≡ page_ends page 0
          → day_rules (rows_below items (page_counts page 0) 4) (day_in words 0 (length words)) ≡ page_rules (box_words states counts spans lists) (page_at page 0)
      book-rules items e =
          ap (λ n. day_rules (rows_below items (page_counts page 0) 4) (day_in words 0 n)) cut-length
          ∙ page-rules (number - 1) (ap (◌- 1) named) words count (omega (arith, cut-length)) cut-held cut-long items e
