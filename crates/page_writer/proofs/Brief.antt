-- Pages whose lists are short, page after page. Rests on the laws of pages that are ready.
use mathlib.Core.Path.{◌≡◌, sym, subst}
use mathlib.Core.List.{List}
use Prim.Native.Nat.{ℕ, zero, suc, ◌+◌, ◌-◌, ◌*◌, ◌≤◌, ◌<◌}
use native.Mathlib.Omega.{arith}
use lib.ListN.{get_or}
use Rattle.definition.specs.Sheet.{Form}
use Rattle.box_day.proofs.Kept.{short-ready}
use Rattle.tables.specs.Pages.{page_size, PageReady, Pages}
use Rattle.tables.specs.Sizes.{list_places, day_room}
use Rattle.page_writer.proofs.Reading.{pages-first, pages-later}

-- a page before pages
pages-join : (form : Form) (states counts spans lists pages : List ℕ) (room n at : ℕ) → 0 < n → PageReady form states counts spans lists pages room at
    → Pages form states counts spans lists pages room (n - 1) (at + page_size pages at) → Pages form states counts spans lists pages room n at
unfolding Pages
pages-join form states counts spans lists pages room zero at some first later = absurd (omega arith)
pages-join form states counts spans lists pages room (suc n) at some first later =
    let k : suc n - 1 ≡ n = omega arith in (first, subst (λ m. Pages form states counts spans lists pages room m (at + page_size pages at)) k later)

-- where so many pages are left: if their days have few words, so have those of all pages
pub record Passed (lists pages : List ℕ) (count left here : ℕ) : Type 0 where
  pub ready : (form : Form) (states counts spans : List ℕ) → Pages form states counts spans lists pages day_room count 0
      → Pages form states counts spans lists pages day_room left here
  pub brief : (form : Form) (states counts spans : List ℕ) → Pages form states counts spans lists pages day_room count 0
      → Pages form states counts spans lists pages 257 left here → Pages form states counts spans lists pages 257 count 0

pub none_passed : (lists pages : List ℕ) (count : ℕ) → Passed lists pages count count 0
none_passed lists pages count = record { ready = λ form states counts spans p. p; brief = λ form states counts spans p q. q }

-- so many left, said otherwise
pub passed-as : {lists pages : List ℕ} {count left left' here : ℕ} → left ≡ left' → Passed lists pages count left here → Passed lists pages count left' here
passed-as {lists} {pages} {count} {left} {left'} {here} e p = subst (λ n. Passed lists pages count n here) e p

module _ {lists pages : List ℕ} {count left here : ℕ} (passed : Passed lists pages count left here) where
  pub next-ready : 0 < left → {form : Form} {states counts spans : List ℕ} → Pages form states counts spans lists pages day_room count 0
      → PageReady form states counts spans lists pages day_room here
  next-ready some {form} {states} {counts} {spans} p = pages-first form states counts spans lists pages day_room left here some (passed.ready form states counts spans p)

  -- one page more
  pub one-passed : 0 < left → get_or lists ((get_or pages here 0 - 1) * list_places) 0 ≤ 4 → (size : ℕ) → size ≡ page_size pages here
      → Passed lists pages count (left - 1) (here + size)
  one-passed some short size sized = record {
    ready = λ form states counts spans p. pages-later form states counts spans lists pages day_room left here size some sized (passed.ready form states counts spans p);
    brief = λ form states counts spans p later. passed.brief form states counts spans p
        (let first = next-ready some p in
        pages-join form states counts spans lists pages 257 left here some (record {
          inside = first.inside;
          rows = first.rows;
          numbered = first.numbered;
          ready = short-ready states counts spans lists (get_or pages here 0 - 1) first.ready short;
          carried = first.carried;
        }) (subst (λ s. Pages form states counts spans lists pages 257 (left - 1) (here + s)) sized later));
  }

  pub all-passed : left ≡ 0 → (form : Form) (states counts spans : List ℕ) → Pages form states counts spans lists pages day_room count 0
      → Pages form states counts spans lists pages 257 count 0
  unfolding Pages
  all-passed none form states counts spans p =
      passed.brief form states counts spans p (subst (λ n. Pages form states counts spans lists pages 257 n here) (sym none) tt)
