-- A RULE'S LISTS SETTLED: the store as it is, where few lists are in use, or without those that no box holds. Rests on counting different lists.
use mathlib.Core.Path.{◌≡◌, refl, sym, ap, ◌∙◌}
use mathlib.Core.Bool.{true, true≢false}
use mathlib.Core.List.{List, map}
use Prim.Native.Nat.{ℕ, zero, suc, ◌≤◌, ◌<◌}
use native.Mathlib.Omega.{arith}
use lib.Dec.{eqb, ltb}
use lib.ListN.{length, get_or}
use borrow.Author.Tests.{le-ltb}
use Rattle.laws.specs.Lists.{from, filled}
use Rattle.laws.specs.Tests.{Exact, same_list}
use Rattle.laws.proofs.Distinct.{distinct-most}
use Rattle.laws.proofs.Tests.{exact-eqb, exact-list}
use Rattle.definition.specs.Lists.{distinct_lists}
use Rattle.tables.specs.Sizes.{list_limit, held_limit}
use Rattle.tables.specs.Lists.{list_of, named, shown, Store}
use Rattle.tables.proofs.Lists.{list_length}
use Rattle.list_reclaim.specs.Reclaim.{Reclaimed}
use Rattle.draw_rules.specs.Listing.{Enough, Settled}

exact-lists : Exact (same_list eqb)
exact-lists = exact-list exact-eqb

-- ## What a store shows
module _ (cells lists : List ℕ) (used : ℕ) (store : Store cells lists used) where
  -- each list that is not empty has a place
  placed : (box : ℕ) → filled (shown cells lists box) ≡ true → (p : ℕ) × (p < used) × (shown cells lists box ≡ list_of lists p)
  unfolding shown named
  placed box = go (get_or cells box 0) (store.names box)
    where
      go : (c : ℕ) → c ≤ used → filled (named lists c) ≡ true → (p : ℕ) × (p < used) × (named lists c ≡ list_of lists p)
      go zero h e = absurd (true≢false (sym e))
      go (suc p) h e = (p, h, refl)

  -- no more different ones than are in use
  shown-few : (n : ℕ) → length (distinct_lists (map (shown cells lists) (from 0 n))) ≤ used
  shown-few n = distinct-most exact-lists filled (shown cells lists) (list_of lists) n used (λ box _ e. placed box e)

  -- none too long
  pub shown-short : (box : ℕ) → length (shown cells lists box) ≤ list_limit
  unfolding shown named
  shown-short box = go (get_or cells box 0) (store.names box)
    where
      go : (c : ℕ) → c ≤ used → length (named lists c) ≤ list_limit
      go zero h = omega arith
      go (suc p) h = omega (arith, list_length lists p, store.short p h)

-- no more lists are kept than there are boxes
pub kept-few : (cells lists cells' lists' memo' : List ℕ) (used kept : ℕ) → Reclaimed cells lists cells' lists' memo' used kept → kept ≤ length cells
kept-few cells lists cells' lists' memo' used kept r =
    omega (arith, r.counted, distinct-most exact-lists filled (shown cells lists) (shown cells lists) (length cells) (length cells) (λ box l e. (box, l, refl)))

-- ## Settled
module _ (cells lists : List ℕ) (most used : ℕ) (store : Store cells lists used) (few : most ≤ held_limit) where
  -- few lists are in use
  pub settled-few : used ≤ most → (memo : List ℕ) → ((k : ℕ) → get_or memo k 0 ≤ used) → Settled cells lists cells lists memo most used used
  settled-few h memo memoed = record {
    store = store;
    shows = λ box l. refl;
    there = λ p l. (p, l, refl);
    told = le-ltb held_limit used (omega arith) ∙ sym (le-ltb held_limit count (omega (arith, shown-few cells lists used store (length cells))));
    few = λ _. h;
    memoed = memoed;
  }
    where
      count : ℕ
      count = length (distinct_lists (map (shown cells lists) (from 0 (length cells))))

  -- those that no box holds are gone
  pub settled-reclaimed : Enough (length cells) most → (cells' lists' memo' : List ℕ) (kept : ℕ) → Reclaimed cells lists cells' lists' memo' used kept
      → Settled cells lists cells' lists' memo' most used kept
  settled-reclaimed enough cells' lists' memo' kept r = record {
    store = r.store;
    shows = r.shows;
    there = r.there;
    told = ap (ltb held_limit) r.counted;
    few = λ h. enough kept (kept-few cells lists cells' lists' memo' used kept r) h;
    memoed = λ k. omega (arith, r.memoed k);
  }
