-- One lemma for each return of the readers of a row: the items one by one, and the whole dimension where there is none.
use mathlib.Core.Path.{◌≡◌, refl, sym, ap, ap₂, ◌∙◌}
use mathlib.Core.List.{List, [], ◌∷◌, ◌++◌}
use mathlib.Core.Option.{Option, none, some}
use Prim.Native.Nat.{ℕ, zero, suc, ◌+◌}
use native.Mathlib.Omega.{arith}
use lib.ListN.{length, length-append}
use lib.Seq.{sets}
use borrow.Author.Tests.{eq-eqb, ne_eqb}
use Rattle.laws.proofs.Stores.{sets-append}
use Rattle.grid.specs.Cut.{Range}
use Rattle.canonical_date.specs.Says.{bounds_of, item_says}
use Rattle.canonical_date.specs.Row.{flat, items_ranges, items_end, row_ranges, Answer, answered}
use Rattle.canonical_date.proofs.Flat.{flat_append}

-- what a row's reader owes: its answer and the table
abbrev pub Owed : Answer → List ℕ → ℕ → List ℕ → List Range → Option ℕ → Type 0
Owed r after place before R end = (r ≡ answered (place + length (flat R)) end) × (after ≡ sets before place (flat R))

module _ (sort : ℕ) (s : List ℕ) (p : ℕ) where
  pub items-none : (n place : ℕ) (l : List ℕ) → n ≡ 0 → Owed (some (place, p)) l place l (items_ranges sort n s p) (items_end sort n s p)
  unfolding items_ranges items_end flat
  items-none n place l e = rw e (let z : place ≡ place + 0 = omega arith in ap (λ j. some (j, p)) z, refl)

  pub items-stop : (n place : ℕ) (l : List ℕ) → (n ≡ 0 → ⊥) → item_says sort s p ≡ none → Owed none l place l (items_ranges sort n s p) (items_end sort n s p)
  unfolding items_ranges items_end flat
  items-stop zero place l f e = absurd (f refl)
  items-stop (suc n) place l f e = rw (e, items_ranges, items_end) (refl, refl)

  pub items-go : (n m : ℕ) (R : List Range) (q place middle : ℕ) (l t u : List ℕ) (r : Answer) → n ≡ suc m → item_says sort s p ≡ some (R, q)
      → middle ≡ place + length (flat R) → t ≡ sets l place (flat R) → Owed r u middle t (items_ranges sort m s q) (items_end sort m s q)
      → Owed r u place l (items_ranges sort n s p) (items_end sort n s p)
  unfolding items_ranges items_end
  items-go n m R q place middle l t u r e h k g o =
      let rest = items_ranges sort m s q in
      let both : flat (R ++ rest) ≡ flat R ++ flat rest = flat_append R rest in
      let z : middle + length (flat rest) ≡ place + length (flat (R ++ rest)) = omega (arith, ap length both, length-append (flat R) (flat rest)) in
      rw (e, h, items_ranges, items_end) (
        o.0 ∙ ap (λ j. answered j (items_end sort m s q)) z,
        o.1 ∙ ap₂ (λ x j. sets x j (flat rest)) g k ∙ sym (sets-append l place (flat R) (flat rest)) ∙ ap (sets l place) (sym both),
      )

  pub row-none : (n place : ℕ) (l m : List ℕ) (b : Range) → n ≡ 0 → m ≡ sets l place (flat (b ∷ [])) → b ≡ bounds_of sort
      → Owed (some (place + 2, p)) m place l (row_ranges sort n s p) (items_end sort n s p)
  unfolding row_ranges items_end flat
  row-none n place l m b e h k = rw (eq-eqb n 0 e) (rw (e, items_end) refl, h ∙ ap (λ r. sets l place (flat (r ∷ []))) k)

  pub row-some : (n : ℕ) (place : ℕ) (l m : List ℕ) (r : Answer) → (n ≡ 0 → ⊥) → Owed r m place l (items_ranges sort n s p) (items_end sort n s p)
      → Owed r m place l (row_ranges sort n s p) (items_end sort n s p)
  unfolding row_ranges
  row-some n place l m r f o = rw (ne_eqb n 0 f) o
