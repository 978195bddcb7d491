-- What the cells hold after a state was emptied.
use mathlib.Core.Path.{◌≡◌, refl, sym, ap, ap₂, ◌∙◌}
use mathlib.Core.List.{List}
use mathlib.Core.Bool.{Bool, true, false, cond}
use Prim.Native.Nat.{ℕ, zero, suc, ◌+◌, ◌≤◌, ◌<◌}
use native.Mathlib.Omega.{arith}
use lib.Dec.{eqb}
use lib.ListN.{get_or, set, length, length-set}
use lib.Seq.{get_or-set_same, get_or-set_other}
use borrow.Author.Tests.{eqb-true, eqb-false, ne_eqb}
use Rattle.codes.specs.Number.{closed_number}
use Rattle.day_sweep.specs.Row.{clear_from}

pub clear-below : (vs : List ℕ) (S j r i : ℕ) → i < j → get_or (clear_from vs S j r) i 0 ≡ get_or vs i 0
unfolding clear_from
clear-below vs S j zero i h = refl
clear-below vs S j (suc r) i h = clear-below (cond (eqb (get_or vs j 0) S) (set vs j closed_number) vs) S (j + 1) r i (omega arith) ∙ go (eqb (get_or vs j 0) S)
  where
    go : (b : Bool) → get_or (cond b (set vs j closed_number) vs) i 0 ≡ get_or vs i 0
    go true = get_or-set_other vs j i closed_number 0 (λ e. omega arith)
    go false = refl

pub length-clear : (vs : List ℕ) (S j r : ℕ) → length (clear_from vs S j r) ≡ length vs
unfolding clear_from
length-clear vs S j zero = refl
length-clear vs S j (suc r) = length-clear (cond (eqb (get_or vs j 0) S) (set vs j closed_number) vs) S (j + 1) r ∙ go (eqb (get_or vs j 0) S)
  where
    go : (b : Bool) → length (cond b (set vs j closed_number) vs) ≡ length vs
    go true = length-set vs j closed_number
    go false = refl

pub clear_at : (vs : List ℕ) (S j r k : ℕ) → j + r ≤ length vs → j ≤ k → k < j + r
    → get_or (clear_from vs S j r) k 0 ≡ cond (eqb (get_or vs k 0) S) closed_number (get_or vs k 0)
unfolding clear_from
clear_at vs S j zero k room l h = absurd (omega arith)
clear_at vs S j (suc r) k room l h = go (eqb j k) refl (λ ws q l h. clear_at ws S (j + 1) r k q l h)
  where
    ws : List ℕ
    ws = cond (eqb (get_or vs j 0) S) (set vs j closed_number) vs

    size : (b : Bool) → length (cond b (set vs j closed_number) vs) ≡ length vs
    size true = length-set vs j closed_number
    size false = refl

    here : (b : Bool) → get_or (cond b (set vs j closed_number) vs) j 0 ≡ cond b closed_number (get_or vs j 0)
    here true = get_or-set_same vs j closed_number 0 (omega arith)
    here false = refl

    there : (j ≡ k → ⊥) → (b : Bool) → get_or (cond b (set vs j closed_number) vs) k 0 ≡ get_or vs k 0
    there d true = get_or-set_other vs j k closed_number 0 (λ e. d (sym e))
    there d false = refl

    go : (b : Bool) → eqb j k ≡ b
        → ((ws : List ℕ) → j + 1 + r ≤ length ws → j + 1 ≤ k → k < j + 1 + r
        → get_or (clear_from ws S (j + 1) r) k 0 ≡ cond (eqb (get_or ws k 0) S) closed_number (get_or ws k 0))
        → get_or (clear_from ws S (j + 1) r) k 0 ≡ cond (eqb (get_or vs k 0) S) closed_number (get_or vs k 0)
    go true e ih = let z : j ≡ k = eqb-true j k e in
        ap (λ v. get_or (clear_from ws S (j + 1) r) v 0) (sym z) ∙ clear-below ws S (j + 1) r j (omega arith) ∙ here (eqb (get_or vs j 0) S)
        ∙ ap (λ v. cond (eqb (get_or vs v 0) S) closed_number (get_or vs v 0)) z
    go false e ih =
        let d = eqb-false j k e in
        ih ws (omega (arith, size (eqb (get_or vs j 0) S))) (omega arith) (omega arith)
        ∙ ap (λ v. cond (eqb v S) closed_number v) (there d (eqb (get_or vs j 0) S))

pub clear_above : (vs : List ℕ) (S j r k : ℕ) → j + r ≤ k → get_or (clear_from vs S j r) k 0 ≡ get_or vs k 0
unfolding clear_from
clear_above vs S j zero k h = refl
clear_above vs S j (suc r) k h = clear_above (cond (eqb (get_or vs j 0) S) (set vs j closed_number) vs) S (j + 1) r k (omega arith) ∙ go (eqb (get_or vs j 0) S)
  where
    go : (b : Bool) → get_or (cond b (set vs j closed_number) vs) k 0 ≡ get_or vs k 0
    go true = get_or-set_other vs j k closed_number 0 (λ e. omega arith)
    go false = refl

-- emptied further
pub clear-more : (vs : List ℕ) (S j r q : ℕ) → clear_from (clear_from vs S j r) S (j + r) q ≡ clear_from vs S j (r + q)
unfolding clear_from
clear-more vs S j zero q =
    let z : j + 0 ≡ j = omega arith in
    let w : q ≡ 0 + q = omega arith in ap₂ (clear_from vs S) z w
clear-more vs S j (suc r) q =
    let ws : List ℕ = cond (eqb (get_or vs j 0) S) (set vs j closed_number) vs in
    let z : j + suc r ≡ j + 1 + r = omega arith in
    let w : suc (r + q) ≡ suc r + q = omega arith in
    ap (λ i. clear_from (clear_from ws S (j + 1) r) S i q) z ∙ clear-more ws S (j + 1) r q ∙ ap (clear_from vs S j) w

-- where no cell has the state
pub clear-past : (vs : List ℕ) (S j r : ℕ) → ((k : ℕ) → j ≤ k → k < j + r → get_or vs k 0 ≡ S → ⊥) → clear_from vs S j r ≡ vs
unfolding clear_from
clear-past vs S j zero d = refl
clear-past vs S j (suc r) d =
    rw (ne_eqb (get_or vs j 0) S (d j (omega arith) (omega arith)), clear_from) (clear-past vs S (j + 1) r (λ k l h. d k (omega arith) (omega arith)))
