-- The first group of a class, found below the columns of a node and grown along them; and its marks read back. Rests on the marks' laws.
use mathlib.Core.Path.{◌≡◌, refl, sym, ap, ap₂, ◌∙◌}
use mathlib.Core.Bool.{Bool, true, false, cond}
use mathlib.Core.List.{List, [], ◌∷◌}
use mathlib.Core.Option.{Option, none, some}
use Prim.Native.Nat.{ℕ, zero, suc, ◌+◌, ◌-◌, ◌*◌, ◌≤◌, ◌<◌}
use native.Mathlib.Omega.{arith}
use lib.Dec.{eqb}
use lib.ListN.{length, get_or, set, length-set}
use borrow.Author.Tests.{ne_eqb, eqb-true, eqb-false}
use Rattle.laws.specs.Lists.{from, first_of, any_of, keep, OnSome}
use Rattle.laws.proofs.Lists.{OnSome-first_of}
use Rattle.grid.specs.Group.{Set, at, Group, agree, grow, pop}
use Rattle.grid.proofs.Part.{Part, pop-part}
use Rattle.paving.specs.Grid.{width_of, axes, grid, chosen, in_class, pop_at, popped, pop_from, good_at, paint, mark_set, marked, answer}
use Rattle.paving.proofs.Room.{from_cons, at-grid}
use Rattle.paving.proofs.Marks.{keep-ext, paint-ext, chosen-paint}

-- a column is among those that pass where it passes
has-low : (t : ℕ → Bool) (x s r : ℕ) → x < s → any_of (eqb x) (keep t (from s r)) ≡ false
unfolding any_of keep from
has-low t x s zero h = refl
has-low t x s (suc r) h = go (t s) refl (has-low t x (suc s) r (omega arith))
  where
    go : (a : Bool) → t s ≡ a → any_of (eqb x) (keep t (from (suc s) r)) ≡ false → any_of (eqb x) (keep t (from s (suc r))) ≡ false
    go true p ih = rw (p, keep, ne_eqb x s (omega arith)) ih
    go false p ih = rw (p, keep) ih

pub has-keep : (t : ℕ → Bool) (x s r : ℕ) → s ≤ x → x < s + r → any_of (eqb x) (keep t (from s r)) ≡ t x
unfolding any_of keep from
has-keep t x s zero l h = absurd (omega arith)
has-keep t x s (suc r) l h = go (t s) refl (eqb x s) refl (has-keep t x (suc s) r)
  where
    go : (a : Bool) → t s ≡ a → (b : Bool) → eqb x s ≡ b → (suc s ≤ x → x < suc s + r → any_of (eqb x) (keep t (from (suc s) r)) ≡ t x)
        → any_of (eqb x) (keep t (from s (suc r))) ≡ t x
    go true p true q ih = rw (p, keep, q) (sym (ap t (eqb-true x s q) ∙ p))
    go false p true q ih = rw (p, keep) (has-low t x (suc s) r (omega (arith, eqb-true x s q)) ∙ sym (ap t (eqb-true x s q) ∙ p))
    go true p false q ih = rw (p, keep, q) (ih (omega (arith, eqb-false x s q)) (omega arith))
    go false p false q ih = rw (p, keep) (ih (omega (arith, eqb-false x s q)) (omega arith))

paint-length : (t : ℕ → Bool) (base j r : ℕ) (s : List ℕ) → length (paint t base j r s) ≡ length s
unfolding paint
paint-length t base j zero s = refl
paint-length t base j (suc r) s = paint-length t base (j + 1) r (set s (base + j) (cond (t j) 1 0)) ∙ length-set s (base + j) (cond (t j) 1 0)

mark-length : (sizes : List ℕ) (l base : ℕ) (S : Set ℕ) (s : List ℕ) → length (mark_set sizes l base S s) ≡ length s
unfolding mark_set
mark-length sizes zero base S s = refl
mark-length sizes (suc l) base [] s = refl
mark-length sizes (suc l) base (E ∷ S) s =
    paint-length (λ x. any_of (eqb x) E) base 0 (get_or sizes l 0) (mark_set sizes l (base + get_or sizes l 0) S s) ∙ mark-length sizes l (base + get_or sizes l 0) S s

-- the marks that were written are read back
chosen-mark : (sizes s : List ℕ) (l base : ℕ) (S : Set ℕ) → Part (axes sizes l) S → base + width_of sizes l ≤ length s
    → chosen (mark_set sizes l base S s) sizes l base ≡ S
unfolding mark_set axes width_of chosen
chosen-mark sizes s zero base [] p h = refl
chosen-mark sizes s zero base (E ∷ S) p h = absurd p
chosen-mark sizes s (suc l) base [] p h = absurd p
chosen-mark sizes s (suc l) base (E ∷ S) p h =
    let n = get_or sizes l 0 in
    let u = mark_set sizes l (base + n) S s in
    let t : ℕ → Bool = λ x. any_of (eqb x) E in
    let z : n ≡ n - 0 = omega arith in
    let len = mark-length sizes l (base + n) S s in
    ap (λ m. chosen (paint t base 0 m u) sizes (suc l) base) z
    ∙ chosen-paint t u sizes l base (omega arith)
    ∙ ap₂ ◌∷◌ (rw p.0.1 (keep-ext (λ x. any_of (eqb x) (keep p.0.0 (from 0 n))) p.0.0 0 n (λ x lo hi. has-keep p.0.0 x 0 n lo hi)))
    (chosen-mark sizes s l (base + n) S p.1 (omega arith))

-- the answer and the marks together are the group
pub popped-of : (sizes s s' : List ℕ) (l base : ℕ) (o : Option (Group ℕ ℕ)) (f : Option ℕ) → OnSome (λ g. Part (axes sizes l) g.1) o
    → base + width_of sizes l ≤ length s
    → f ≡ answer o → s' ≡ marked sizes l base o s → popped f (chosen s' sizes l base) ≡ o
unfolding popped answer marked
popped-of sizes s s' l base none f p h a m = rw a
popped-of sizes s s' l base (some g) f p h a m = rw (a, m) (ap (λ S. some (g.0, S)) (chosen-mark sizes s l base g.1 p h))

first_step : (h : ℕ → Option (Group ℕ ℕ)) (x : ℕ) (xs : List ℕ) (o : Option (Group ℕ ℕ)) → h x ≡ o
    → first_of h (x ∷ xs) ≡ elim o [ none ↦ first_of h xs | some g ↦ some g ]
unfolding first_of
first_step h x xs o e = rw (e, first_of)

pub popped-pop : (cells classes sizes : List ℕ) (k l node base : ℕ) (s s' : List ℕ) (f : Option ℕ) → base + width_of sizes l ≤ length s
    → f ≡ answer (pop_at cells classes sizes k l node) → s' ≡ marked sizes l base (pop_at cells classes sizes k l node) s
    → popped f (chosen s' sizes l base) ≡ pop_at cells classes sizes k l node
unfolding pop_at
popped-pop cells classes sizes k l node base s s' f =
    popped-of sizes s s' l base (pop_at cells classes sizes k l node) f (pop-part eqb (in_class classes k) (axes sizes l) (grid cells sizes l node))

module _ (cells classes sizes : List ℕ) (k : ℕ) where
  pub pop-leaf-yes : (marks : List ℕ) (left node base : ℕ) (b : Bool) → left ≡ 0 → b ≡ in_class classes k (get_or cells node 0) → b ≡ true
      → (some (get_or cells node 0) ≡ answer (pop_at cells classes sizes k left node))
      × (marks ≡ marked sizes left base (pop_at cells classes sizes k left node) marks)
  unfolding pop_at pop axes grid answer marked mark_set
  pop-leaf-yes marks left node base b e h q = rw (e, sym h ∙ q, pop) (refl, refl)

  module _ (i node : ℕ) where
    pub pop-unfold : pop_at cells classes sizes k (suc i) node
        ≡ grow eqb (from 0 (get_or sizes i 0)) (grid cells sizes (suc i) node) (pop_from cells sizes i node (in_class classes k) 0)
    unfolding pop_at pop axes pop_from
    pop-unfold =
        let z : get_or sizes i 0 ≡ get_or sizes i 0 - 0 = omega arith in
        ap
        (λ m.
        grow eqb (from 0 (get_or sizes i 0)) (grid cells sizes (suc i) node)
        (first_of (λ x. pop eqb (in_class classes k) (axes sizes i) (at (grid cells sizes (suc i) node) x)) (from 0 m))) z

    pop_from-part : OnSome (λ g. Part (axes sizes i) g.1) (pop_from cells sizes i node (in_class classes k) 0)
    unfolding pop_from
    pop_from-part =
        OnSome-first_of (λ g. Part (axes sizes i) g.1) (λ x. pop eqb (in_class classes k) (axes sizes i) (at (grid cells sizes (suc i) node) x))
        (λ x. pop-part eqb (in_class classes k) (axes sizes i) (at (grid cells sizes (suc i) node) x)) (from 0 (get_or sizes i 0 - 0))

  module _ (left i node base n : ℕ) (el : left ≡ suc i) (e : n ≡ get_or sizes i 0) (f : Option ℕ) (s s₁ : List ℕ)
      (h : f ≡ answer (pop_from cells sizes i node (in_class classes k) 0))
      (m : s₁ ≡ marked sizes i (base + n) (pop_from cells sizes i node (in_class classes k) 0) s) where
    pub pop-node-some : (v : ℕ) (s₂ : List ℕ) → f ≡ some v → base + n + width_of sizes i ≤ length s
        → s₂ ≡ paint (good_at cells sizes i node s₁ base v) base 0 n s₁
        → (some v ≡ answer (pop_at cells classes sizes k left node))
        × (s₂ ≡ marked sizes left base (pop_at cells classes sizes k left node) s)
    unfolding answer marked grow mark_set good_at
    pop-node-some v s₂ q len b = rw (el, pop-unfold i node) (go (pop_from cells sizes i node (in_class classes k) 0) (pop_from-part i node) h m)
      where
        go : (o : Option (Group ℕ ℕ)) → OnSome (λ g. Part (axes sizes i) g.1) o → f ≡ answer o → s₁ ≡ marked sizes i (base + n) o s
            → (some v ≡ answer (grow eqb (from 0 (get_or sizes i 0)) (grid cells sizes (suc i) node) o))
            × (s₂ ≡ marked sizes (suc i) base (grow eqb (from 0 (get_or sizes i 0)) (grid cells sizes (suc i) node) o) s)
        go none p a c = absurd (let z : ◌≡◌ {A = ℕ} 0 1 = cc in omega arith)
        go (some g) p a c =
            let t : ℕ → Bool = λ x. agree eqb g.0 g.1 (at (grid cells sizes (suc i) node) x) in
            let w : v ≡ g.0 = cc in
            let ch : chosen s₁ sizes i (base + get_or sizes i 0) ≡ g.1 =
            rw (rw e at c) (chosen-mark sizes s i (base + get_or sizes i 0) g.1 p (rw e at len)) in (
              sym q ∙ a,
              b ∙ ap (λ r. paint (good_at cells sizes i node s₁ base v) base 0 r s₁) e
                  ∙ ap₂ (λ S u. paint (λ x. agree eqb u S (at (grid cells sizes (suc i) node) x)) base 0 (get_or sizes i 0) s₁) ch w
                  ∙ paint-ext t (λ x. any_of (eqb x) (keep t (from 0 (get_or sizes i 0)))) base 0 (get_or sizes i 0) s₁
                  (λ x lo hi. sym (has-keep t x 0 (get_or sizes i 0) lo hi))
                  ∙ ap (paint (λ x. any_of (eqb x) (keep t (from 0 (get_or sizes i 0)))) base 0 (get_or sizes i 0)) (rw e at c),
            )

  module _ (i node base n j : ℕ) (e : n ≡ get_or sizes i 0) where
    module _ (f : Option ℕ) (s s₁ : List ℕ) (h : j < n) (a : f ≡ answer (pop_at cells classes sizes k i (node * n + j)))
        (m : s₁ ≡ marked sizes i (base + n) (pop_at cells classes sizes k i (node * n + j)) s) where
      step : pop_from cells sizes i node (in_class classes k) j ≡ elim (pop_at cells classes sizes k i (node * n + j)) [
        | none ↦ pop_from cells sizes i node (in_class classes k) (j + 1)
        | some g ↦ some g
      ]
      unfolding pop_from pop_at
      step =
          ap (first_of (λ x. pop eqb (in_class classes k) (axes sizes i) (at (grid cells sizes (suc i) node) x))) (from_cons j (get_or sizes i 0) (omega arith))
          ∙ first_step (λ x. pop eqb (in_class classes k) (axes sizes i) (at (grid cells sizes (suc i) node) x)) j (from (j + 1) (get_or sizes i 0 - (j + 1)))
          (pop_at cells classes sizes k i (node * n + j))
          (ap (pop eqb (in_class classes k) (axes sizes i)) (at-grid cells sizes i node j (omega arith) ∙ ap (λ m. grid cells sizes i (node * m + j)) (sym e)))

      pub pop-columns-hit : (v : ℕ) → f ≡ some v
          → (some v ≡ answer (pop_from cells sizes i node (in_class classes k) j)) ×
          (s₁ ≡ marked sizes i (base + n) (pop_from cells sizes i node (in_class classes k) j) s)
      unfolding answer marked
      pop-columns-hit v q = rw step (go (pop_at cells classes sizes k i (node * n + j)) a m)
        where
          go : (o : Option (Group ℕ ℕ)) → f ≡ answer o → s₁ ≡ marked sizes i (base + n) o s
              → (some v ≡ answer (elim o [ none ↦ pop_from cells sizes i node (in_class classes k) (j + 1) | some g ↦ some g ]))
              × (s₁ ≡ marked sizes i (base + n) (elim o [ none ↦ pop_from cells sizes i node (in_class classes k) (j + 1) | some g ↦ some g ]) s)
          go none b c = absurd (let z : ◌≡◌ {A = ℕ} 0 1 = cc in omega arith)
          go (some g) b c = (sym q ∙ b, c)

      -- a column without a group: the search goes on as if it had begun behind it
      pub pop-columns-miss : f ≡ none → (pop_from cells sizes i node (in_class classes k) (j + 1) ≡ pop_from cells sizes i node (in_class classes k) j) × (s₁ ≡ s)
      unfolding answer marked
      pop-columns-miss q = rw step (go (pop_at cells classes sizes k i (node * n + j)) a m)
        where
          go : (o : Option (Group ℕ ℕ)) → f ≡ answer o → s₁ ≡ marked sizes i (base + n) o s
              → (pop_from cells sizes i node (in_class classes k) (j + 1)
              ≡ elim o [ none ↦ pop_from cells sizes i node (in_class classes k) (j + 1) | some g ↦ some g ])
              × (s₁ ≡ s)
          go none b c = (refl, c)
          go (some h) b c = absurd (let z : ◌≡◌ {A = ℕ} 0 1 = cc in omega arith)

-- what the search finds from some column on is what it finds from the first one on, where the columns passed have no group
pub found_first : (sizes : List ℕ) (i base : ℕ) (o first : Option (Group ℕ ℕ)) (f : Option ℕ) (s s₀ s₁ : List ℕ) → o ≡ first → s ≡ s₀
    → (f ≡ answer o) × (s₁ ≡ marked sizes i base o s) → (f ≡ answer first) × (s₁ ≡ marked sizes i base first s₀)
found_first sizes i base o first f s s₀ s₁ p q h = (h.0 ∙ ap answer p, h.1 ∙ ap₂ (marked sizes i base) p q)
