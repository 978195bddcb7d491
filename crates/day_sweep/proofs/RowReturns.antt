-- One lemma for each return of the functions that sweep the states of the intervals.
use mathlib.Core.Path.{◌≡◌, refl, sym, ap, ap₂, ◌∙◌}
use mathlib.Core.List.{List, [], ◌++◌}
use mathlib.Core.Bool.{true, false, ◌&&◌}
use Prim.Native.Nat.{ℕ, zero, suc, ◌+◌, ◌*◌, ◌-◌, ◌≤◌, ◌<◌}
use native.Mathlib.Omega.{arith}
use lib.Dec.{eqb}
use lib.ListN.{length, get_or, set, length-append}
use lib.Seq.{sets}
use borrow.Author.Tests.{lt-ltb, le-ltb, eq-eqb, ne_eqb, eqb-true}
use Rattle.laws.specs.Lists.{every}
use Rattle.laws.proofs.Flags.{split-and}
use Rattle.laws.proofs.Stores.{sets-append}
use Rattle.definition.specs.Day.{state_class}
use Rattle.codes.specs.Number.{state_coded, closed_number, parts_number}
use Rattle.words.specs.Words.{part, entry_words}
use Rattle.day_sweep.specs.Row.{class_limit, word_limit, entry_limit, run_up_to, runs_from, clear_from, is_of_class, class_words, class_left, classes_words, all_closed}
use Rattle.words.proofs.Sets.{Laid, none-laid, left_in, left-none}

module _ (s : List ℕ) (at a c : ℕ) where
  pub run-there : (t : List ℕ) (x : ℕ) → a < c → x ≡ parts_number a c 0 0 → t ≡ set s at x
      → (t ≡ sets s at (run_up_to a c)) × (at + 1 ≡ at + length (run_up_to a c)) × (at + 1 ≤ at + 1)
  unfolding run_up_to
  run-there t x h e l = rw (lt-ltb a c h) (l ∙ ap (set s at) e, refl, omega arith)

  pub run_none : c ≤ a → (s ≡ sets s at (run_up_to a c)) × (at ≡ at + length (run_up_to a c)) × (at ≤ at + 1)
  unfolding run_up_to
  run_none h = rw (le-ltb a c h) (refl, omega arith, omega arith)

-- ## A class
-- words laid from a place on, the place after them, and the cells that are left
abbrev pub Swept : List ℕ → List ℕ → ℕ → ℕ → List ℕ → List ℕ → List ℕ → Type 0
Swept s t at r words vs left = (t ≡ sets s at words) × (r ≡ at + length words) × (vs ≡ left)

-- a class, swept from interval j on up to interval i: laid over what is written, the rest gives the whole
module _ (cs : List ℕ) (class n : ℕ) (s₀ : List ℕ) (at : ℕ) (vs₀ : List ℕ) where
  pub record Sweeping (s : List ℕ) (place : ℕ) (vs : List ℕ) (i : ℕ) : Type 0 where
    pub laid : sets s place (class_words cs class vs i (n - i)) ≡ sets s₀ at (class_words cs class vs₀ 0 n)
    pub placed : place + length (class_words cs class vs i (n - i)) ≡ at + length (class_words cs class vs₀ 0 n)
    pub left : class_left class vs i (n - i) ≡ class_left class vs₀ 0 n

  module _ (s : List ℕ) (place : ℕ) (vs : List ℕ) (i : ℕ) (g : Sweeping s place vs i) where
    pub sweeping-ends : n ≤ i → Swept s₀ s at place (class_words cs class vs₀ 0 n) vs (class_left class vs₀ 0 n)
    unfolding class_words class_left
    sweeping-ends h =
        let w : class_words cs class vs i (n - i) ≡ [] = ap (class_words cs class vs i) (left-none i n h) in
        let z : place ≡ place + 0 = omega arith in
        (sym (ap (sets s place) w) ∙ g.laid, z ∙ sym (ap (λ v. place + length v) w) ∙ g.placed, sym (ap (class_left class vs i) (left-none i n h)) ∙ g.left)

    module _ (h : i < n) (k : ℕ) (e : k ≡ state_class (state_coded (get_or vs i 0))) where
      pub sweeping-skips : (k ≡ class → ⊥) → Sweeping s place vs (i + 1)
      unfolding class_words class_left is_of_class
      sweeping-skips d =
          let z : eqb (state_class (state_coded (get_or vs i 0))) class ≡ false = ap (λ v. eqb v class) (sym e) ∙ ne_eqb k class d in
          let w : class_words cs class vs i (n - i) ≡ class_words cs class vs (i + 1) (n - (i + 1)) =
          ap (class_words cs class vs i) (left_in i n h) ∙ rw (z, class_words) in
          let x : class_left class vs i (n - i) ≡ class_left class vs (i + 1) (n - (i + 1)) = ap (class_left class vs i) (left_in i n h) ∙ rw (z, class_left) in
          record { laid = ap (sets s place) (sym w) ∙ g.laid; placed = ap (λ v. place + length v) (sym w) ∙ g.placed; left = sym x ∙ g.left }

      module _ (d : k ≡ class) (s₁ : List ℕ) (next : ℕ)
          (entry : (s₁ ≡ sets s place (entry_words (get_or vs i 0) (runs_from cs vs (get_or vs i 0) (get_or cs i 0) i (n - i)))) ×
          (next ≡ place + 2 + length (runs_from cs vs (get_or vs i 0) (get_or cs i 0) i (n - i))))
          (vs₁ : List ℕ) (cleared : vs₁ ≡ clear_from vs (get_or vs i 0) i (n - i)) where
        pub sweeping-takes : Sweeping s₁ next vs₁ (i + 1)
        unfolding class_words class_left is_of_class entry_words
        sweeping-takes =
            let z : eqb (state_class (state_coded (get_or vs i 0))) class ≡ true = ap (λ v. eqb v class) (sym e) ∙ eq-eqb k class d in
            let c : vs₁ ≡ clear_from vs (get_or vs i 0) i (suc (n - (i + 1))) = cleared ∙ ap (clear_from vs (get_or vs i 0) i) (left_in i n h) in
            let spans : List ℕ = runs_from cs vs (get_or vs i 0) (get_or cs i 0) i (suc (n - (i + 1))) in
            let same : runs_from cs vs (get_or vs i 0) (get_or cs i 0) i (n - i) ≡ spans = ap (runs_from cs vs (get_or vs i 0) (get_or cs i 0) i) (left_in i n h) in
            let word : List ℕ = entry_words (get_or vs i 0) spans in
            let more : List ℕ = class_words cs class vs₁ (i + 1) (n - (i + 1)) in
            let w : class_words cs class vs i (n - i) ≡ word ++ more =
            ap (class_words cs class vs i) (left_in i n h) ∙ rw (z, class_words)
            (ap (λ v. entry_words (get_or vs i 0) spans ++ class_words cs class v (i + 1) (n - (i + 1))) (sym c)) in
            let x : class_left class vs i (n - i) ≡ class_left class vs₁ (i + 1) (n - (i + 1)) =
            ap (class_left class vs i) (left_in i n h) ∙ rw (z, class_left) (ap (λ v. class_left class v (i + 1) (n - (i + 1))) (sym c)) in
            let first : s₁ ≡ sets s place word = entry.0 ∙ ap (λ v. sets s place (entry_words (get_or vs i 0) v)) same in
            let size : next ≡ place + length word = omega (arith, entry.1, ap length same) in
            record {
              laid = ap₂ (λ v c. sets v c more) first size ∙ sym (sets-append s place word more) ∙ ap (sets s place) (sym w) ∙ g.laid;
              placed = omega (arith, size, length-append word more, ap length w, g.placed);
              left = sym x ∙ g.left;
            }

-- a state of a class isn't plain Closed
pub not_plain : (S k class : ℕ) → 1 ≤ class → k ≡ state_class (state_coded S) → k ≡ class → S ≡ closed_number → ⊥
unfolding state_coded
not_plain S k class pos e d q = let z : k ≡ 0 = e ∙ ap (λ v. state_class (state_coded v)) q in omega arith

-- ## Class after class
module _ (cs vs : List ℕ) (n class : ℕ) (s : List ℕ) (at : ℕ) where
  classes-more : class ≤ 5 → (s₁ us : List ℕ) (next : ℕ) → Swept s s₁ at next (class_words cs class vs 0 n) us (class_left class vs 0 n)
      → (t : List ℕ) (r : ℕ)
      → Laid s₁ t next r (classes_words cs n (class + 1) us (6 - (class + 1))) → Laid s t at r (classes_words cs n class vs (6 - class))
  unfolding classes_words
  classes-more h s₁ us next l t r k =
      let e : 6 - class ≡ suc (6 - (class + 1)) = omega arith in
      let first : List ℕ = class_words cs class vs 0 n in
      let rest : List ℕ = classes_words cs n (class + 1) us (6 - (class + 1)) in
      let w : classes_words cs n class vs (6 - class) ≡ first ++ rest =
      ap (classes_words cs n class vs) e ∙ ap (λ v. first ++ classes_words cs n (class + 1) v (6 - (class + 1))) (sym l.2) in (
        k.0 ∙ ap₂ (λ v i. sets v i rest) l.0 l.1 ∙ sym (sets-append s at first rest) ∙ ap (sets s at) (sym w),
        k.1 ∙ omega (arith, l.1, length-append first rest, ap length w),
      )

-- up to a class: there is room for this one and the later ones, and whatever lays them lays the whole
pub record ClassesOn (cs vs₀ : List ℕ) (n : ℕ) (s₀ : List ℕ) (class place : ℕ) (s vs : List ℕ) : Type 0 where
  pub between : (1 ≤ class) × (class ≤ 6)
  pub room : place + (6 - class) * class_limit < word_limit
  pub lengths : (length s ≡ length s₀) × (length vs ≡ length vs₀)
  pub finishes : (t : List ℕ) (r : ℕ) → Laid s t place r (classes_words cs n class vs (6 - class)) → Laid s₀ t 0 r (classes_words cs n 1 vs₀ 5)

module _ (cs vs₀ : List ℕ) (n : ℕ) (s₀ : List ℕ) (class place : ℕ) (s vs : List ℕ) (on : ClassesOn cs vs₀ n s₀ class place s vs) where
  done : classes_words cs n class vs (6 - class) ≡ []
      → (s ≡ sets s₀ 0 (classes_words cs n 1 vs₀ 5)) × (place ≡ length (classes_words cs n 1 vs₀ 5)) × (place < word_limit)
  done e = let l = on.finishes s place (none-laid s place (classes_words cs n class vs (6 - class)) e) in (l.0, omega (arith, l.1), omega (arith, on.room))

  pub classes-done : 6 ≤ class → (s ≡ sets s₀ 0 (classes_words cs n 1 vs₀ 5)) × (place ≡ length (classes_words cs n 1 vs₀ 5)) × (place < word_limit)
  unfolding classes_words
  classes-done h = let e : 6 - class ≡ 0 = omega arith in done (ap (classes_words cs n class vs) e)

  -- where every cell is plain Closed, no later class has words
  no_words : (c : ℕ) → 1 ≤ c → (j r : ℕ) → all_closed vs j r ≡ true → (class_words cs c vs j r ≡ []) × (class_left c vs j r ≡ vs)
  unfolding class_words class_left is_of_class state_coded every part
  no_words c pos j zero h = (refl, refl)
  no_words c pos j (suc r) h =
      let both = split-and (eqb closed_number (get_or vs j 0)) (all_closed vs (j + 1) r) h in
      let e : is_of_class c (get_or vs j 0) ≡ false =
      ap (λ v. eqb (state_class (state_coded v)) c) (sym (eqb-true closed_number (get_or vs j 0) both.0)) ∙ ne_eqb 0 c (omega arith) in
      let later = no_words c pos (j + 1) r both.1 in (rw (e, class_words) later.0, rw (e, class_left) later.1)

  no-classes : all_closed vs 0 n ≡ true → (k c : ℕ) → 1 ≤ c → classes_words cs n c vs k ≡ []
  unfolding classes_words
  no-classes h zero c pos = refl
  no-classes h (suc k) c pos =
      let e = no_words c pos 0 n h in
      ap₂ (λ w u. w ++ classes_words cs n (c + 1) u k) e.0 e.1 ∙ no-classes h k (c + 1) (omega arith)

  pub classes-closed : all_closed vs 0 n ≡ true
      → (s ≡ sets s₀ 0 (classes_words cs n 1 vs₀ 5)) × (place ≡ length (classes_words cs n 1 vs₀ 5)) × (place < word_limit)
  classes-closed h = done (no-classes h (6 - class) class on.between.0)

  pub classes-on : class < 6 → n ≤ 65536 → (s₁ us : List ℕ) (next : ℕ)
      → Swept s s₁ place next (class_words cs class vs 0 n) us (class_left class vs 0 n) → next ≤ place + n * entry_limit
      → (length s₁ ≡ length s) × (length us ≡ length vs) → ClassesOn cs vs₀ n s₀ (class + 1) next s₁ us
  classes-on h few s₁ us next l less same = record {
    between = (omega arith, omega arith);
    room = omega (arith, on.room, less);
    lengths = (same.0 ∙ on.lengths.0, same.1 ∙ on.lengths.1);
    finishes = λ t r k. on.finishes t r (classes-more cs vs n class s place (omega arith) s₁ us next l t r k);
  }

-- ## Whether all cells are plain Closed, cell by cell
module _ (vs : List ℕ) (i n : ℕ) where
  next : i < n → all_closed vs i (n - i) ≡ eqb closed_number (get_or vs i 0) && all_closed vs (i + 1) (n - (i + 1))
  unfolding every part
  next h = ap (all_closed vs i) (left_in i n h)

  pub closed_on : i < n → get_or vs i 0 ≡ closed_number → all_closed vs (i + 1) (n - (i + 1)) ≡ all_closed vs i (n - i)
  closed_on h e = sym (rw (eq-eqb closed_number (get_or vs i 0) (sym e)) at next h)

  pub closed-not : i < n → (get_or vs i 0 ≡ closed_number → ⊥) → false ≡ all_closed vs i (n - i)
  closed-not h e = sym (rw (ne_eqb closed_number (get_or vs i 0) (λ q. e (sym q))) at next h)

  pub closed-end : n ≤ i → true ≡ all_closed vs i (n - i)
  unfolding every part
  closed-end h = sym (ap (all_closed vs i) (left-none i n h))
