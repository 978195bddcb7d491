-- What follows the rules of a sheet: zero bits to the byte's end, then nothing.
use mathlib.Core.Path.{◌≡◌, refl, sym, ap, ◌∙◌}
use mathlib.Core.List.{List, [], ◌∷◌}
use mathlib.Core.Option.{Option, none, some}
use mathlib.Core.Bool.{Bool, true, false}
use Prim.Native.Nat.{ℕ, suc, ◌+◌, ◌*◌, ◌-◌, ◌≤◌, ◌<◌}
use native.Mathlib.Omega.{arith}
use lib.Dec.{eqb}
use lib.ListN.{length, take, drop, get_or, length-take}
use lib.Seq.{drop-cons}
use borrow.Author.Tests.{eq-eqb, ne_eqb, lt-ltb, le-ltb}
use Rattle.definition.specs.Field.{got, refused, bad_end, bytes_for, field_at}
use Rattle.definition.specs.Sheet.{first_set, ended}
use Rattle.field.proofs.FieldAt.{field-one}
use Rattle.sheet.specs.Rules.{place_or}

-- ## The first bit that is set
module _ (s : List ℕ) (p end : ℕ) where
  abbrev pub set_from : Option ℕ
  set_from = first_set (take (end - p) (drop p s)) p

  split : (n : ℕ) → end - p ≡ suc n → p < length s → take (end - p) (drop p s) ≡ get_or s p 0 ∷ take n (drop (suc p) s)
  split n e l = ap (λ m. take m (drop p s)) e ∙ ap (take (suc n)) (drop-cons s p 0 l)

  pub set_here : p < end → p < length s → 0 < field_at s p 1 → set_from ≡ some p
  unfolding first_set
  set_here l m h =
      let t : eqb (get_or s p 0) 0 ≡ false = ne_eqb (get_or s p 0) 0 (λ z. omega (arith, field-one s p m)) in
      ap (λ bs. first_set bs p) (split (end - suc p) (omega arith) m) ∙ rw (t, first_set) refl

  pub set-later : (q : ℕ) → q ≡ suc p → p < end → p < length s → field_at s p 1 ≡ 0 → set_from ≡ first_set (take (end - q) (drop q s)) q
  unfolding first_set
  set-later q e l m h =
      let t : eqb (get_or s p 0) 0 ≡ true = eq-eqb (get_or s p 0) 0 (omega (arith, field-one s p m)) in
      ap (λ bs. first_set bs p) (split (end - suc p) (omega arith) m) ∙ rw (t, first_set) refl ∙ ap (λ j. first_set (take (end - j) (drop j s)) j) (sym e)

  pub set-none : end ≤ p → set_from ≡ none
  unfolding first_set
  set-none l = let z : end - p ≡ 0 = omega arith in ap (λ n. first_set (take n (drop p s)) p) z

-- the place lies before the end, or no bit is set
pub set_below : (bs : List ℕ) (p q : ℕ) → first_set bs p ≡ some q → q < p + length bs
unfolding first_set
set_below [] p q e = let z : ◌≡◌ {A = ℕ} 0 1 = cc in absurd (omega arith)
set_below (b ∷ bs) p q e = go (eqb b 0) refl (set_below bs (suc p) q)
  where
    go : (t : Bool) → eqb b 0 ≡ t → (first_set bs (suc p) ≡ some q → q < suc p + length bs) → q < p + length (b ∷ bs)
    go true k ih = omega (arith, ih (rw (k, first_set) at e))
    go false k ih = let h : some p ≡ some q = rw (k, first_set) at e in let z : p ≡ q = cc in omega arith

-- ## The ways a sheet ends
module _ (s : List ℕ) (p place : ℕ) (e : place ≡ place_or (8 * bytes_for p) (set_from s p (8 * bytes_for p))) where
  not_set : 8 * bytes_for p ≤ place → set_from s p (8 * bytes_for p) ≡ none
  not_set l = go (set_from s p (8 * bytes_for p)) refl
    where
      go : (o : Option ℕ) → set_from s p (8 * bytes_for p) ≡ o → set_from s p (8 * bytes_for p) ≡ none
      go none h = h
      go (some q) h =
          let bits = take (8 * bytes_for p - p) (drop p s) in
          let z : place ≡ q = e ∙ ap (place_or (8 * bytes_for p)) h in
          absurd (omega (arith, set_below bits p q h, length-take (8 * bytes_for p - p) (drop p s)))

  pub ended-set : {A : Type 0} (x : A) → place < 8 * bytes_for p → ended s x p ≡ refused bad_end place
  unfolding ended
  ended-set x l = go (set_from s p (8 * bytes_for p)) refl
    where
      go : (o : Option ℕ) → set_from s p (8 * bytes_for p) ≡ o → ended s x p ≡ refused bad_end place
      go none h = absurd (omega (arith, e ∙ ap (place_or (8 * bytes_for p)) h))
      go (some q) h = let z : place ≡ q = e ∙ ap (place_or (8 * bytes_for p)) h in rw (h, ended) (ap (refused bad_end) (sym z))

  pub ended-more : {A : Type 0} (x : A) → 8 * bytes_for p ≤ place → 8 * bytes_for p < length s → ended s x p ≡ refused bad_end (8 * bytes_for p)
  unfolding ended
  ended-more x l m = rw (not_set l, lt-ltb _ _ m, ended) refl

  pub ended-fine : {A : Type 0} (x : A) → 8 * bytes_for p ≤ place → length s ≤ 8 * bytes_for p → ended s x p ≡ got x p
  unfolding ended
  ended-fine x l m = rw (not_set l, le-ltb _ _ m, ended) refl
