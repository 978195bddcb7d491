-- In one dimension no value comes twice among the groups. Rests on the popped groups' laws.
use mathlib.Core.Path.{◌≡◌, refl, sym, ap, ◌∙◌, subst}
use mathlib.Core.List.{List, [], ◌∷◌, ◌++◌, map, map-append}
use mathlib.Core.Logic.{◌⊎◌, inl, inr}
use mathlib.Core.Option.{Option, none, some}
use mathlib.Core.Bool.{Bool, true, false, cond, true≢false, false≢true}
use Prim.Native.Nat.{ℕ, zero, suc}
use native.Mathlib.Omega.{arith}
use Rattle.laws.specs.Lists.{first_of, any_of, keep, All, Distinct, Mem, OnSome}
use Rattle.laws.specs.Tests.{Exact}
use Rattle.laws.proofs.Flags.{split-and, both-and, not-true}
use Rattle.laws.proofs.Lists.{All-append, OnSome-map, first_of-from, Mem-keep, Mem-any, any-Mem}
use Rattle.grid.specs.Group.{Set, Map, at, Group, size, inside, agree, grow, pop, clear, take_out, sweep_for, sweep, groups}
use Rattle.grid.proofs.Part.{groups-each}
use Rattle.grid.proofs.Value.{pop-agree, pop-inside, clear-value}

-- ## In one dimension, each value once
abbrev pub values : {A W : Type 0} → List (Group A W) → List W
values = map (λ g. g.0)

module _ {A W : Type 0} {eq : W → W → Bool} (exact : Exact eq) {same : A → A → Bool} (Exact-same : Exact same) (empty : W) (D : List A) where
  -- a fact of the map's value at each coordinate
  abbrev pub Each : (W → Type 0) → Map A W → Type 0
  Each P f = (x : A) → Mem x D → P (f (x ∷ []))

  -- the popped value is one of them
  pop-each : (P : W → Type 0) (ok : W → Bool) (f : Map A W) → Each P f → OnSome (λ g. P g.0) (pop eq ok (D ∷ []) f)
  pop-each P ok f h = pop-inside eq Exact-same ok P (D ∷ []) f at_each
    where
      at_each : (p : List A) → inside same (D ∷ []) p ≡ true → P (f p)
      at_each [] i = unfold inside in absurd (false≢true i)
      at_each (x ∷ []) i = unfold inside in h x (any-Mem Exact-same x D (split-and (any_of (same x) D) true i).0)
      at_each (x ∷ y ∷ p) i = unfold inside in absurd (false≢true (split-and (any_of (same x) D) false i).1)

  clear-each : (P : W → Type 0) → P empty → (S : Set A) (f : Map A W) → Each P f → Each P (clear same empty S f)
  clear-each P pe S f h x m = subst P (sym (clear-value same empty S f (x ∷ []))) (go (inside same S (x ∷ [])))
    where
      go : (b : Bool) → P (cond b empty (f (x ∷ [])))
      go true = pe
      go false = h x m

  -- after its group is emptied, the value is nowhere
  popped-gone : (ok : W → Bool) → ok empty ≡ false → (f : Map A W)
      → OnSome (λ g. (eq empty g.0 ≡ false) × Each (λ v. eq v g.0 ≡ false) (clear same empty g.1 f)) (pop eq ok (D ∷ []) f)
  unfolding pop grow agree inside
  popped-gone ok z f = go (first_of (λ x. pop eq ok [] (at f x)) D) (first_of-from (λ x. pop eq ok [] (at f x)) D)
    where
      alone : (x : A) (b : Bool) → ok (f (x ∷ [])) ≡ b → (g : Group A W) → pop eq ok [] (at f x) ≡ some g → (ok g.0 ≡ true) × (g.1 ≡ [])
      alone x true e g k =
          let q : some (f (x ∷ []), []) ≡ some g = rw (e, pop) at k in
          let r : (f (x ∷ []), []) ≡ g = cc in
          (ap (λ u. ok u.0) (sym r) ∙ e, ap (λ u. u.1) (sym r))
      alone x false e g k = let q : none ≡ some g = rw (e, pop) at k in let c : ◌≡◌ {A = ℕ} 0 1 = cc in absurd (omega arith)

      go : (o : Option (Group A W)) → OnSome (λ g. (x : A) × Mem x D × (pop eq ok [] (at f x) ≡ some g)) o
          → OnSome (λ g. (eq empty g.0 ≡ false) × Each (λ v. eq v g.0 ≡ false) (clear same empty g.1 f)) (grow eq D f o)
      go none k = tt
      go (some g) k =
          let a = alone k.0 (ok (f (k.0 ∷ []))) refl g k.2 in
          let ne : eq empty g.0 ≡ false = not-true (eq empty g.0) (λ h. true≢false (sym a.0 ∙ ap ok (sym (exact.equal empty g.0 h)) ∙ z)) in
          (ne, λ x m. gone x m ne a.1 (eq (f (x ∷ [])) g.0) refl)
        where
          E : List A
          E = keep (λ x. agree eq g.0 g.1 (at f x)) D

          gone : (x : A) → Mem x D → eq empty g.0 ≡ false → g.1 ≡ [] → (b : Bool) → eq (f (x ∷ [])) g.0 ≡ b
              → eq (clear same empty (E ∷ g.1) f (x ∷ [])) g.0 ≡ false
          gone x m ne s true e =
              let i : inside same (E ∷ g.1) (x ∷ []) ≡ true =
              both-and (any_of (same x) E) (inside same g.1 [])
              (Mem-any Exact-same x E (Mem-keep (λ y. agree eq g.0 g.1 (at f y)) x D m (rw s e))) (rw s)
              in
              ap (λ v. eq v g.0) (clear-value same empty (E ∷ g.1) f (x ∷ []) ∙ ap (λ b. cond b empty (f (x ∷ []))) i) ∙ ne
          gone x m ne s false e = ap (λ v. eq v g.0) (clear-value same empty (E ∷ g.1) f (x ∷ [])) ∙ pick (inside same (E ∷ g.1) (x ∷ []))
            where
              pick : (b : Bool) → eq (cond b empty (f (x ∷ []))) g.0 ≡ false
              pick true = ne
              pick false = e

  -- a value that the map has nowhere is no group's
  sweep-lacks : (v : W) → eq empty v ≡ false → (n : ℕ) (ok : W → Bool) (f : Map A W) → Each (λ u. eq u v ≡ false) f
      → All (λ u. eq u v ≡ false) (values (sweep_for eq same empty n ok (D ∷ []) f).0) × Each (λ u. eq u v ≡ false) (sweep_for eq same empty n ok (D ∷ []) f).1
  unfolding sweep_for take_out
  sweep-lacks v ne zero ok f h = (tt, h)
  sweep-lacks v ne (suc n) ok f h = go (pop eq ok (D ∷ []) f) (pop-each (λ u. eq u v ≡ false) ok f h) (λ f'. sweep-lacks v ne n ok f')
    where
      go : (o : Option (Group A W)) → OnSome (λ g. eq g.0 v ≡ false) o
          → ((f' : Map A W) → Each (λ u. eq u v ≡ false) f'
          → All (λ u. eq u v ≡ false) (values (sweep_for eq same empty n ok (D ∷ []) f').0) ×
          Each (λ u. eq u v ≡ false) (sweep_for eq same empty n ok (D ∷ []) f').1)
          → All (λ u. eq u v ≡ false) (values (take_out eq same empty f (λ f'. sweep_for eq same empty n ok (D ∷ []) f') o).0)
          × Each (λ u. eq u v ≡ false) (take_out eq same empty f (λ f'. sweep_for eq same empty n ok (D ∷ []) f') o).1
      go none k ih = (tt, h)
      go (some g) k ih = let r = ih (clear same empty g.1 f) (clear-each (λ u. eq u v ≡ false) ne g.1 f h) in ((k, r.0), r.1)

  groups-lack : (v : W) → eq empty v ≡ false → (oks : List (W → Bool)) (f : Map A W) → Each (λ u. eq u v ≡ false) f
      → All (λ u. eq u v ≡ false) (values (groups eq same empty oks (D ∷ []) f))
  unfolding groups sweep
  groups-lack v ne [] f h = tt
  groups-lack v ne (ok ∷ oks) f h =
      let k = sweep-lacks v ne (size (D ∷ [])) ok f h in
      subst (All (λ u. eq u v ≡ false)) (sym (map-append (λ g. g.0) (sweep eq same empty ok (D ∷ []) f).0 _))
      (All-append _ (values (sweep eq same empty ok (D ∷ []) f).0) _ k.0 (groups-lack v ne oks (sweep eq same empty ok (D ∷ []) f).1 k.1))

  -- no value comes twice: of the groups before, of those after
  sweep-distinct : (n : ℕ) (ok : W → Bool) → ok empty ≡ false → (oks : List (W → Bool)) (f : Map A W)
      → ((f' : Map A W) → Distinct eq (values (groups eq same empty oks (D ∷ []) f')))
      → Distinct eq (values ((sweep_for eq same empty n ok (D ∷ []) f).0 ++ groups eq same empty oks (D ∷ []) (sweep_for eq same empty n ok (D ∷ []) f).1))
  unfolding sweep_for take_out
  sweep-distinct zero ok z oks f later = later f
  sweep-distinct (suc n) ok z oks f later = go (pop eq ok (D ∷ []) f) (popped-gone ok z f) (λ f'. sweep-distinct n ok z oks f' later)
    where
      go : (o : Option (Group A W)) → OnSome (λ g. (eq empty g.0 ≡ false) × Each (λ v. eq v g.0 ≡ false) (clear same empty g.1 f)) o
          → ((f' : Map A W) → Distinct eq
          (values ((sweep_for eq same empty n ok (D ∷ []) f').0 ++ groups eq same empty oks (D ∷ []) (sweep_for eq same empty n ok (D ∷ []) f').1)))
          → Distinct eq (values ((take_out eq same empty f (λ f'. sweep_for eq same empty n ok (D ∷ []) f') o).0
          ++ groups eq same empty oks (D ∷ []) (take_out eq same empty f (λ f'. sweep_for eq same empty n ok (D ∷ []) f') o).1))
      go none k ih = later f
      go (some g) k ih =
          let f' = clear same empty g.1 f in
          let r = sweep-lacks g.0 k.0 n ok f' k.1 in (
            subst (All (λ u. eq u g.0 ≡ false)) (sym (map-append (λ q. q.0) (sweep_for eq same empty n ok (D ∷ []) f').0 _))
                (All-append _ (values (sweep_for eq same empty n ok (D ∷ []) f').0) _ r.0
                (groups-lack g.0 k.0 oks (sweep_for eq same empty n ok (D ∷ []) f').1 r.1)),
            ih f',
          )

  -- IN ONE DIMENSION EACH VALUE COMES ONCE
  pub groups-distinct : (oks : List (W → Bool)) → All (λ ok. ok empty ≡ false) oks → (f : Map A W) → Distinct eq (values (groups eq same empty oks (D ∷ []) f))
  unfolding groups sweep
  groups-distinct [] z f = tt
  groups-distinct (ok ∷ oks) z f = sweep-distinct (size (D ∷ [])) ok z.0 oks f (groups-distinct oks z.1)

  -- and each is one of the map's values that are not empty
  pub groups-values : (P : W → Type 0) (oks : List (W → Bool)) → All (λ ok. ok empty ≡ false) oks → (f : Map A W) → Each (λ v. (v ≡ empty) ⊎ P v) f
      → All (λ g. P g.0) (groups eq same empty oks (D ∷ []) f)
  groups-values P oks z f h =
      groups-each eq same empty (D ∷ []) (λ ok. ok empty ≡ false) (λ g. P g.0) (Each (λ v. (v ≡ empty) ⊎ P v))
      (λ ok un f' q.
      popped ok un (pop eq ok (D ∷ []) f') (pop-each (λ v. (v ≡ empty) ⊎ P v) ok f' q)
      (OnSome-map (λ g k. k.1) (pop eq ok (D ∷ []) f') (pop-agree exact ok (D ∷ []) f')))
      (λ S f'. clear-each (λ v. (v ≡ empty) ⊎ P v) (inl refl) S f') oks z f h
    where
      popped : (ok : W → Bool) → ok empty ≡ false → (o : Option (Group A W)) → OnSome (λ g. (g.0 ≡ empty) ⊎ P g.0) o
          → OnSome (λ g. ok g.0 ≡ true) o → OnSome (λ g. P g.0) o
      popped ok un none k m = tt
      popped ok un (some g) k m = pick k
        where
          pick : (g.0 ≡ empty) ⊎ P g.0 → P g.0
          pick (inl q) = absurd (true≢false (sym m ∙ ap ok q ∙ un))
          pick (inr p) = p
