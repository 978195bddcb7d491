-- The groups of a map: they give the map back at every point, so they cover just the points that are not empty, each with its
-- value; and no two of them meet. Rests on the popped groups' laws and on steps.
use mathlib.Core.Path.{◌≡◌, refl, sym, ap, ◌∙◌}
use mathlib.Core.List.{List, [], ◌∷◌, ◌++◌}
use mathlib.Core.Logic.{◌⊎◌, inl, inr}
use mathlib.Core.Option.{Option, none, some}
use mathlib.Core.Bool.{Bool, true, false, cond, true≢false}
use Prim.Native.Nat.{ℕ, zero, suc}
use Rattle.laws.specs.Lists.{All, OnSome}
use Rattle.laws.specs.Tests.{Exact}
use Rattle.laws.proofs.Lists.{OnSome-map, All-append}
use Rattle.grid.specs.Group.{Set, Map, Group, size, inside, agree, pop, clear, take_out, sweep_for, sweep, groups}
use Rattle.grid.proofs.Value.{pop-agree, agree-inside, clear-value}
use Rattle.grid.proofs.Steps.{sweep-done}

-- the value that groups give a point, where d stands at the points of none
unfoldable pub found : {A W : Type 0} → (A → A → Bool) → W → List (Group A W) → List A → W
found same d [] p = d
found same d (g ∷ gs) p = cond (inside same g.1 p) g.0 (found same d gs p)

found-append : {A W : Type 0} (same : A → A → Bool) (d : W) (gs hs : List (Group A W)) (p : List A)
    → found same d (gs ++ hs) p ≡ found same (found same d hs p) gs p
unfolding found
found-append same d [] hs p = refl
found-append same d (g ∷ gs) hs p = ap (cond (inside same g.1 p) g.0) (found-append same d gs hs p)

module _ {A W : Type 0} {eq : W → W → Bool} (exact : Exact eq) {same : A → A → Bool} (Exact-same : Exact same) (empty : W) (Ds : Set A) where
  -- the groups, with what is left elsewhere, give the map back
  sweep-found : (n : ℕ) (ok : W → Bool) (f : Map A W) (p : List A)
      → found same ((sweep_for eq same empty n ok Ds f).1 p) (sweep_for eq same empty n ok Ds f).0 p ≡ f p
  unfolding sweep_for take_out found
  sweep-found zero ok f p = refl
  sweep-found (suc n) ok f p = go (pop eq ok Ds f) (pop-agree exact ok Ds f) (λ f'. sweep-found n ok f' p)
    where
      go : (o : Option (Group A W)) → OnSome (λ g. (agree eq g.0 g.1 f ≡ true) × (ok g.0 ≡ true)) o
          → ((f' : Map A W) → found same ((sweep_for eq same empty n ok Ds f').1 p) (sweep_for eq same empty n ok Ds f').0 p ≡ f' p)
          → found same ((take_out eq same empty f (λ f'. sweep_for eq same empty n ok Ds f') o).1 p)
          (take_out eq same empty f (λ f'. sweep_for eq same empty n ok Ds f') o).0 p ≡ f p
      go none h ih = refl
      go (some g) h ih = rw (ih (clear same empty g.1 f), clear-value same empty g.1 f p) (pick (inside same g.1 p) refl)
        where
          pick : (b : Bool) → inside same g.1 p ≡ b → cond b g.0 (cond b empty (f p)) ≡ f p
          pick true e = sym (agree-inside exact Exact-same g.0 g.1 f p h.0 e)
          pick false e = refl

  -- a point keeps its value or is emptied
  sweep-left : (n : ℕ) (ok : W → Bool) (f : Map A W) (p : List A)
      → ((sweep_for eq same empty n ok Ds f).1 p ≡ f p) ⊎ ((sweep_for eq same empty n ok Ds f).1 p ≡ empty)
  unfolding sweep_for take_out
  sweep-left zero ok f p = inl refl
  sweep-left (suc n) ok f p = go (pop eq ok Ds f) (λ f'. sweep-left n ok f' p)
    where
      go : (o : Option (Group A W)) → ((f' : Map A W) → ((sweep_for eq same empty n ok Ds f').1 p ≡ f' p) ⊎ ((sweep_for eq same empty n ok Ds f').1 p ≡ empty))
          → ((take_out eq same empty f (λ f'. sweep_for eq same empty n ok Ds f') o).1 p ≡ f p)
          ⊎ ((take_out eq same empty f (λ f'. sweep_for eq same empty n ok Ds f') o).1 p ≡ empty)
      go none ih = inl refl
      go (some g) ih = both (inside same g.1 p) (clear-value same empty g.1 f p) (ih (clear same empty g.1 f))
        where
          r : W
          r = (sweep_for eq same empty n ok Ds (clear same empty g.1 f)).1 p

          both : (b : Bool) → clear same empty g.1 f p ≡ cond b empty (f p) → (r ≡ clear same empty g.1 f p) ⊎ (r ≡ empty) → (r ≡ f p) ⊎ (r ≡ empty)
          both true e (inl q) = inr (q ∙ e)
          both false e (inl q) = inl (q ∙ e)
          both true e (inr q) = inr q
          both false e (inr q) = inr q

  -- THE GROUPS GIVE THE MAP BACK, where some class matches each value that is not empty
  pub groups-found : (oks : List (W → Bool)) → All (λ ok. ok empty ≡ false) oks → (f : Map A W) (p : List A) → inside same Ds p ≡ true
      → (All (λ ok. ok (f p) ≡ false) oks → f p ≡ empty) → found same empty (groups eq same empty oks Ds f) p ≡ f p
  unfolding groups sweep found
  groups-found [] z f p i c = sym (c tt)
  groups-found (ok ∷ oks) z f p i c =
      let f₁ = (sweep eq same empty ok Ds f).1 in
      found-append same empty (sweep eq same empty ok Ds f).0 (groups eq same empty oks Ds f₁) p
      ∙ ap (λ d. found same d (sweep eq same empty ok Ds f).0 p)
      (groups-found oks z.1 f₁ p i (go (sweep-left (size Ds) ok f p) (sweep-done exact Exact-same empty Ds ok z.0 f p i)))
      ∙ sweep-found (size Ds) ok f p
    where
      go : ((sweep eq same empty ok Ds f).1 p ≡ f p) ⊎ ((sweep eq same empty ok Ds f).1 p ≡ empty) → ok ((sweep eq same empty ok Ds f).1 p) ≡ false
          → All (λ k. k ((sweep eq same empty ok Ds f).1 p) ≡ false) oks → (sweep eq same empty ok Ds f).1 p ≡ empty
      go (inl q) h k = q ∙ c (rw q at h, rw q at k)
      go (inr q) h k = q

  -- ## No two groups meet
  -- the point is in none of the groups
  abbrev pub Avoid : List A → List (Group A W) → Type 0
  Avoid p = All (λ g. inside same g.1 p ≡ false)

  abbrev pub Separate : List (Group A W) → Type 0
  Separate [] = Unit {0}
  Separate (g ∷ gs) = ((p : List A) → inside same g.1 p ≡ true → Avoid p gs) × Separate gs

  -- a group that is popped has no empty point
  pop-avoid : (ok : W → Bool) → ok empty ≡ false → (f : Map A W) (p : List A) → f p ≡ empty → OnSome (λ g. inside same g.1 p ≡ false) (pop eq ok Ds f)
  pop-avoid ok z f p e = OnSome-map (λ g h. go g h (inside same g.1 p) refl) (pop eq ok Ds f) (pop-agree exact ok Ds f)
    where
      go : (g : Group A W) → (agree eq g.0 g.1 f ≡ true) × (ok g.0 ≡ true) → (b : Bool) → inside same g.1 p ≡ b → inside same g.1 p ≡ false
      go g h true i =
          let v : f p ≡ g.0 = agree-inside exact Exact-same g.0 g.1 f p h.0 i in
          absurd (true≢false (sym h.1 ∙ ap ok (sym v ∙ e) ∙ z))
      go g h false i = i

  cleared : (S : Set A) (f : Map A W) (p : List A) (b : Bool) → inside same S p ≡ b → (b ≡ false → f p ≡ empty) → clear same empty S f p ≡ empty
  cleared S f p true i e = clear-value same empty S f p ∙ ap (λ b. cond b empty (f p)) i
  cleared S f p false i e = clear-value same empty S f p ∙ ap (λ b. cond b empty (f p)) i ∙ e refl

  sweep-avoid : (n : ℕ) (ok : W → Bool) → ok empty ≡ false → (f : Map A W) (p : List A) → f p ≡ empty
      → Avoid p (sweep_for eq same empty n ok Ds f).0 × ((sweep_for eq same empty n ok Ds f).1 p ≡ empty)
  unfolding sweep_for take_out
  sweep-avoid zero ok z f p e = (tt, e)
  sweep-avoid (suc n) ok z f p e = go (pop eq ok Ds f) (pop-avoid ok z f p e) (λ f'. sweep-avoid n ok z f' p)
    where
      go : (o : Option (Group A W)) → OnSome (λ g. inside same g.1 p ≡ false) o
          → ((f' : Map A W) → f' p ≡ empty → Avoid p (sweep_for eq same empty n ok Ds f').0 × ((sweep_for eq same empty n ok Ds f').1 p ≡ empty))
          → Avoid p (take_out eq same empty f (λ f'. sweep_for eq same empty n ok Ds f') o).0
          × ((take_out eq same empty f (λ f'. sweep_for eq same empty n ok Ds f') o).1 p ≡ empty)
      go none h ih = (tt, e)
      go (some g) h ih = let k = ih (clear same empty g.1 f) (cleared g.1 f p (inside same g.1 p) refl (λ i. e)) in ((h, k.0), k.1)

  groups-avoid : (oks : List (W → Bool)) → All (λ ok. ok empty ≡ false) oks → (f : Map A W) (p : List A) → f p ≡ empty → Avoid p (groups eq same empty oks Ds f)
  unfolding groups sweep
  groups-avoid [] z f p e = tt
  groups-avoid (ok ∷ oks) z f p e =
      let k = sweep-avoid (size Ds) ok z.0 f p e in
      All-append _ (sweep eq same empty ok Ds f).0 _ k.0 (groups-avoid oks z.1 (sweep eq same empty ok Ds f).1 p k.1)

  sweep-separate : (n : ℕ) (ok : W → Bool) → ok empty ≡ false → (f : Map A W) (hs : List (Group A W)) → Separate hs
      → ((p : List A) → (sweep_for eq same empty n ok Ds f).1 p ≡ empty → Avoid p hs) → Separate ((sweep_for eq same empty n ok Ds f).0 ++ hs)
  unfolding sweep_for take_out
  sweep-separate zero ok z f hs s a = s
  sweep-separate (suc n) ok z f hs s a = go (pop eq ok Ds f) a (λ f'. sweep-separate n ok z f' hs s)
    where
      go : (o : Option (Group A W)) → ((p : List A) → (take_out eq same empty f (λ f'. sweep_for eq same empty n ok Ds f') o).1 p ≡ empty → Avoid p hs)
          → ((f' : Map A W) → ((p : List A) → (sweep_for eq same empty n ok Ds f').1 p ≡ empty → Avoid p hs)
          → Separate ((sweep_for eq same empty n ok Ds f').0 ++ hs))
          → Separate ((take_out eq same empty f (λ f'. sweep_for eq same empty n ok Ds f') o).0 ++ hs)
      go none b ih = s
      go (some g) b ih = (
        λ p i. let k = sweep-avoid n ok z (clear same empty g.1 f) p (cleared g.1 f p true i (λ q. absurd (true≢false q))) in
            All-append _ (sweep_for eq same empty n ok Ds (clear same empty g.1 f)).0 hs k.0 (b p k.1),
        ih (clear same empty g.1 f) b,
      )

  pub groups-separate : (oks : List (W → Bool)) → All (λ ok. ok empty ≡ false) oks → (f : Map A W) → Separate (groups eq same empty oks Ds f)
  unfolding groups sweep
  groups-separate [] z f = tt
  groups-separate (ok ∷ oks) z f =
      sweep-separate (size Ds) ok z.0 f (groups eq same empty oks Ds (sweep eq same empty ok Ds f).1)
      (groups-separate oks z.1 (sweep eq same empty ok Ds f).1) (groups-avoid oks z.1 (sweep eq same empty ok Ds f).1)
