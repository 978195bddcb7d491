-- How many points the groups take: all of them together no more than there are. Where each popped group weighs no more than the points that
-- it empties, all groups weigh no more than the points. Rests on the popped groups' laws.
use mathlib.Core.Path.{◌≡◌, refl, sym, ap, ◌∙◌, subst}
use mathlib.Core.List.{List, [], ◌∷◌}
use mathlib.Core.Option.{Option, none, some}
use mathlib.Core.Bool.{Bool, true, false, not, cond, true≢false}
use Prim.Native.Nat.{ℕ, zero, suc, ◌+◌, ◌*◌, ◌≤◌}
use native.Mathlib.Omega.{arith}
use lib.ListN.{length}
use Rattle.laws.specs.Lists.{every, any_of, keep, sum, All, Mem, OnSome}
use Rattle.laws.specs.Tests.{Exact}
use Rattle.laws.proofs.Flags.{not-true}
use Rattle.laws.proofs.Lists.{Mem-keep, Mem-any, Mem-All, every-at, sum-append}
use Rattle.grid.specs.Group.{Set, Map, at, Group, size, agree, pop, clear, take_out, sweep_for, sweep, groups}
use Rattle.grid.proofs.Part.{Part, pop-part}
use Rattle.grid.proofs.Value.{tally, tally-size, clear-le, pop-agree}

module _ {A W : Type 0} {eq : W → W → Bool} (exact : Exact eq) {same : A → A → Bool} (Exact-same : Exact same) (empty : W) where
  -- ## Emptying a set of one value takes its points
  module _ (t : W → Bool) (unmatched : t empty ≡ false) (v : W) (matched : t v ≡ true) where
    set-taken : (Ds S : Set A) (f : Map A W) → Part Ds S → agree eq v S f ≡ true → size S + tally t Ds (clear same empty S f) ≤ tally t Ds f
    unfolding size tally clear agree
    set-taken [] [] f p a = rw (unmatched, ap t (exact.equal (f []) v a) ∙ matched) (omega arith)
    set-taken [] (E ∷ S) f p a = absurd p
    set-taken (D ∷ Ds) [] f p a = absurd p
    set-taken (D ∷ Ds) (E ∷ S) f p a =
        subst (λ F. length F * size S + sum (λ x. tally t Ds (at (clear same empty (F ∷ S) f) x)) D ≤ sum (λ x. tally t Ds (at f x)) D) (sym p.0.1)
        (along D (Mem-All (λ x. Mem x D) D (λ x m. m)) (λ x. set-taken Ds S (at f x) p.1))
      where
        kept : A → Bool
        kept = p.0.0

        K : List A
        K = keep kept D

        all-agree : every (λ x. agree eq v S (at f x)) K ≡ true
        all-agree = ap (every (λ x. agree eq v S (at f x))) (sym p.0.1) ∙ a

        after : A → ℕ
        after x = tally t Ds (cond (any_of (same x) K) (clear same empty S (at f x)) (at f x))

        Lowers : A → Type 0
        Lowers x = agree eq v S (at f x) ≡ true → size S + tally t Ds (clear same empty S (at f x)) ≤ tally t Ds (at f x)

        one : (x : A) → Mem x D → Lowers x → (b : Bool) → kept x ≡ b → cond b (size S) 0 + after x ≤ tally t Ds (at f x)
        one x m ih true e =
            let here : any_of (same x) K ≡ true = Mem-any Exact-same x K (Mem-keep kept x D m e) in
            rw here (ih (every-at (λ y. agree eq v S (at f y) ≡ true) (λ y. agree eq v S (at f y)) same x
            (λ y s q. subst (λ z. agree eq v S (at f z) ≡ true) (sym (Exact-same.equal x y s)) q) K all-agree here))
        one x m ih false e = pick (any_of (same x) K)
          where
            pick : (b : Bool) → 0 + tally t Ds (cond b (clear same empty S (at f x)) (at f x)) ≤ tally t Ds (at f x)
            pick true = omega (arith, clear-le same empty t unmatched Ds S (at f x))
            pick false = omega arith

        along : (R : List A) → All (λ x. Mem x D) R → ((x : A) → Lowers x) → length (keep kept R) * size S + sum after R ≤ sum (λ x. tally t Ds (at f x)) R
        along [] ms ih = unfold keep sum in omega arith
        along (x ∷ R) ms ih = go (kept x) refl (along R ms.1 ih)
          where
            go : (b : Bool) → kept x ≡ b → length (keep kept R) * size S + sum after R ≤ sum (λ x. tally t Ds (at f x)) R
                → length (keep kept (x ∷ R)) * size S + sum after (x ∷ R) ≤ sum (λ x. tally t Ds (at f x)) (x ∷ R)
            go true e k = unfold keep sum in rw (e, keep) (omega (arith, k, one x ms.0 (ih x) true e))
            go false e k = unfold keep sum in rw (e, keep) (omega (arith, k, one x ms.0 (ih x) false e))

  -- ## Class after class
  -- the values that are not empty
  abbrev pub full : W → Bool
  full v = not (eq v empty)

  pub matched-full : (ok : W → Bool) → ok empty ≡ false → (v : W) → ok v ≡ true → full v ≡ true
  matched-full ok z v e = rw (not-true (eq v empty) (λ h. true≢false (sym e ∙ ap ok (exact.equal v empty h) ∙ z)))

  pub empty-not-full : full empty ≡ false
  empty-not-full = rw (exact.self empty)

  module _ (Ds : Set A) where
    module _ (weight : Group A W → ℕ)
        (lowers : (ok : W → Bool) → ok empty ≡ false → (f : Map A W) → OnSome
        (λ g. weight g + tally full Ds (clear same empty g.1 f) ≤ tally full Ds f) (pop eq ok Ds f)) where
      sweep-weight : (n : ℕ) (ok : W → Bool) → ok empty ≡ false → (f : Map A W)
          → sum weight (sweep_for eq same empty n ok Ds f).0 + tally full Ds (sweep_for eq same empty n ok Ds f).1 ≤ tally full Ds f
      unfolding sweep_for take_out sum
      sweep-weight zero ok z f = omega arith
      sweep-weight (suc n) ok z f = go (pop eq ok Ds f) (lowers ok z f) (λ f'. sweep-weight n ok z f')
        where
          go : (o : Option (Group A W)) → OnSome (λ g. weight g + tally full Ds (clear same empty g.1 f) ≤ tally full Ds f) o
              → ((f' : Map A W) → sum weight (sweep_for eq same empty n ok Ds f').0 + tally full Ds (sweep_for eq same empty n ok Ds f').1 ≤ tally full Ds f')
              → sum weight (take_out eq same empty f (λ f'. sweep_for eq same empty n ok Ds f') o).0
              + tally full Ds (take_out eq same empty f (λ f'. sweep_for eq same empty n ok Ds f') o).1 ≤ tally full Ds f
          go none h ih = omega arith
          go (some g) h ih = omega (arith, h, ih (clear same empty g.1 f))

      groups-tally : (oks : List (W → Bool)) → All (λ ok. ok empty ≡ false) oks → (f : Map A W) → sum weight (groups eq same empty oks Ds f) ≤ tally full Ds f
      unfolding groups sweep
      groups-tally [] z f = unfold sum in omega arith
      groups-tally (ok ∷ oks) z f =
          omega (
            arith,
            sum-append weight (sweep eq same empty ok Ds f).0 (groups eq same empty oks Ds (sweep eq same empty ok Ds f).1),
            sweep-weight (size Ds) ok z.0 f,
            groups-tally oks z.1 (sweep eq same empty ok Ds f).1,
          )

      pub groups-weight : (oks : List (W → Bool)) → All (λ ok. ok empty ≡ false) oks → (f : Map A W) → sum weight (groups eq same empty oks Ds f) ≤ size Ds
      groups-weight oks z f = omega (arith, groups-tally oks z f, tally-size full Ds f)

    -- THE GROUPS' POINTS ARE NO MORE THAN ALL
    pub groups-size : (oks : List (W → Bool)) → All (λ ok. ok empty ≡ false) oks → (f : Map A W)
        → sum (λ g. size g.1) (groups eq same empty oks Ds f) ≤ size Ds
    groups-size = groups-weight (λ g. size g.1) taken
      where
        taken : (ok : W → Bool) → ok empty ≡ false → (f : Map A W)
            → OnSome (λ g. size g.1 + tally full Ds (clear same empty g.1 f) ≤ tally full Ds f) (pop eq ok Ds f)
        taken ok z f = go (pop eq ok Ds f) (pop-part eq ok Ds f) (pop-agree exact ok Ds f)
          where
            go : (o : Option (Group A W)) → OnSome (λ g. Part Ds g.1) o → OnSome (λ g. (agree eq g.0 g.1 f ≡ true) × (ok g.0 ≡ true)) o
                → OnSome (λ g. size g.1 + tally full Ds (clear same empty g.1 f) ≤ tally full Ds f) o
            go none p a = tt
            go (some g) p a = set-taken full empty-not-full g.0 (matched-full ok z g.0 a.1) Ds g.1 f p a.0
