-- The tests of equality are exact. Rests on the flags' laws.
use mathlib.Core.Path.{◌≡◌, refl, ap, ap₂, ◌∙◌}
use mathlib.Core.List.{List, [], ◌∷◌}
use mathlib.Core.Option.{Option, none, some}
use mathlib.Core.Bool.{Bool, true, false, false≢true}
use lib.Dec.{eqb}
use borrow.Author.Tests.{eqb-true, eq-eqb}
use Rattle.laws.specs.Tests.{Exact, same_list, same_pair, same_option, same_flag}
use Rattle.laws.proofs.Flags.{split-and, both-and, same_flag_lem}

-- an exact test goes both ways
pub exact-swap : {A : Type 0} {same : A → A → Bool} → Exact same → (x y : A) → same x y ≡ same y x
exact-swap {A} {same} h x y = same_flag_lem (same x y) (same y x)
    (λ e. ap (same y) (h.equal x y e) ∙ h.self y)
    (λ e. ap (same x) (h.equal y x e) ∙ h.self x)

pub exact-eqb : Exact eqb
exact-eqb = record { self = λ n. eq-eqb n n refl; equal = eqb-true }

pub exact-list : {A : Type 0} {same : A → A → Bool} → Exact same → Exact (same_list same)
unfolding same_list
exact-list {A} {same} k = record { self = s; equal = e }
  where
    s : (x : List A) → same_list same x x ≡ true
    s [] = refl
    s (x ∷ xs) = rw (k.self x) (s xs)

    e : (x y : List A) → same_list same x y ≡ true → x ≡ y
    e [] [] h = refl
    e [] (y ∷ ys) h = absurd (false≢true h)
    e (x ∷ xs) [] h = absurd (false≢true h)
    e (x ∷ xs) (y ∷ ys) h = let p = split-and (same x y) (same_list same xs ys) h in ap₂ ◌∷◌ (k.equal x y p.0) (e xs ys p.1)

pub exact-pair : {A B : Type 0} {f : A → A → Bool} {g : B → B → Bool} → Exact f → Exact g → Exact (same_pair f g)
exact-pair {f} {g} k l = record {
  self = λ p. both-and (f p.0 p.0) (g p.1 p.1) (k.self p.0) (l.self p.1);
  equal = λ p q h. let e = split-and (f p.0 q.0) (g p.1 q.1) h in λ i. (k.equal p.0 q.0 e.0 i, l.equal p.1 q.1 e.1 i);
}

pub exact-option : {A : Type 0} {same : A → A → Bool} → Exact same → Exact (same_option same)
unfolding same_option
exact-option {A} {same} k = record { self = s; equal = e }
  where
    s : (x : Option A) → same_option same x x ≡ true
    s none = refl
    s (some x) = k.self x

    e : (x y : Option A) → same_option same x y ≡ true → x ≡ y
    e none none h = refl
    e none (some y) h = absurd (false≢true h)
    e (some x) none h = absurd (false≢true h)
    e (some x) (some y) h = ap some (k.equal x y h)

pub exact-flag : Exact same_flag
exact-flag = record { self = s; equal = e }
  where
    s : (x : Bool) → same_flag x x ≡ true
    s true = refl
    s false = refl

    e : (x y : Bool) → same_flag x y ≡ true → x ≡ y
    e true true h = refl
    e true false h = absurd (false≢true h)
    e false true h = absurd (false≢true h)
    e false false h = refl
