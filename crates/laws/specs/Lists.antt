-- Lists: the words that the definitions and their laws share. No word of the domain stands here.
use Rattle.std.specs.Prelude.{List, [], ◌∷◌, map, Bool, true, false, ◌&&◌, ◌||◌, cond, ◌⊎◌, ◌≡◌, ℕ, zero, suc, ◌+◌, ◌≤◌, ◌<◌, length, get_or}
use Rattle.std.proofs.Math.Option
use Rattle.std.proofs.Math.Option.{Option, none, some}
use Rattle.std.proofs.Math.ListN.{get_elem?}

-- n numbers from s on
unfoldable pub from : ℕ → ℕ → List ℕ
from s zero = []
from s (suc n) = s ∷ from (suc s) n

-- the first answer along a list
unfoldable pub first_of : {A B : Type 0} → (A → Option B) → List A → Option B
first_of h [] = none
first_of h (x ∷ xs) = elim (h x) [ none ↦ first_of h xs | some b ↦ some b ]

-- an answer where a test passes
abbrev pub only_if : {A : Type 0} → Bool → A → Option A
only_if true x = some x
only_if false x = none

-- does every element pass?
unfoldable pub every : {A : Type 0} → (A → Bool) → List A → Bool
every t [] = true
every t (x ∷ xs) = t x && every t xs

-- does some element pass?
unfoldable pub any_of : {A : Type 0} → (A → Bool) → List A → Bool
any_of t [] = false
any_of t (x ∷ xs) = t x || any_of t xs

-- does some pair of elements pass, the one that stands first put first?
unfoldable pub any_pair : {A : Type 0} → (A → A → Bool) → List A → Bool
any_pair t [] = false
any_pair t (x ∷ xs) = any_of (t x) xs || any_pair t xs

-- the index of the first element that passes
unfoldable pub first_index : {A : Type 0} → (A → Bool) → List A → Option ℕ
first_index t [] = none
first_index t (x ∷ xs) = elim (t x) [ true ↦ some 0 | false ↦ Option.map suc (first_index t xs) ]

-- how many elements pass
unfoldable pub count : {A : Type 0} → (A → Bool) → List A → ℕ
count t [] = 0
count t (x ∷ xs) = cond (t x) 1 0 + count t xs

-- the elements that pass, in order
unfoldable pub keep : {A : Type 0} → (A → Bool) → List A → List A
keep t [] = []
keep t (x ∷ xs) = elim (t x) [ true ↦ x ∷ keep t xs | false ↦ keep t xs ]

-- each element once, where it stands last
unfoldable pub distinct : {A : Type 0} → (A → A → Bool) → List A → List A
distinct same [] = []
distinct same (x ∷ xs) = cond (any_of (same x) xs) (distinct same xs) (x ∷ distinct same xs)

-- a number for each element, summed
unfoldable pub sum : {A : Type 0} → (A → ℕ) → List A → ℕ
sum h [] = 0
sum h (x ∷ xs) = h x + sum h xs

-- has the list an element?
abbrev pub filled : {A : Type 0} → List A → Bool
filled [] = false
filled (x ∷ xs) = true

-- a fact of every element
abbrev pub All : {A : Type 0} → (A → Type 0) → List A → Type 0
All P [] = Unit {0}
All P (x ∷ xs) = P x × All P xs

-- no two of the elements are the same
abbrev pub Distinct : {A : Type 0} → (A → A → Bool) → List A → Type 0
Distinct same [] = Unit {0}
Distinct same (x ∷ xs) = All (λ y. same y x ≡ false) xs × Distinct same xs

-- the element of index k passes; it fails, if there is one; it passes and none before it does
abbrev pub PassesAt : {A : Type 0} → (A → Bool) → List A → ℕ → Type 0
PassesAt {A} t xs k = (x : A) × (get_elem? xs k ≡ some x) × (t x ≡ true)

abbrev pub FailsAt : {A : Type 0} → (A → Bool) → List A → ℕ → Type 0
FailsAt {A} t xs k = (x : A) → get_elem? xs k ≡ some x → t x ≡ false

abbrev pub FirstAt : {A : Type 0} → (A → Bool) → List A → ℕ → Type 0
FirstAt t xs k = PassesAt t xs k × ((j : ℕ) → j < k → FailsAt t xs j)

-- numbers that rise, from s on and below n
abbrev pub Rises : ℕ → ℕ → List ℕ → Type 0
Rises s n [] = Unit {0}
Rises s n (k ∷ ks) = (s ≤ k) × (k < n) × Rises (suc k) n ks

-- some elements of xs, none twice, in their order: those of rising indexes
abbrev pub InTurn : {A : Type 0} → A → List A → List A → Type 0
InTurn d xs l = (ks : List ℕ) × Rises 0 (length xs) ks × (l ≡ map (λ k. get_or xs k d) ks)

-- an element of the list
unfoldable pub Mem : {A : Type 0} → A → List A → Type 0
Mem x [] = ⊥
Mem x (y ∷ ys) = (x ≡ y) ⊎ Mem x ys

-- a list that has an element
abbrev pub Filled : {A : Type 0} → List A → Type 0
Filled [] = ⊥
Filled (x ∷ xs) = Unit {0}

-- a fact of the answer, where there is one; and one that holds where there is none
abbrev pub OnSome : {A : Type 0} → (A → Type 0) → Option A → Type 0
OnSome P none = Unit {0}
OnSome P (some x) = P x

abbrev pub OnNone : {A : Type 0} → Type 0 → Option A → Type 0
OnNone P none = P
OnNone P (some x) = Unit {0}
