-- Tests of equality that compute, for lists, pairs, options and flags.
use Rattle.std.specs.Prelude.{◌≡◌, List, [], ◌∷◌, Bool, true, false, ◌&&◌, not}
use Rattle.std.proofs.Math.Option.{Option, none, some}

-- the test is true of equal things, and of no others
pub record Exact {A : Type 0} (same : A → A → Bool) : Type 0 where
  pub self : (x : A) → same x x ≡ true
  pub equal : (x y : A) → same x y ≡ true → x ≡ y

unfoldable pub same_list : {A : Type 0} → (A → A → Bool) → List A → List A → Bool
same_list same [] [] = true
same_list same [] (y ∷ ys) = false
same_list same (x ∷ xs) [] = false
same_list same (x ∷ xs) (y ∷ ys) = same x y && same_list same xs ys

abbrev pub same_pair : {A B : Type 0} → (A → A → Bool) → (B → B → Bool) → A × B → A × B → Bool
same_pair f g p q = f p.0 q.0 && g p.1 q.1

unfoldable pub same_option : {A : Type 0} → (A → A → Bool) → Option A → Option A → Bool
same_option same none none = true
same_option same none (some y) = false
same_option same (some x) none = false
same_option same (some x) (some y) = same x y

abbrev pub same_flag : Bool → Bool → Bool
same_flag true b = b
same_flag false b = not b
