-- The plain map from boxes to lists of rules' numbers, and what a rule does to it: what each way of keeping lists is measured by.
use Rattle.std.specs.Prelude.{Bool, ◌&&◌, cond, List, [], ◌∷◌, ◌++◌, ℕ, leb, length}
use Rattle.laws.specs.Lists.{from, any_of}
use Rattle.tables.specs.Sizes.{list_limit}

-- the list at whose end a rule is put: the empty one, where it replaces
unfoldable pub base : Bool → List ℕ → List ℕ
base replaces l = cond replaces [] l

-- the map after a rule that covers some boxes
unfoldable pub plain_step : Bool → ℕ → (ℕ → Bool) → (ℕ → List ℕ) → ℕ → List ℕ
plain_step replaces rule covered f box = cond (covered box) (base replaces (f box) ++ (rule ∷ [])) (f box)

-- has a box's list no room for the rule?
unfoldable pub overfull : Bool → (ℕ → Bool) → (ℕ → List ℕ) → ℕ → Bool
overfull replaces covered f box = covered box && leb list_limit (length (base replaces (f box)))

-- is it so at one of the first n boxes?
unfoldable pub some_overfull : Bool → (ℕ → Bool) → (ℕ → List ℕ) → ℕ → Bool
some_overfull replaces covered f n = any_of (overfull replaces covered f) (from 0 n)
