-- The different lists of some boxes, each named by a box that has it.
use Rattle.std.specs.Prelude.{◌≡◌, true, List, ℕ, ◌<◌, get_or}
use Rattle.laws.specs.Lists.{filled}
use Rattle.tables.specs.Lists.{list_of}

-- the list that kind k names
unfoldable pub kind_of : List ℕ → List ℕ → ℕ → List ℕ
kind_of lists kinds k = list_of lists (get_or kinds k 0)

-- so many kinds name all lists of the first boxes but the empty one, each once
pub record Kinds (lists kinds : List ℕ) (count boxes : ℕ) : Type 0 where
  pub names : (k : ℕ) → k < count → get_or kinds k 0 < boxes
  pub some : (k : ℕ) → k < count → filled (kind_of lists kinds k) ≡ true
  pub apart : (j k : ℕ) → j < count → k < count → kind_of lists kinds j ≡ kind_of lists kinds k → j ≡ k
  pub placed : (box : ℕ) → box < boxes → filled (list_of lists box) ≡ true → (k : ℕ) × (k < count) × (list_of lists box ≡ kind_of lists kinds k)
