-- The group of a box, whatever the class that the box is the first one of; and one step of growing it.
use Rattle.std.specs.Prelude.{◌≡◌, true, List, ℕ, suc, ◌-◌, ◌/◌, get_or}
use Rattle.paving.specs.Grid.{size_of, width_of, in_class, NoneFrom, pop_at, good_at, paint, marked, answer}
use Rattle.std.proofs.Math.Option.{some}

-- where the marks of the last l of the four dimensions begin
unfoldable pub base_of : List ℕ → ℕ → ℕ
base_of sizes l = width_of sizes 4 - width_of sizes l

-- the marks with those of dimension i written anew: the intervals good for the value of the box `first`, in the block of the boxes that share its digits in
-- all earlier dimensions
unfoldable pub grown : List ℕ → List ℕ → ℕ → ℕ → List ℕ → List ℕ
grown cells sizes first i marks =
    paint (good_at cells sizes i (first / size_of sizes (suc i)) marks (base_of sizes (suc i)) (get_or cells first 0)) (base_of sizes (suc i)) 0 (get_or sizes i 0) marks

-- the marks `after` are `marks` with the group of the box `first` marked in the last l dimensions, from `base` on: for every class of which it is the first
-- box, the first group of the class below a node, whose value is the box's
unfoldable pub MarkedGroup : List ℕ → List ℕ → ℕ → ℕ → ℕ → ℕ → List ℕ → List ℕ → Type 0
MarkedGroup cells sizes first l node base marks after =
    (classes : List ℕ) (class : ℕ) → NoneFrom cells (in_class classes class) 0 first → in_class classes class (get_or cells first 0) ≡ true
    → (some (get_or cells first 0) ≡ answer (pop_at cells classes sizes class l node)) × (after ≡ marked sizes l base (pop_at cells classes sizes class l node) marks)
