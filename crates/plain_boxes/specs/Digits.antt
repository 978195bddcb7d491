-- The digits of a box's number: in each dimension the number of the box's interval.
use Rattle.std.specs.Prelude.{List, [], ◌∷◌, ℕ, zero, suc, ◌/◌, ◌%◌, get_or}
use Rattle.paving.specs.Grid.{size_of}

-- in dimension i, of which each interval has so many boxes in the later dimensions
unfoldable pub digit_of : List ℕ → ℕ → ℕ → ℕ
digit_of sizes box i = box / size_of sizes i % get_or sizes i 0

-- in the last l dimensions, the first of them first
unfoldable pub digits : List ℕ → ℕ → ℕ → List ℕ
digits sizes zero box = []
digits sizes (suc i) box = digit_of sizes box i ∷ digits sizes i box
