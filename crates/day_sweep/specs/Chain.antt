-- The chain through the intervals of a day: from each one to the next whose state falls into the same bucket.
use Rattle.std.specs.Prelude.{◌≡◌, List, ℕ, ◌+◌, ◌<◌, ◌≤◌, ◌%◌, get_or}
use Rattle.codes.specs.Number.{closed_number}

-- how many buckets there are
abbrev pub bucket_limit : ℕ
bucket_limit = 64

-- stands where a bucket has no interval: more than there are
abbrev pub no_interval : ℕ
no_interval = 65535

abbrev pub bucket_of : ℕ → ℕ
bucket_of S = S % 64

-- p is the first of n intervals, from one on, whose state is in the bucket b; or past them
pub record NextIn (cells : List ℕ) (n from b p : ℕ) : Type 0 where
  pub onward : from ≤ p
  pub passes : (k : ℕ) → from ≤ k → k < n → k < p → bucket_of (get_or cells k 0) ≡ b → ⊥
  pub leads : p < n → bucket_of (get_or cells p 0) ≡ b

-- the chain of intervals whose states were `first` when it was made; some are emptied since
pub record Linked (first chain cells : List ℕ) (n : ℕ) : Type 0 where
  pub links : (j : ℕ) → j < n → NextIn first n (j + 1) (bucket_of (get_or first j 0)) (get_or chain j 0)
  pub kept : (k : ℕ) → k < n → (get_or cells k 0 ≡ closed_number → ⊥) → get_or cells k 0 ≡ get_or first k 0

abbrev pub Chained : List ℕ → List ℕ → ℕ → Type 0
Chained chain cells n = (first : List ℕ) × Linked first chain cells n

-- chained, and an interval, if it is one, is in the bucket of a state
abbrev pub OnChain : List ℕ → List ℕ → ℕ → ℕ → ℕ → Type 0
OnChain chain cells n S i = (first : List ℕ) × Linked first chain cells n × (i < n → bucket_of (get_or first i 0) ≡ bucket_of S)
