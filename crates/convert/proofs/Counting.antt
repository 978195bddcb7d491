-- Five counts that were read, as a row of four and a number, which is how the writer of counts takes them.
use mathlib.Core.Path.{◌≡◌, sym, ◌∙◌}
use mathlib.Core.List.{[], ◌∷◌}
use Prim.Native.Nat.{ℕ, zero, suc, ◌≤◌, ◌<◌}
use native.Mathlib.Omega.{arith}
use lib.ListN.{get_or}
use Rattle.definition.specs.Field.{Read, got}
use Rattle.definition.specs.Sheet.{Counts}

-- what is read is read once
pub read-once : {read : Read Counts} (m n : Counts) (p q : ℕ) → read ≡ got m p → read ≡ got n q → m ≡ n
read-once m n p q e f = let g : ◌≡◌ {A = Read Counts} (got m p) (got n q) = sym e ∙ f in let same : m ≡ n = cc in same

pub row-few : (most a b c d : ℕ) → a ≤ most → b ≤ most → c ≤ most → d ≤ most → (sort : ℕ) → sort < 4 → get_or (a ∷ b ∷ c ∷ d ∷ []) sort 0 ≤ most
row-few most a b c d p q r s zero l = p
row-few most a b c d p q r s (suc zero) l = q
row-few most a b c d p q r s (suc (suc zero)) l = r
row-few most a b c d p q r s (suc (suc (suc zero))) l = s
row-few most a b c d p q r s (suc (suc (suc (suc sort)))) l = absurd (omega arith)
