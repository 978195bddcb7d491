-- Entries cleared and numbers marked, one after the other. Rests on the laws of stores into lists.
use mathlib.Core.Path.{◌≡◌, refl, sym, ◌∙◌}
use mathlib.Core.List.{List}
use mathlib.Core.Logic.{◌⊎◌, inl, inr}
use Prim.Native.Nat.{ℕ, ◌+◌, ◌≤◌, ◌<◌}
use native.Mathlib.Omega.{arith}
use lib.ListN.{length, get_or, set, get_or-eq_default}
use lib.Seq.{get_or-set_same, get_or-set_other}
use borrow.Author.Count.{below_more}
use Rattle.laws.proofs.Numbers.{at_most}
use Rattle.laws.proofs.Stores.{set-each}
use Rattle.list_reclaim.specs.Reclaim.{Marked}

-- ## Entries cleared
pub zeros-more : (s : List ℕ) (k : ℕ) → k < length s → ((j : ℕ) → j < k → get_or s j 0 ≡ 0) → (j : ℕ) → j < k + 1 → get_or (set s k 0) j 0 ≡ 0
zeros-more s k h z = below_more (λ j. get_or (set s k 0) j 0 ≡ 0) k (λ j l. get_or-set_other s k j 0 0 (omega arith) ∙ z j l) (get_or-set_same s k 0 0 h)

pub zeros-all : (s : List ℕ) (k : ℕ) → length s ≤ k → ((j : ℕ) → j < k → get_or s j 0 ≡ 0) → (j : ℕ) → get_or s j 0 ≡ 0
zeros-all s k h z j = go (at_most k j)
  where
    go : (k ≤ j) ⊎ (j < k) → get_or s j 0 ≡ 0
    go (inl a) = get_or-eq_default s 0 (omega arith)
    go (inr a) = z j a

-- ## Numbers marked
pub marked-none : (cells memo : List ℕ) → Marked cells memo memo 0
marked-none cells memo = record { yes = λ box l. absurd (omega arith); only = λ k ne. absurd (ne refl) }

pub marked_more : (cells memo memo' : List ℕ) (box number : ℕ) → number ≡ get_or cells box 0 → number < length memo' → Marked cells memo memo' box → Marked cells memo (set memo' number 1) (box + 1)
marked_more cells memo memo' box number e h m = record {
  yes = below_more (λ b. get_or (set memo' number 1) (get_or cells b 0) 0 ≡ 1) box (λ b l. still (get_or cells b 0) (m.yes b l)) (rw (← e) (get_or-set_same memo' number 1 0 h));
  only = set-each (λ k v. (v ≡ get_or memo k 0 → ⊥) → (b : ℕ) × (b < box + 1) × (get_or cells b 0 ≡ k)) memo' number 1 0 h
      (λ _. (box, omega arith, sym e)) (λ k _ ne. let q = m.only k ne in (q.0, omega (arith, q.1), q.2));
}
  where
    still : (k : ℕ) → get_or memo' k 0 ≡ 1 → get_or (set memo' number 1) k 0 ≡ 1
    still = set-each (λ k v. get_or memo' k 0 ≡ 1 → v ≡ 1) memo' number 1 0 h (λ _. refl) (λ k _ q. q)
