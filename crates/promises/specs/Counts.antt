-- Demand 2: the numbers of an accepted fold are counts over its rules, and what it wrote is the folded rules, then the rules left; a refused
-- fold counts nothing and writes nothing; the same of writing back and of the line, which is printable ASCII. 01: "Two accepted folds with
-- the same drained rules have the same folded rules, whichever rules are left in each."
use Rattle.std.specs.Prelude.{◌≡◌, List, [], ◌++◌, ℕ, ◌+◌, ◌≤◌, ◌<◌, length}
use Rattle.laws.specs.Lists.{All}
use Rattle.definition.specs.Rule.{Rule}
use Rattle.definition.specs.Sheet.{Form, Limits, encode}
use Rattle.definition.specs.Stop.{drained, left, why}
use Rattle.definition.specs.Group.{folded}
use Rattle.definition.specs.Fold.{Folded, Written, fold, write_back}
use Rattle.definition.specs.Line.{line}
use Rattle.definition.specs.Show.{show_line}
use Rattle.promises.specs.Conditions.{Accepted}

-- the rules of the sheet are rs
pub record Counted (form : Form) (limits : Limits) (rs : List Rule) (f : Folded) : Type 0 where
  pub drained-counted : f.drained ≡ length (drained rs)
  pub left-counted : f.left ≡ length (left rs)
  pub all-counted : f.drained + f.left ≡ length rs
  pub emitted-counted : f.emitted ≡ length (folded (drained rs))
  pub why-told : f.why ≡ why rs
  pub written : f.result ≡ encode form limits (folded (drained rs) ++ left rs)
  pub bytes_counted : f.bytes ≡ length f.result

pub record Nothing (f : Folded) : Type 0 where
  pub none-drained : f.drained ≡ 0
  pub none_emitted : f.emitted ≡ 0
  pub none_left : f.left ≡ 0
  pub no-reason : f.why ≡ 0
  pub no_bytes : f.bytes ≡ 0
  pub none_written : f.result ≡ []

-- one page of folded rules for two sheets, whose rules are rs and qs
pub record SamePage (form : Form) (limits : Limits) (rs qs : List Rule) (f g : Folded) : Type 0 where
  pub page : List Rule
  pub first-emitted : f.emitted ≡ length page
  pub second-emitted : g.emitted ≡ length page
  pub first-written : f.result ≡ encode form limits (page ++ left rs)
  pub second-written : g.result ≡ encode form limits (page ++ left qs)

-- ## THE STATEMENTS
-- an accepted sheet of bytes is written back as it came; a refused one isn't written
abbrev pub BackWrites : Form → Limits → ℕ → List ℕ → Type 0
BackWrites form limits room sheet = (write_back form limits room sheet).code ≡ 0 → All (λ b. b < 256) sheet
    → ((write_back form limits room sheet).result ≡ sheet) × ((write_back form limits room sheet).bytes ≡ length sheet)

-- "refused, bytes written is 0 and the buffer is untouched"
abbrev pub NothingWritten : Written → Type 0
NothingWritten w = (w.code ≡ 0 → ⊥) → (w.bytes ≡ 0) × (w.result ≡ [])

abbrev pub BackNothing : Form → Limits → ℕ → List ℕ → Type 0
BackNothing form limits room sheet = NothingWritten (write_back form limits room sheet)

-- an accepted sheet is written as the line of its rules, in bytes from 32 to 126 where comments have 24 bits at most; a refused one isn't written
abbrev pub LineWrites : Form → Limits → ℕ → List ℕ → Type 0
LineWrites form limits room sheet = (show_line form limits room sheet).code ≡ 0
    → (rs : List Rule) × Accepted form limits sheet rs × ((show_line form limits room sheet).result ≡ line.write rs) × ((show_line form limits room sheet).bytes ≡ length (line.write rs))

abbrev pub LinePrintable : Form → Limits → ℕ → List ℕ → Type 0
LinePrintable form limits room sheet = form.comment ≤ 24 → (show_line form limits room sheet).code ≡ 0 → All (λ b. b < 256) sheet
    → All (λ b. (32 ≤ b) × (b ≤ 126)) (show_line form limits room sheet).result

abbrev pub LineNothing : Form → Limits → ℕ → List ℕ → Type 0
LineNothing form limits room sheet = NothingWritten (show_line form limits room sheet)

module _ (form : Form) (limits : Limits) (room : ℕ) (sheet : List ℕ) where
  abbrev pub AcceptedCounts : Type 0
  AcceptedCounts = (fold form limits room sheet).code ≡ 0
      → (rs : List Rule) × Accepted form limits sheet rs × Counted form limits rs (fold form limits room sheet) × ((fold form limits room sheet).bytes ≤ room)

  abbrev pub RefusedNothing : Type 0
  RefusedNothing = ((fold form limits room sheet).code ≡ 0 → ⊥) → Nothing (fold form limits room sheet)

  abbrev pub SameFolded : (place : ℕ) (other : List ℕ) → Type 0
  SameFolded place other = (fold form limits room sheet).code ≡ 0 → (fold form limits place other).code ≡ 0
      → (rs qs : List Rule) → Accepted form limits sheet rs → Accepted form limits other qs → drained rs ≡ drained qs
      → SamePage form limits rs qs (fold form limits room sheet) (fold form limits place other)
