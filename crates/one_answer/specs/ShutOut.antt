-- 01, "How firm the promises are": "Programs to be shut out". A program is run with one buffer of 65,536 bytes, on any sheet of form 1; it is held
-- to the fold's promise at the worked days only, so the less a program has to keep, the more is shut out. "One that invents drained, emitted, left
-- or bytes" is shut out by specs/Meaning, where these numbers are counts, for every sheet.
use Rattle.std.specs.Prelude.{◌≡◌, ℕ, ◌≤◌, length, take}
use mathlib.Core.List.{List, flat_map}
use Rattle.laws.specs.Lists.{All}
use Rattle.definition.specs.Rule.{Rule}
use Rattle.definition.specs.Sheet.{form1, sheet_limits}
use Rattle.definition.specs.Stop.{drained}
use Rattle.definition.specs.Group.{pages, rules_of}
use Rattle.definition.specs.Fold.{buffer}
use Rattle.definition.specs.Worked.{cases}
use Rattle.answers.specs.declared.Folded.{Folded}
use Rattle.promises.specs.Conditions.{Accepted}
use Rattle.one_answer.specs.Promise.{FoldPromise}

-- what a program makes of a sheet: its answer, and the buffer after the call
abbrev pub Program : Type 0
Program = List ℕ → Folded × List ℕ

module _ (program : Program) where
  -- the fold's promise, at the worked days
  abbrev pub KeepsPromise : (out : List ℕ) → Type 0
  KeepsPromise out = All (λ c. FoldPromise 1 c.sheet out (program c.sheet)) cases

  -- ## The programs
  -- "one that refuses all"
  abbrev pub RefusesAll : Type 0
  RefusesAll = (sheet : List ℕ) → (program sheet).0.code ≡ 0 → ⊥

  -- "one fixed answer"
  abbrev pub OneFixedAnswer : Type 0
  OneFixedAnswer = (sheet other : List ℕ) → (program sheet).0 ≡ (program other).0

  -- "the sheet copied as it came with nothing drained": one that copies, whatever it answers, and one that drains nothing, whatever it writes
  abbrev pub CopiesSheet : (out : List ℕ) → Type 0
  CopiesSheet out = (sheet : List ℕ) → (program sheet).1 ≡ buffer sheet out

  abbrev pub DrainsNothing : Type 0
  DrainsNothing = (sheet : List ℕ) → (program sheet).0.drained ≡ 0

  -- "one that folds the first rule or group and copies the rest": one that drains a rule at most, and one that emits no more rules than
  -- the first group has
  abbrev pub FirstRuleOnly : Type 0
  FirstRuleOnly = (sheet : List ℕ) → (program sheet).0.drained ≤ 1

  abbrev pub FirstGroupOnly : Type 0
  FirstGroupOnly = (sheet : List ℕ) (rs : List Rule) → Accepted form1 sheet_limits sheet rs
      → (program sheet).0.emitted ≤ length (flat_map rules_of (take 1 (pages (drained rs))))
