-- A whole sheet: its rules one behind the other, where each begins, and what a check of the sheet answers.
use Rattle.std.specs.Prelude.{List, map, ℕ, zero, suc, ◌+◌, ◌*◌, ◌≤◌, ◌<◌, ◌^◌, length, get_or, set, Result, Ok, Err}
use Rattle.std.proofs.Math.Option.{Option, none, some}
use Rattle.laws.specs.Lists.{from}
use Rattle.definition.specs.Field.{Read, got, refused, and_then, sheet_bits}
use Rattle.definition.specs.Rule.{Rule}
use Rattle.definition.specs.Sheet.{Form, sheet_limits, counts, body, rule, opening, ended, decode}
use Rattle.answers.specs.Refusal.{code_of}
use Rattle.answers.specs.declared.refusal.Refusal.{Refusal}
use Rattle.sheet.specs.declared.check.Rules.{Rules}
use Rattle.sheet.specs.End.{End, ends, skip_all}
use Rattle.sheet.specs.Begin.{rule_read_at, Readable}

-- the place of a bit that is set, or the end
abbrev pub place_or : ℕ → Option ℕ → ℕ
place_or end none = end
place_or end (some p) = p

-- so many places are enough for the beginnings of all rules that begin within so many bytes: a rule takes 70 bits at least, and there are no more rules than
-- the limit
abbrev pub Places : ℕ → ℕ → Type 0
Places bytes places = (i : ℕ) → i < sheet_limits.rules → i * 70 ≤ 8 * bytes → i < places

abbrev pub as_checked : Result Rules Refusal → Read ℕ
as_checked (Ok r) = got r.count r.end
as_checked (Err r) = refused (code_of r.reason) r.place

module _ (form : Form) where
  -- behind a rule's title: its counts, and the items that they count
  unfoldable pub counted_ends : List ℕ → ℕ → End
  counted_ends s p = and_then (λ n q. ends ((body n).read s q)) ((counts form sheet_limits).read s p)

  abbrev pub rule_ends : List ℕ → ℕ → End
  rule_ends s p = ends ((rule form sheet_limits).read s p)

  -- the beginnings of n rules from p on, noted from place i on, up to the first that is refused
  unfoldable pub noted : List ℕ → ℕ → ℕ → ℕ → List ℕ → List ℕ
  noted s zero i p begins = begins
  noted s (suc n) i p begins = elim (rule_ends s p) [ got u q ↦ noted s n (i + 1) q (set begins i p) | refused c q ↦ set begins i p ]

  -- how many rules a sheet has and the bit after them, or its refusal
  unfoldable pub checked : List ℕ → Read ℕ
  checked sheet = and_then (λ rules q. got (length rules) q) (decode form sheet_limits sheet)

  -- the same from the first rule on: n rules, then zero bits, then nothing
  unfoldable pub checked_from : List ℕ → ℕ → ℕ → Read ℕ
  checked_from s n p = and_then (λ u q. got n q) (and_then (λ u q. ended s (tt {0}) q) (skip_all rule_ends n s p))

  -- the beginnings of a sheet's rules
  unfoldable pub begun : List ℕ → List ℕ → List ℕ
  begun sheet begins = elim ((opening form sheet_limits).read (sheet_bits sheet) 0) [ got n q ↦ noted (sheet_bits sheet) n 0 q begins | refused c q ↦ begins ]

  -- the rules at the first n of some beginnings
  unfoldable pub rules_at : List ℕ → List ℕ → ℕ → List Rule
  rules_at s begins n = map (λ k. rule_read_at form s (get_or begins k 0)) (from 0 n)

  -- a rule is read at each of the first n
  abbrev pub AllBegin : List ℕ → List ℕ → ℕ → Type 0
  AllBegin s begins n = (i : ℕ) → i < n → Readable form s (get_or begins i 0) × (get_or begins i 0 < 2 ^ 25)
