-- 02, M-102: the plain engine "must answer as the first engine on every input, codes, places and bytes alike". "The equality is proved for any number of
-- intervals in each dimension, and not for one layout." Here: what either engine promises over tables and rows of cuts, whatever their sizes, and when two
-- answers are alike.
use Rattle.std.specs.Prelude.{◌≡◌, List, Result, Ok, Err, ℕ}
use Rattle.definition.specs.Rule.{Rule}
use Rattle.tables.specs.Pages.{paged_rules}
use Rattle.answers.specs.Refusal.{code_of}
use Rattle.answers.specs.declared.refusal.Refusal.{Refusal}
use Rattle.tables.specs.declared.lent.Cuts.{Cuts}
use Rattle.tables.specs.declared.lent.DrainedRules.{DrainedRules}
use Rattle.tables.specs.ToDraw.{Lent}
use Rattle.paved.specs.Paved.{Paves}

-- an engine's answer, and its buffers of lists and of pages after the call
abbrev pub Engine : Type 0
Engine = Result ℕ Refusal × (List ℕ × List ℕ)

module _ (rules : DrainedRules) (cuts : Cuts) where
  -- the contract of `columns::pave`, and of `plain::pave`
  abbrev pub PavePromise : Engine → Type 0
  PavePromise x = (rs : List Rule) → Lent rules cuts rs → Paves rules.states.now rules.span_counts.now rules.spans.now x.1.0 x.1.1 rs x.0

module _ (states counts spans : List ℕ) where
  -- the same refusal, code and rule; or pages of the same rules, in the same order
  abbrev pub Alike : Engine → Engine → Type 0
  Alike (Err r, l) (Err s, m) = (code_of r.reason ≡ code_of s.reason) × (r.place ≡ s.place)
  Alike (Err r, l) (Ok m, k) = ⊥
  Alike (Ok n, l) (Err s, m) = ⊥
  Alike (Ok n, l) (Ok m, k) = paged_rules states counts spans l.0 l.1 n ≡ paged_rules states counts spans k.0 k.1 m
