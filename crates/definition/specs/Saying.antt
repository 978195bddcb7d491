-- What rules say at a point and minute, which a fold must not change (docs/PROMISES.md, demand 3): the last covering span decides, plain
-- Closed where none covers. Which minutes a non-simple span covers only the day can tell, so it is said for any choice, one for equal spans.
use Rattle.std.specs.Prelude.{◌≡◌, List, map, Bool, true, ℕ}
use Rattle.definition.specs.Rule.{State, closed, Span, Rule}
use Rattle.definition.specs.Point.{list_at}
use Rattle.definition.specs.Day.{entry_of, flattened, simple, within, last_over}

-- the minutes that spans cover: of a simple span its own, of any other whatever the day brings
pub record Cover : Type 0 where
  pub covers : Span → ℕ → Bool
  pub on_simple : (s : Span) → simple s ≡ true → (m : ℕ) → covers s m ≡ within s m

unfoldable pub says : Cover → List Rule → List ℕ → ℕ → State
says c rs p m = last_over c.covers closed (flattened (map entry_of (list_at rs p))) m
