-- Demand 3: what the fold wrote, drained by 01's rule, says at every point and minute the kind and comment that the drained rules of the
-- sheet said, for every choice, point by point, of the minutes that non-simple spans cover. Its drained rules form groups that share no
-- point; each opens with a Normal rule, its others are Additional, over the same days. The rules left are the sheet's.
use Rattle.std.specs.Prelude.{◌≡◌, Bool, true, false, not, ℕ, ◌<◌, eqb}
use mathlib.Core.List.{List, [], ◌∷◌, flat_map}
use Rattle.laws.specs.Lists.{any_of, All}
use Rattle.grid.specs.Group.{inside}
use Rattle.definition.specs.Rule.{midnight24, Normal, Additional, Rule}
use Rattle.definition.specs.Stop.{drained, left}
use Rattle.definition.specs.Point.{dimensions, points, selector, combinations}
use Rattle.definition.specs.Saying.{Cover, says}

-- "A point is a weekday, week 1 to 53, month and year 1900 to 9999"
abbrev pub is_point : List ℕ → Bool
is_point p = inside eqb points p

-- ## What is said
-- the minutes that spans cover, point by point; equal spans at a point cover equal minutes
abbrev pub Choice : Type 0
Choice = List ℕ → Cover

-- at every point and minute the one list of rules says what the other says, whatever is chosen
abbrev pub SaySame : List Rule → List Rule → Type 0
SaySame rs qs = (choice : Choice) (p : List ℕ) → is_point p ≡ true → (m : ℕ) → m < midnight24 → says (choice p) rs p m ≡ says (choice p) qs p m

-- ## Groups
pub record SameDays (r q : Rule) : Type 0 where
  pub same-years : r.years ≡ q.years
  pub same-monthdays : r.monthdays ≡ q.monthdays
  pub same-weeks : r.weeks ≡ q.weeks
  pub same-weekdays : r.weekdays ≡ q.weekdays

-- a Normal rule, then Additional ones over its days
abbrev pub IsGroup : List Rule → Type 0
IsGroup [] = ⊥
IsGroup (r ∷ rs) = (r.operator ≡ Normal) × All (λ q. (q.operator ≡ Additional) × SameDays r q) rs

-- does a rule of the group cover the point?
abbrev pub covered : List Rule → List ℕ → Bool
covered g p = any_of (λ r. not (eqb (combinations (selector dimensions r) p) 0)) g

-- no two groups share a point
abbrev pub Apart : List (List Rule) → Type 0
Apart [] = Unit {0}
Apart (g ∷ gs) = ((p : List ℕ) → is_point p ≡ true → covered g p ≡ true → All (λ h. covered h p ≡ false) gs) × Apart gs

pub record InGroups (rs : List Rule) : Type 0 where
  pub groups : List (List Rule)
  pub all-rules : flat_map (λ g. g) groups ≡ rs
  pub are-groups : All IsGroup groups
  pub are-apart : Apart groups

-- ## THE STATEMENT, of the rules of a sheet and those that its fold wrote
pub record SameMeaning (rs ws : List Rule) : Type 0 where
  pub says_same : SaySame (drained ws) (drained rs)
  pub in-groups : InGroups (drained ws)
  pub left-same : left ws ≡ left rs
