-- 02, M-108, Room for lists used again: "The limit is 512 distinct non-empty lists over all points, counted after each drained rule; two lists are
-- equal when the same rule indexes stand in them in the same order." "Refusals: 14, when the count passes 512 after a drained rule; place that rule's
-- index. 6 and 14 are judged rule by rule, 6 first at the same rule; the first met is given, in the old place of 6." 01's 6: "some point's list passes
-- 32 entries after a drained rule", place "that rule's index, from 0".
use Rattle.std.specs.Prelude.{List, [], ◌∷◌, map, Bool, cond, ℕ, suc, eqb, ltb, length, take}
use Rattle.std.proofs.Math.Option.{Option, some}
use Rattle.laws.specs.Lists.{from, first_of, only_if, keep, distinct, filled}
use Rattle.laws.specs.Tests.{same_list}
use Rattle.grid.specs.Group.{points_of, somewhere}
use Rattle.definition.specs.Field.{long_list, many_lists}
use Rattle.definition.specs.Rule.{Rule}
use Rattle.definition.specs.Sheet.{Limits}
use Rattle.definition.specs.Point.{dimensions, points, selector, combinations, replaces, after, list_at}

-- ## Lists by indexes
-- a list of indexes l after some rules, one after the other, k being the index of the first
unfoldable pub indexes_from : ℕ → List ℕ → List Rule → List ℕ → List ℕ
indexes_from k l [] p = l
indexes_from k l (r ∷ rs) p = indexes_from (suc k) (after (replaces r) k (combinations (selector dimensions r) p) l) rs p

-- the indexes of the rules in the list at a point
abbrev pub indexes_at : List Rule → List ℕ → List ℕ
indexes_at rs p = indexes_from 0 [] rs p

-- ## How many there are
-- the distinct non-empty ones among some lists
abbrev pub distinct_lists : List (List ℕ) → List (List ℕ)
distinct_lists ls = distinct (same_list eqb) (keep filled ls)

-- "distinct non-empty lists over all points", after the first n rules
unfoldable pub list_count : List Rule → ℕ → ℕ
list_count rs n = length (distinct_lists (map (indexes_at (take n rs)) (points_of points)))

-- ## Refusals
-- is the list at p too long after rule k?
unfoldable pub too_long : ℕ → List Rule → ℕ → List ℕ → Bool
too_long limit rs k p = ltb limit (length (list_at (take (suc k) rs) p))

-- rule k is refused with this code, if it is: by 6 where some list is too long after it, else by 14 where there are too many
abbrev pub refused_at : Limits → ℕ → Bool → ℕ → Option (ℕ × ℕ)
refused_at limits k long count = cond long (some (long_list, k)) (only_if (ltb limits.lists count) (many_lists, k))

-- rule by rule, the first met: its code and the rule's index
unfoldable pub first_refused : Limits → List Rule → Option (ℕ × ℕ)
first_refused limits rs = first_of (λ k. refused_at limits k (somewhere points (too_long limits.entries rs k)) (list_count rs (suc k))) (from 0 (length rs))
