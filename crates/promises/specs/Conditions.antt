-- 01, "Numbers of the answer": the conditions that the table of codes speaks of, each without those before it in the order "1, 2 and 4 as
-- met from the first bit on; then 3, 8, 5, 6, 9, 7", with 10 of 02 "after 3, before 7", its 11 "after 8, before 5", its 14 "in the old place of 6", rule by rule
-- after 6, and its 13 "after 9, before 7".
use Rattle.std.specs.Prelude.{◌≡◌, List, [], ◌++◌, ◌⊎◌, Bool, true, false, ℕ, suc, ◌*◌, ◌≤◌, ◌<◌, eqb, length, take, get_or}
use Rattle.laws.specs.Lists.{All, Distinct, FirstAt, Mem}
use Rattle.laws.specs.Tests.{same_list}
use Rattle.grid.specs.Cut.{holds}
use Rattle.definition.specs.Field.{got, refused, bytes_for, sheet_bits, past_end, unlawful, bad_end, over_limit, no_room}
use Rattle.definition.specs.Rule.{Rule, no_rule}
use Rattle.definition.specs.Sheet.{Form, Limits, most_rules, most_items, rules, decode}
use Rattle.definition.specs.Stop.{drained, left}
use Rattle.definition.specs.Point.{Dimension, dimensions, list_at}
use Rattle.definition.specs.Lists.{indexes_at}
use Rattle.definition.specs.Overlap.{has}
use Rattle.definition.specs.Box.{box_count}
use Rattle.definition.specs.Group.{folded}
use Rattle.definition.specs.Line.{first_normal}
use Rattle.definition.specs.Show.{wordless}
use Rattle.promises.specs.Meaning.{is_point}

-- ## How bits end, q being the bit after the last field
-- no bit is set from q up to p
abbrev pub Zeros : List ℕ → ℕ → ℕ → Type 0
Zeros s q p = (j : ℕ) → q ≤ j → j < p → get_or s j 0 ≡ 0

-- the first padding bit that is set is p
abbrev pub PaddingSet : List ℕ → ℕ → ℕ → Type 0
PaddingSet s q p = (q ≤ p) × (p < 8 * bytes_for q) × (get_or s p 0 ≡ 0 → ⊥) × Zeros s q p

-- no padding bit is set, but bytes follow, and p is the first bit after the padding
abbrev pub BytesFollow : List ℕ → ℕ → ℕ → Type 0
BytesFollow s q p = Zeros s q (8 * bytes_for q) × (8 * bytes_for q < length s) × (p ≡ 8 * bytes_for q)

-- ## Days typed twice, ds being the drained rules
-- two ranges of one selector share a value: items at two places of a dimension both have it
pub record Shares (r : Rule) : Type 0 where
  pub dimension : Dimension
  pub one-of-four : Mem dimension dimensions
  pub first : ℕ
  pub second : ℕ
  pub value : ℕ
  pub in_order : first < second
  pub there : second < length (dimension.items r)
  pub lawful : holds value dimension.bounds ≡ true
  pub first-has : has dimension.bounds (get_or (dimension.items r) first (0, 0)) value ≡ true
  pub second-has : has dimension.bounds (get_or (dimension.items r) second (0, 0)) value ≡ true

-- the first rule with such ranges has the index k; and no rule has
abbrev pub FirstTwice : List Rule → ℕ → Type 0
FirstTwice ds k = (k < length ds) × Shares (get_or ds k no_rule) × ((j : ℕ) → j < k → Shares (get_or ds j no_rule) → ⊥)

abbrev pub AllOnce : List Rule → Type 0
AllOnce ds = (j : ℕ) → j < length ds → Shares (get_or ds j no_rule) → ⊥

-- ## Lists that are too long or too many, ds being the drained rules
-- after the rule of index k no point's list passes the limit; and after it some point's list does
abbrev pub ShortAfter : ℕ → List Rule → ℕ → Type 0
ShortAfter limit ds k = (p : List ℕ) → is_point p ≡ true → length (list_at (take (suc k) ds) p) ≤ limit

abbrev pub LongAfter : ℕ → List Rule → ℕ → Type 0
LongAfter limit ds k = (p : List ℕ) × (is_point p ≡ true) × (limit < length (list_at (take (suc k) ds) p))

-- a list of rule indexes stands at some point after the first n rules
abbrev pub StandsAt : List Rule → ℕ → List ℕ → Type 0
StandsAt ds n l = (p : List ℕ) × (is_point p ≡ true) × (l ≡ indexes_at (take n ds) p)

-- lists that do, all different and none empty
pub record Standing (ds : List Rule) (n : ℕ) (ls : List (List ℕ)) : Type 0 where
  pub different : Distinct (same_list eqb) ls
  pub non-empty : All (λ l. l ≡ [] → ⊥) ls
  pub stand : All (StandsAt ds n) ls

-- after the rule of index k there are at most so many of them; and there are more
abbrev pub FewAfter : ℕ → List Rule → ℕ → Type 0
FewAfter limit ds k = (ls : List (List ℕ)) → Standing ds (suc k) ls → length ls ≤ limit

abbrev pub ManyAfter : ℕ → List Rule → ℕ → Type 0
ManyAfter limit ds k = (ls : List (List ℕ)) × Standing ds (suc k) ls × (limit < length ls)

module _ (limits : Limits) (ds : List Rule) where
  -- after the rule of index k neither limit is passed
  abbrev pub PassesAfter : ℕ → Type 0
  PassesAfter k = ShortAfter limits.entries ds k × FewAfter limits.lists ds k

  -- the first rule after which one is has the index k, and then some list is too long; and then none is, but there are too many
  abbrev pub FirstLong : ℕ → Type 0
  FirstLong k = (k < length ds) × LongAfter limits.entries ds k × ((j : ℕ) → j < k → PassesAfter j)

  abbrev pub FirstMany : ℕ → Type 0
  FirstMany k = (k < length ds) × ShortAfter limits.entries ds k × ManyAfter limits.lists ds k × ((j : ℕ) → j < k → PassesAfter j)

  -- neither is ever passed
  abbrev pub AllPass : Type 0
  AllPass = (j : ℕ) → j < length ds → PassesAfter j

-- ## Results that a form can't carry
-- the rules that the fold of a sheet's rules writes: the folded rules, then the rules left
abbrev pub written : List Rule → List Rule
written rs = folded (drained rs) ++ left rs

-- the sorts of items that a rule has a count of; and how many it has
pub data Sort : Type 0 where
  year_items : Sort
  monthday_items : Sort
  week_items : Sort
  weekday_items : Sort
  span_items : Sort

abbrev pub count_of : Sort → Rule → ℕ
count_of year_items r = length r.years
count_of monthday_items r = length r.monthdays
count_of week_items r = length r.weeks
count_of weekday_items r = length r.weekdays
count_of span_items r = length r.spans

-- there are more rules than the first number, or one of them has more items of a sort than the second
abbrev pub MoreThan : ℕ → ℕ → List Rule → Type 0
MoreThan most most_of_sort ws = (most < length ws) ⊎ ((r : Rule) × (sort : Sort) × Mem r ws × (most_of_sort < count_of sort r))

-- ## Rules without words
-- the first rule that can't be shown has the index k: the very first if it isn't Normal, else the first that has no words
abbrev pub FirstUnshown : List Rule → ℕ → Type 0
FirstUnshown rs k = ((first_normal rs ≡ false) × (k ≡ 0)) ⊎ ((first_normal rs ≡ true) × FirstAt wordless rs k)

-- every rule can be shown
abbrev pub AllShown : List Rule → Type 0
AllShown rs = (first_normal rs ≡ true) × All (λ r. wordless r ≡ false) rs

-- ## A sheet
module _ (form : Form) (limits : Limits) (sheet : List ℕ) where
  -- 1, 2 and 4: the fields, read one behind the other from the first bit on, meet one that is refused with this code, which begins at p
  abbrev pub Met : ℕ → ℕ → Type 0
  Met c p = (rules form limits).read (sheet_bits sheet) 0 ≡ refused c p

  -- 3: all fields are read, and q is the bit after them
  abbrev pub BadEnd : ℕ → Type 0
  BadEnd p =
      (rs : List Rule) × (q : ℕ) × ((rules form limits).read (sheet_bits sheet) 0 ≡ got rs q) × (PaddingSet (sheet_bits sheet) q p ⊎ BytesFollow (sheet_bits sheet) q p)

  -- "An accepted sheet is one that none of 1 to 4 refuses"
  abbrev pub Accepted : List Rule → Type 0
  Accepted rs = (q : ℕ) × (decode form limits sheet ≡ got rs q)

  -- 11
  abbrev pub DaysTwice : ℕ → Type 0
  DaysTwice p = (rs : List Rule) × Accepted rs × FirstTwice (drained rs) p

  -- neither 1 to 4 nor 11
  abbrev pub DaysOnce : List Rule → Type 0
  DaysOnce rs = Accepted rs × AllOnce (drained rs)

  -- 5
  abbrev pub ManyBoxes : ℕ → Type 0
  ManyBoxes p = (rs : List Rule) × DaysOnce rs × (limits.boxes < box_count dimensions (drained rs)) × (p ≡ box_count dimensions (drained rs))

  -- neither 1 to 4 nor 11 nor 5
  abbrev pub FewBoxes : List Rule → Type 0
  FewBoxes rs = DaysOnce rs × (box_count dimensions (drained rs) ≤ limits.boxes)

  -- 6
  abbrev pub LongList : ℕ → Type 0
  LongList p = (rs : List Rule) × FewBoxes rs × FirstLong limits (drained rs) p

  -- 14
  abbrev pub ManyLists : ℕ → Type 0
  ManyLists p = (rs : List Rule) × FewBoxes rs × FirstMany limits (drained rs) p

  -- neither 1 to 4 nor 11, 5, 6 or 14
  abbrev pub Foldable : List Rule → Type 0
  Foldable rs = FewBoxes rs × AllPass limits (drained rs)

  -- 13
  abbrev pub PastCounts : ℕ → Type 0
  PastCounts p = (rs : List Rule) × Foldable rs × MoreThan (most_rules form) (most_items form) (written rs) × (p ≡ 0)

  -- neither 1 to 4 nor 11, 5, 6, 14 or 13
  abbrev pub Writable : List Rule → Type 0
  Writable rs = Foldable rs × (MoreThan (most_rules form) (most_items form) (written rs) → ⊥)

  -- 10
  abbrev pub NoWords : ℕ → Type 0
  NoWords p = (rs : List Rule) × Accepted rs × FirstUnshown rs p

  -- neither 1 to 4 nor 10
  abbrev pub Showable : List Rule → Type 0
  Showable rs = Accepted rs × AllShown rs

-- ## Tables
-- the first where the test passes, else the second
abbrev pub given : Bool → Type 0 → Type 0 → Type 0
given true A B = A
given false A B = B

-- the rows of every table, the codes of reading; and then the others
abbrev pub ReadingRows : Form → Limits → List ℕ → ℕ → ℕ → Type 0 → Type 0
ReadingRows form limits sheet c p others =
    given (eqb c past_end) (Met form limits sheet past_end p)
    (given (eqb c unlawful) (Met form limits sheet unlawful p)
    (given (eqb c over_limit) (Met form limits sheet over_limit p)
    (given (eqb c bad_end) (BadEnd form limits sheet p) others)))

-- the last rows of an entry that writes, of rules that are ready to be written: without room for what is written, and with room
abbrev pub WritingRows : ℕ → (List Rule → Type 0) → (List Rule → List ℕ) → ℕ → ℕ → Type 0
WritingRows room Ready write c p =
    given (eqb c no_room) ((rs : List Rule) × Ready rs × (room < length (write rs)) × (p ≡ length (write rs)))
    (given (eqb c 0) ((rs : List Rule) × Ready rs × (length (write rs) ≤ room) × (p ≡ 0)) ⊥)
