-- 01, "Numbers of the answer": "The fold answers code, drained, emitted (folded rules only), left (rules copied), bytes written, place. On a
-- refusal every number but code and place is 0." Order: "1, 2 and 4 as met from the first bit on; then 3, 8, 5, 6, 9, 7", and 02's 11 "after
-- 8, before 5", 14 "in the old place of 6", 13 "after 9, before 7". "On code 0 the result stands at the front of the buffer and later bytes are unchanged." "The rules left are copied bit by bit after them."
-- 02, M-107: "A fold written as form 1 may now need more rules or ranges than its counts can carry; form 2 always can."
-- 02, M-105: why the fold stopped "passes through the drain into the fold's answer as a seventh number, 0 on refusals".
use Rattle.std.specs.Prelude.{List, [], ◌∷◌, ◌++◌, Bool, true, false, cond, ◌||◌, ℕ, ltb, length, drop}
use Rattle.std.proofs.Math.Option.{Option, none, some, map}
use Rattle.laws.specs.Lists.{any_of}
use Rattle.definition.specs.Field.{got, refused, days_twice, many_boxes, past_counts, no_room}
use Rattle.definition.specs.Rule.{Rule}
use Rattle.definition.specs.Sheet.{Form, Limits, most_rules, most_items, decode, encode}
use Rattle.definition.specs.Stop.{drained, left, why}
use Rattle.definition.specs.Point.{dimensions}
use Rattle.definition.specs.Lists.{first_refused}
use Rattle.definition.specs.Overlap.{first_overlap}
use Rattle.definition.specs.Box.{box_count}
use Rattle.definition.specs.Group.{folded}

-- ## Answers of the entries that write
-- seven numbers, and the bytes that it writes
pub record Folded : Type 0 where
  pub code : ℕ
  pub drained : ℕ
  pub emitted : ℕ
  pub left : ℕ
  pub bytes : ℕ
  pub place : ℕ
  pub why : ℕ
  pub result : List ℕ

-- the numbers in 01's order, then 02's
abbrev pub numbers : Folded → List ℕ
numbers f = f.code ∷ f.drained ∷ f.emitted ∷ f.left ∷ f.bytes ∷ f.place ∷ f.why ∷ []

abbrev pub refusal : ℕ → ℕ → Folded
refusal c p = record { code = c; drained = 0; emitted = 0; left = 0; bytes = 0; place = p; why = 0; result = [] }

-- a buffer after a result was written to its front; nothing is written where the result is empty, as on every refusal
abbrev pub buffer : List ℕ → List ℕ → List ℕ
buffer result out = result ++ drop (length result) out

-- "Every other entry that writes a sheet or text answers code, bytes written and place; refused, bytes written is 0 and the buffer is untouched."
pub record Written : Type 0 where
  pub code : ℕ
  pub bytes : ℕ
  pub place : ℕ
  pub result : List ℕ

abbrev pub written_numbers : Written → List ℕ
written_numbers w = w.code ∷ w.bytes ∷ w.place ∷ []

abbrev pub unwritten : ℕ → ℕ → Written
unwritten c p = record { code = c; bytes = 0; place = p; result = [] }

-- a result into a buffer of `room` bytes; 7 where it has less room
unfoldable pub written_into : ℕ → List ℕ → Written
written_into room result = elim (ltb room (length result)) [
  | true ↦ unwritten no_room (length result)
  | false ↦ record { code = 0; bytes = length result; place = 0; result = result }
]

-- ## Draining, with 11, 5, 6 and 14
-- the drained rules pass, or they are refused: code and place
pub data Drained : Type 0 where
  fine : Drained
  over : ℕ → ℕ → Drained

-- the second judgement counts where the first is fine
abbrev pub or_else : Drained → Drained → Drained
or_else fine d = d
or_else (over c p) d = over c p

-- refused with a code and its place, if there are any
abbrev pub as_met : Option (ℕ × ℕ) → Drained
as_met none = fine
as_met (some m) = over m.0 m.1

-- 11: `overlap` is the first rule with days typed twice; then 5: boxes over the limit, the place their number; then 6 and 14: `met` is the first
-- of them that was met, rule by rule, and its rule
unfoldable pub judged : Limits → List Rule → Option ℕ → Option (ℕ × ℕ) → Drained
judged limits rs overlap met =
    let boxes = box_count dimensions rs in
    or_else (as_met (map (λ k. (days_twice, k)) overlap)) (or_else (cond (ltb limits.boxes boxes) (over many_boxes boxes) fine) (as_met met))

unfoldable pub drain : Limits → List Rule → Drained
drain limits rs = judged limits rs (first_overlap rs) (first_refused limits rs)

-- ## 13: what a form's counts can carry
-- the five counts of a rule
abbrev pub item_counts : Rule → List ℕ
item_counts r = length r.years ∷ length r.monthdays ∷ length r.weeks ∷ length r.weekdays ∷ length r.spans ∷ []

-- "a rule with more than 1,023 items of a sort", than 4,095 in form 2
unfoldable pub many_items : Form → Rule → Bool
many_items form r = any_of (ltb (most_items form)) (item_counts r)

-- "the result has more than 65,535 rules", than 16,777,215 in form 2, or such a rule
unfoldable pub passes_counts : Form → List Rule → Bool
passes_counts form rs = ltb (most_rules form) (length rs) || any_of (many_items form) rs

-- ## The fold
module _ (form : Form) (limits : Limits) where
  -- 7: the buffer has less room than the result
  unfoldable pub fitted : ℕ → List Rule → List Rule → List ℕ → Folded
  fitted room rs folded_rules result = elim (ltb room (length result)) [
    | true ↦ refusal no_room (length result)
    | false ↦ record {
      code = 0;
      drained = length (drained rs);
      emitted = length folded_rules;
      left = length (left rs);
      bytes = length result;
      place = 0;
      why = why rs;
      result = result;
    }
  ]

  -- 13: the form's counts can't carry the folded rules and the rules left; then 7
  unfoldable pub carried : ℕ → List Rule → List Rule → Folded
  carried room rs folded_rules = elim (passes_counts form (folded_rules ++ left rs)) [
    | true ↦ refusal past_counts 0
    | false ↦ fitted room rs folded_rules (encode form limits (folded_rules ++ left rs))
  ]

  -- the fold of rules into a buffer of `room` bytes, once the drained ones were judged and folded
  unfoldable pub fold_rules : ℕ → List Rule → Drained → List Rule → Folded
  fold_rules room rs judgement folded_rules = elim judgement [ over c p ↦ refusal c p | fine ↦ carried room rs folded_rules ]

  -- THE FOLD OF A SHEET, over points
  unfoldable pub fold : ℕ → List ℕ → Folded
  fold room sheet = elim (decode form limits sheet) [
    | refused c p ↦ refusal c p
    | got rs q ↦ fold_rules room rs (drain limits (drained rs)) (folded (drained rs))
  ]

  -- "Writing back refuses by 1 to 4 and 7 only, in the order below": 1, 2 and 4 as met, then 3, then 7
  unfoldable pub write_back : ℕ → List ℕ → Written
  write_back room sheet = elim (decode form limits sheet) [ refused c p ↦ unwritten c p | got rs q ↦ written_into room (encode form limits rs) ]
