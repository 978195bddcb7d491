-- RULE AFTER RULE: the lists before a rule, whichever rules the tables hold; and what is answered where the walk stops, or after the last rule. Rests on one
-- rule more over boxes.
use mathlib.Core.Path.{◌≡◌, sym, ap, ◌∙◌, subst}
use mathlib.Core.Bool.{Bool, true, false, not, cond}
use mathlib.Core.List.{List, [], ◌∷◌, ◌++◌, map}
use Prim.Native.Nat.{ℕ, suc, ◌+◌, ◌*◌, ◌≤◌, ◌<◌}
use native.Mathlib.Omega.{arith}
use lib.Dec.{eqb, ltb}
use lib.ListN.{length, get_or, take}
use borrow.Author.Count.{below_more}
use borrow.Author.Tests.{not-true, not-false}
use Rattle.laws.specs.Lists.{from, All}
use Rattle.laws.proofs.Lists.{All-map, All-append, any_none}
use Rattle.laws.proofs.Numbers.{Mem-from}
use Rattle.definition.specs.Rule.{Rule}
use Rattle.definition.specs.Sheet.{sheet_limits}
use Rattle.definition.specs.Point.{combinations}
use Rattle.definition.specs.Lists.{indexes_from, indexes_at, distinct_lists}
use Rattle.definition.proofs.Lists.{long, many, Passes, all_pass, first-long, first-many}
use Rattle.paving.specs.Grid.{size_of}
use Rattle.paving.proofs.Skipping.{size-le}
use Rattle.paving_points.proofs.Stepping.{boxes-node, many-lists, next-at, some-long}
use Rattle.tables.specs.Sizes.{list_places}
use Rattle.tables.specs.Ranges.{table_row, selector_of}
use Rattle.tables.specs.Cuts.{ToList}
use Rattle.tables.specs.Lists.{list_of, Earlier, Within, box_of, start_of}
use Rattle.tables.specs.Plain.{base, plain_step, overfull, some_overfull}
use Rattle.tables.proofs.Lists.{list_length, box_in}
use Rattle.std.specs.Prelude.{Ok, Err}
use Rattle.answers.specs.declared.refusal.Reason.TheVariants.{LongList, ManyLists}
use Rattle.plain_lists.specs.Covers.{covers_box, Coverable}
use Rattle.plain_lists.specs.Draw.{HaveLists, Drew}
use Rattle.plain_lists.specs.Listing.{Listing}
use Rattle.plain_lists.proofs.Covering.{ranges-there, covers-box}
use Rattle.plain_lists.proofs.Drawing.{step-short}

-- the lists after the first k rules: each box has the list of indexes at its first point
pub record ListsAfter (sizes rows table lists : List ℕ) (rs : List Rule) (k : ℕ) : Type 0 where
  pub earlier : Earlier lists (size_of sizes 4) k
  pub list : (p : List ℕ) → Within sizes 4 p → list_of lists (box_of sizes 4 0 p) ≡ indexes_at (take k rs) (start_of rows table 4 p)

-- before rule k: the lists of the rules before it, none of which is refused
abbrev pub Going : (replacing counts ranges rows sizes table : List ℕ) → ℕ → List ℕ → ℕ → Type 0
Going replacing counts ranges rows sizes table n lists k = (rs : List Rule) → ToList replacing counts ranges rows sizes table n rs
    → ListsAfter sizes rows table lists rs k × ((j : ℕ) → j < k → Passes sheet_limits rs j)

-- ## The start
list-none : (lists : List ℕ) (box : ℕ) → get_or lists (box * list_places) 0 ≡ 0 → list_of lists box ≡ []
unfolding list_of from
list-none lists box e = ap (λ n. map (λ k. get_or lists (box * list_places + 1 + k) 0) (from 0 n)) e

module _ (lists sizes : List ℕ) (none : (box : ℕ) → box < size_of sizes 4 → get_or lists (box * list_places) 0 ≡ 0) where
  pub have-none : (boxes : ℕ) → boxes ≡ size_of sizes 4 → size_of sizes 4 ≤ sheet_limits.boxes → size_of sizes 4 * list_places ≤ length lists → HaveLists lists boxes
  have-none boxes all few room = record {
    few-boxes = omega arith;
    each = λ box l. record { room = omega (arith, room, l); short = omega (arith, list_length lists box, none box (omega arith)) };
  }

  pub going_start : (replacing counts ranges rows table : List ℕ) (n : ℕ) → Going replacing counts ranges rows sizes table n lists 0
  unfolding indexes_from
  going_start replacing counts ranges rows table n rs t = (
    record {
      earlier = λ box l. subst (All (λ r. r < 0)) (sym (list-none lists box (none box l))) tt;
      list = λ p w. list-none lists (box_of sizes 4 0 p)
          (none (box_of sizes 4 0 p) (box_in (size_of sizes 4) sizes 4 0 p (boxes-node replacing counts ranges rows sizes table n rs t) w));
    },
    λ j h. absurd (omega arith),
  )

-- ## A rule
-- the plain step puts none into a list but the rule
step-earlier : (replaces : Bool) (rule : ℕ) (covered : ℕ → Bool) (f : ℕ → List ℕ) (box : ℕ) → All (λ r. r < rule) (f box) → All (λ r. r < suc rule) (plain_step replaces rule covered f box)
unfolding plain_step base
step-earlier replaces rule covered f box h = go (covered box) replaces
  where
    more : All (λ r. r < suc rule) (f box)
    more = All-map (λ r l. omega arith) (f box) h

    go : (c r : Bool) → All (λ r. r < suc rule) (cond c (cond r [] (f box) ++ (rule ∷ [])) (f box))
    go true true = (omega arith, tt)
    go true false = All-append (λ r. r < suc rule) (f box) (rule ∷ []) more (omega arith, tt)
    go false r = more

module _ (replacing counts ranges rows sizes table : List ℕ) (n : ℕ) (lists : List ℕ) (k : ℕ) (here : k < n) (boxes : ℕ) (all : boxes ≡ size_of sizes 4)
    (have : HaveLists lists boxes) where
  -- its ranges can be read
  pub going-coverable : (rs : List Rule) → ToList replacing counts ranges rows sizes table n rs → Coverable rows sizes table counts ranges k
  going-coverable rs t =
      let cut = t.0.2 in
      record {
        four = cut.four;
        all-rows = cut.all-rows;
        inside = cut.inside;
        filled = cut.filled;
        small = λ i l. omega (arith, have.few-boxes, size-le sizes i 4 cut.filled (omega arith));
        ranges-there = ranges-there counts ranges n rs t.0.0 k here;
      }

  abbrev replaces : Bool
  replaces = eqb (get_or replacing k 0) 1

  abbrev covered : ℕ → Bool
  covered = covers_box rows sizes table counts ranges k

  covers : (rs : List Rule) → ToList replacing counts ranges rows sizes table n rs → (p : List ℕ) → Within sizes 4 p
      → covered (box_of sizes 4 0 p) ≡ not (eqb (combinations (selector_of (table_row counts k 4) (table_row ranges k 256) 4) (start_of rows table 4 p)) 0)
  covers rs t = covers-box rows sizes table counts ranges k (going-coverable rs t)

  module _ (going : Going replacing counts ranges rows sizes table n lists k) (lists' : List ℕ) (room : Bool) (drew : Drew lists lists' boxes k replaces covered room) where
    told : (rs : List Rule) → ToList replacing counts ranges rows sizes table n rs → room ≡ not (long sheet_limits rs k)
    told rs t =
        drew.told
        ∙ ap (λ m. not (some_overfull replaces covered (list_of lists) m)) all
        ∙ ap not (some-long replacing counts ranges rows sizes table n rs t k here covered (covers rs t) (list_of lists) (going rs t).0.list
        (λ box l. (have.each box (omega arith)).short))

    -- 6
    pub going-long : room ≡ false → (rs : List Rule) → ToList replacing counts ranges rows sizes table n rs → Listing rows sizes table lists' rs (Err record { reason = LongList; place = k })
    unfolding Listing
    going-long e rs t = first-long sheet_limits rs k (omega (arith, t.0.0.many)) (going rs t).1 (not-false (long sheet_limits rs k) (sym (told rs t) ∙ e))

    module _ (fits : room ≡ true) where
      -- no list is too long after it
      pub have-next : length lists' ≡ length lists → HaveLists lists' boxes
      unfolding some_overfull
      have-next same = record {
        few-boxes = have.few-boxes;
        each = λ box l.
            let short = step-short replaces k covered (list_of lists) box (have.each box l).short
            (any_none (overfull replaces covered (list_of lists)) box (from 0 boxes)
            (not-true (some_overfull replaces covered (list_of lists) boxes) (sym drew.told ∙ fits)) (Mem-from box 0 boxes (omega arith) (omega arith))) in
            record { room = omega (arith, same, (have.each box l).room); short = omega (arith, ap length (drew.shows fits box l), short) };
      }

      next : (rs : List Rule) → ToList replacing counts ranges rows sizes table n rs → ListsAfter sizes rows table lists' rs (suc k)
      next rs t = record {
        earlier = λ box l. subst (All (λ r. r < suc k)) (sym (drew.shows fits box (omega arith))) (step-earlier replaces k covered (list_of lists) box ((going rs t).0.earlier box l));
        list = λ p w.
            drew.shows fits (box_of sizes 4 0 p) (omega (arith, all, box_in (size_of sizes 4) sizes 4 0 p (boxes-node replacing counts ranges rows sizes table n rs t) w))
            ∙ next-at replacing counts ranges rows sizes table n rs t k here covered (covers rs t) (list_of lists) (going rs t).0.list p w;
      }

      passes : (rs : List Rule) → ToList replacing counts ranges rows sizes table n rs → long sheet_limits rs k ≡ false
      passes rs t = not-true (long sheet_limits rs k) (sym (told rs t) ∙ fits)

      module _ (over : Bool) (counted : over ≡ ltb sheet_limits.lists (length (distinct_lists (map (list_of lists') (from 0 boxes))))) where
        many-told : (rs : List Rule) → ToList replacing counts ranges rows sizes table n rs → over ≡ many sheet_limits rs k
        many-told rs t =
            counted ∙ ap (λ m. ltb sheet_limits.lists (length (distinct_lists (map (list_of lists') (from 0 m))))) all
            ∙ many-lists replacing counts ranges rows sizes table n rs t k here (list_of lists') (next rs t).list

        -- 14
        pub going-many : over ≡ true → (rs : List Rule) → ToList replacing counts ranges rows sizes table n rs → Listing rows sizes table lists' rs (Err record { reason = ManyLists; place = k })
        unfolding Listing
        going-many e rs t = first-many sheet_limits rs k (omega (arith, t.0.0.many)) (going rs t).1 (passes rs t) (sym (many-told rs t) ∙ e)

        -- THE NEXT RULE
        pub going_next : over ≡ false → Going replacing counts ranges rows sizes table n lists' (k + 1)
        going_next e rs t = (
          subst (ListsAfter sizes rows table lists' rs) (let z : suc k ≡ k + 1 = omega arith in z) (next rs t),
          below_more (Passes sheet_limits rs) k (going rs t).1 (passes rs t, sym (many-told rs t) ∙ e),
        )

-- ## The end
pub going_end : (replacing counts ranges rows sizes table : List ℕ) (n : ℕ) (lists : List ℕ) (k boxes : ℕ) → boxes ≡ size_of sizes 4 → HaveLists lists boxes
    → size_of sizes 4 * list_places ≤ length lists → Going replacing counts ranges rows sizes table n lists k → n ≤ k → k ≤ n
    → (rs : List Rule) → ToList replacing counts ranges rows sizes table n rs → Listing rows sizes table lists rs (Ok tt)
unfolding Listing
going_end replacing counts ranges rows sizes table n lists k boxes e have room going l m rs t =
    let all : k ≡ length rs = omega (arith, t.0.0.many) in
    let last = subst (ListsAfter sizes rows table lists rs) all (going rs t).0 in (
      all_pass sheet_limits rs (λ j h. (going rs t).1 j (omega arith)),
      record {
        cut = t.0.2;
        few-boxes = omega (arith, have.few-boxes);
        room = room;
        short = λ box h. omega (arith, list_length lists box, (have.each box (omega arith)).short);
        earlier = last.earlier;
        list = last.list;
      },
    )
