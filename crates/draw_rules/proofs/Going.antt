-- RULE AFTER RULE: the store before a rule, whichever rules the tables hold; and what is answered where the walk stops, or after the last rule. Rests on
-- one rule more.
use mathlib.Core.Path.{◌≡◌, sym, ap, ◌∙◌, subst}
use mathlib.Core.Bool.{Bool, true, false}
use mathlib.Core.List.{List}
use Prim.Native.Nat.{ℕ, suc, ◌+◌, ◌-◌, ◌≤◌, ◌<◌}
use native.Mathlib.Omega.{arith}
use lib.Dec.{eqb, ltb}
use lib.ListN.{length, get_or}
use borrow.Author.Count.{below_more}
use borrow.Author.Tests.{ltb-false}
use Rattle.definition.specs.Rule.{Rule}
use Rattle.definition.specs.Sheet.{sheet_limits}
use Rattle.definition.specs.Lists.{indexes_from}
use Rattle.definition.proofs.Lists.{long, many, Passes, all_pass, first-long, first-many}
use Rattle.paving.specs.Grid.{Node}
use Rattle.paving_points.proofs.Stepping.{boxes-node}
use Rattle.list_store.specs.Draw.{Ready, Drew}
use Rattle.list_reclaim.specs.Reclaim.{Reclaimed}
use Rattle.draw_rule.specs.Update.{covered_box}
use Rattle.tables.specs.Sizes.{held_limit}
use Rattle.tables.specs.Ranges.{table_row}
use Rattle.tables.specs.Cuts.{ToList}
use Rattle.tables.specs.Lists.{named, shown, Store, Stored}
use Rattle.std.specs.Prelude.{Ok, Err}
use Rattle.answers.specs.declared.refusal.Reason.TheVariants.{LongList, ManyLists}
use Rattle.draw_rules.specs.Listing.{Places, Settled, Listing}
use Rattle.draw_rules.proofs.Settling.{kept-few}
use Rattle.draw_rules.proofs.Stepping.{long-told, many-told, stored_next, stored_moved}

-- before rule k: the store of the rules before it, none of which is refused
abbrev pub Going : (replacing counts ranges rows sizes table : List ℕ) → ℕ → (cells lists : List ℕ) → ℕ → ℕ → Type 0
Going replacing counts ranges rows sizes table n cells lists used k = (rs : List Rule) → ToList replacing counts ranges rows sizes table n rs
    → Stored sizes rows table cells lists used rs k × ((j : ℕ) → j < k → Passes sheet_limits rs j)

-- ## The start
pub going_start : (replacing counts ranges rows sizes table : List ℕ) (n : ℕ) (cells lists : List ℕ) → ((b : ℕ) → get_or cells b 0 ≡ 0)
    → Going replacing counts ranges rows sizes table n cells lists 0 0
unfolding shown named indexes_from
going_start replacing counts ranges rows sizes table n cells lists z rs t = (
  record {
    store = record {
      names = λ b. omega (arith, z b);
      room = omega arith;
      some = λ l h. absurd (omega arith);
      short = λ l h. absurd (omega arith);
      apart = λ a b h. absurd (omega arith);
    };
    earlier = λ l h. absurd (omega arith);
    few = omega arith;
    list = λ p w. ap (named lists) (z _);
  },
  λ j h. absurd (omega arith),
)

-- slices as long as others have the same places
pub places-kept : {cells lists memo cells' lists' memo' : ℕ} (most : ℕ) (sizes : List ℕ) → cells' ≡ cells → lists' ≡ lists → memo' ≡ memo
    → Places cells lists memo most sizes → Places cells' lists' memo' most sizes
places-kept most sizes a b c p = rw (a, b, c) p

-- ## A rule
module _ (replacing counts ranges rows sizes table : List ℕ) (n : ℕ) (cells lists memo : List ℕ) (most used k : ℕ) (places : Places (length cells) (length lists) (length memo) most sizes)
    (few : used ≤ most) (memoed : (i : ℕ) → get_or memo i 0 ≤ used) (going : Going replacing counts ranges rows sizes table n cells lists used k) where
  -- it can be drawn
  pub going-ready : (rs : List Rule) → ToList replacing counts ranges rows sizes table n rs → Ready cells lists memo k used
  going-ready rs t =
      let stored = (going rs t).0 in
      record {
        store = stored.store;
        earlier = stored.earlier;
        room = λ m a b. let r = places.room m (omega arith) b in omega (arith, r.0);
        few = omega (arith, places.few);
        many = let r = places.room 0 (omega arith) (omega arith) in omega (arith, r.1);
        memoed = memoed;
      }

  pub going-node : (rs : List Rule) → ToList replacing counts ranges rows sizes table n rs → Node (length cells) sizes 4 0
  going-node rs t = subst (λ m. Node m sizes 4 0) (sym places.one_cell) (boxes-node replacing counts ranges rows sizes table n rs t)

  module _ (here : k < n) (cells' lists' memo' : List ℕ) (used' : ℕ) (over : Bool)
      (drew : Drew cells lists cells' lists' memo' (covered_box sizes (table_row counts k 4) rows table (table_row ranges k 256)) k (eqb (get_or replacing k 0) 1) used used' over) where
    -- its lists can be settled
    pub going-settles : length memo' ≡ length memo → Store cells' lists' used' × (used' < length memo') × (used' < 65536) × ((i : ℕ) → get_or memo' i 0 ≤ used')
    going-settles same =
        let grown = drew.few in
        let room = places.room (used' - used) (omega (arith, grown.0)) (omega (arith, grown.1)) in
        (drew.store, omega (arith, room.1), omega (arith, grown.0, places.few), drew.memoed)

    -- 6
    pub going-long : over ≡ true → (cells'' lists'' : List ℕ) (rs : List Rule) → ToList replacing counts ranges rows sizes table n rs
        → Listing rows sizes table cells'' lists'' rs (Err record { reason = LongList; place = k })
    unfolding Listing
    going-long e cells'' lists'' rs t =
        first-long sheet_limits rs k (omega (arith, t.0.0.many)) (going rs t).1
        (sym (long-told replacing counts ranges rows sizes table n rs t cells lists used k here (going rs t).0 places.one_cell cells' lists' memo' used' over drew) ∙ e)

    module _ (same : length cells' ≡ length cells) (quiet : over ≡ false) (cells'' lists'' memo'' : List ℕ) (kept : ℕ)
        (settled : Settled cells' lists' cells'' lists'' memo'' most used' kept) where
      not-long : (rs : List Rule) → ToList replacing counts ranges rows sizes table n rs → long sheet_limits rs k ≡ false
      not-long rs t = sym (long-told replacing counts ranges rows sizes table n rs t cells lists used k here (going rs t).0 places.one_cell cells' lists' memo' used' over drew) ∙ quiet

      told : (rs : List Rule) → ToList replacing counts ranges rows sizes table n rs → ltb held_limit kept ≡ many sheet_limits rs k
      told rs t =
          many-told replacing counts ranges rows sizes table n rs t cells lists used k here (going rs t).0 places.one_cell cells' lists' memo' used' over drew same quiet
          cells'' lists'' memo'' most kept settled

      -- 14
      pub going-many : ltb held_limit kept ≡ true → (rs : List Rule) → ToList replacing counts ranges rows sizes table n rs
          → Listing rows sizes table cells'' lists'' rs (Err record { reason = ManyLists; place = k })
      unfolding Listing
      going-many e rs t = first-many sheet_limits rs k (omega (arith, t.0.0.many)) (going rs t).1 (not-long rs t) (sym (told rs t) ∙ e)

      -- THE NEXT RULE
      pub going_next : ltb held_limit kept ≡ false → Going replacing counts ranges rows sizes table n cells'' lists'' kept (k + 1)
      going_next e rs t = (
        subst (Stored sizes rows table cells'' lists'' kept rs) (let z : suc k ≡ k + 1 = omega arith in z)
            (stored_next replacing counts ranges rows sizes table n rs t cells lists used k here (going rs t).0 places.one_cell cells' lists' memo' used' over drew same quiet
            cells'' lists'' memo'' most kept settled (ltb-false held_limit kept e)),
        below_more (Passes sheet_limits rs) k (going rs t).1 (not-long rs t, sym (told rs t) ∙ e),
      )

-- ## The end
pub going_end : (replacing counts ranges rows sizes table : List ℕ) (n : ℕ) (cells lists memo : List ℕ) (most used k : ℕ) → Places (length cells) (length lists) (length memo) most sizes
    → Going replacing counts ranges rows sizes table n cells lists used k → n ≤ k → k ≤ n
    → (cells' lists' memo' : List ℕ) (kept : ℕ) → length cells' ≡ length cells → Reclaimed cells lists cells' lists' memo' used kept
    → (rs : List Rule) → ToList replacing counts ranges rows sizes table n rs → Listing rows sizes table cells' lists' rs (Ok kept)
unfolding Listing
going_end replacing counts ranges rows sizes table n cells lists memo most used k places going l m cells' lists' memo' kept same r rs t =
    let all : k ≡ length rs = omega (arith, t.0.0.many) in
    let stored = subst (Stored sizes rows table cells lists used rs) all (going rs t).0 in (
      all_pass sheet_limits rs (λ j h. (going rs t).1 j (omega arith)),
      record {
        cut = t.0.2;
        few-rules = omega (arith, t.0.0.few-rules, t.0.0.many);
        few-boxes = places.few-boxes;
        one_cell = same ∙ places.one_cell;
        few-lists = omega (arith, kept-few cells lists cells' lists' memo' used kept r, places.one_cell);
        stored = stored_moved sizes rows table rs (boxes-node replacing counts ranges rows sizes table n rs t) cells lists used (length rs) places.one_cell stored.earlier stored.list
            cells' lists' kept r.store r.shows r.there (omega (arith, r.few, stored.few));
      },
    )
