-- A rule at one box: a law for each return of `draw`. Rests on the laws of the lists made and of walks.
use mathlib.Core.Path.{◌≡◌, refl, sym, ap, ◌∙◌}
use mathlib.Core.Bool.{Bool, true, false, cond, true≢false}
use mathlib.Core.List.{List, [], ◌∷◌, ◌++◌}
use mathlib.Core.Logic.{inl}
use Prim.Native.Nat.{ℕ, suc, ◌+◌, ◌-◌, ◌*◌, ◌≤◌, ◌<◌}
use native.Mathlib.Omega.{arith}
use lib.Dec.{ltb}
use lib.ListN.{length, get_or, set, length-set}
use lib.Seq.{get_or-set_same, get_or-set_other}
use borrow.Author.Tests.{lt-ltb, le-ltb}
use Rattle.laws.specs.Lists.{count, Mem}
use Rattle.laws.proofs.Stores.{set-each}
use Rattle.tables.specs.Sizes.{list_limit, list_places}
use Rattle.tables.specs.Lists.{named, shown, KeptBelow}
use Rattle.tables.specs.Plain.{base}
use Rattle.list_store.specs.Draw.{Appended, Made, Making, Walked}
use Rattle.list_store.proofs.Counting.{count_most, count-more}
use Rattle.list_store.proofs.Making.{number-left, new-list, made_more}
use Rattle.list_store.proofs.Walking.{stands}

-- the list at whose end a rule is put was there before it
pub key-low : (replaces : Bool) (number before key : ℕ) → key ≡ cond replaces 0 number → number ≤ before → key ≤ before
key-low true number before key e h = omega (arith, e)
key-low false number before key e h = omega (arith, e)

module _ {rule before : ℕ} {cells lists memo : List ℕ} {used : ℕ} (m : Making cells lists memo rule before used) (box : ℕ) (inside : box < length cells) where
  grew : before ≤ used
  grew = omega (arith, m.made.grown)

  -- this rule drew it already
  pub walked-again : {over replaces : Bool} → before < get_or cells box 0 → Walked cells lists used over cells lists memo used over rule replaces before (box ∷ [])
  walked-again h = stands m (λ _. (h, tt)) (λ q l. absurd (true≢false (sym l ∙ q))) (λ l. l)

  -- ## Room for one list more, where the rule makes one of a number that it hasn't met, for a box that it hasn't drawn
  module _ (low : get_or cells box 0 ≤ before) where
    drawn-more : (v : ℕ) → before < v → count (ltb before) (set cells box v) ≡ suc (count (ltb before) cells)
    drawn-more v h = count-more (ltb before) cells box v inside (le-ltb before (get_or cells box 0) low) (lt-ltb before v h)

    pub room-left : (key : ℕ) → key ≤ before → get_or memo key 0 ≤ before → used * list_places + list_places ≤ length lists
    room-left key few old =
        omega (
          arith,
          grew,
          m.room (used + 1 - before) (omega (arith, number-left m.made key few old))
              (omega (arith, m.slow, drawn-more (suc before) (omega arith), count_most (ltb before) (set cells box (suc before)), length-set cells box (suc before))),
        )

  module _ (replaces : Bool) (low : get_or cells box 0 ≤ before) (key : ℕ) (k : key ≡ cond replaces 0 (get_or cells box 0)) where
    few : key ≤ before
    few = key-low replaces (get_or cells box 0) before key k low

    -- the list at whose end the rule is put
    based : named lists key ≡ base replaces (shown cells lists box)
    unfolding base shown named
    based = go replaces k
      where
        go : (r : Bool) → key ≡ cond r 0 (get_or cells box 0) → named lists key ≡ base r (shown cells lists box)
        go true e = ap (named lists) e
        go false e = ap (named lists) e

    -- its list has no room
    pub walked-full : {over : Bool} → list_limit ≤ length (named lists key) → Walked cells lists used over cells lists memo used true rule replaces before (box ∷ [])
    unfolding Mem
    walked-full h = stands m (λ q. absurd (true≢false q)) (λ _ _. (box, inl refl, low, rw (← based) h)) (λ _. refl)

    -- its cell gets the number of the list that the rule makes of it
    walked_one : {over : Bool} (lists' memo' : List ℕ) (used' v : ℕ) → Made lists' memo' rule before used' → length lists' ≡ length lists → KeptBelow lists lists' used → used ≤ used' → used' ≤ used + 1
        → before < v → v ≤ used' → length (named lists key) < list_limit → named lists' v ≡ named lists key ++ (rule ∷ [])
        → Walked cells lists used over (set cells box v) lists' memo' used' over rule replaces before (box ∷ [])
    unfolding Mem shown
    walked_one lists' memo' used' v made len kept g s high least short e = record {
      making = record {
        made = made;
        names = set-each (λ b c. c ≤ used') cells box v 0 inside least (λ b _. omega (arith, m.names b));
        slow = omega (arith, m.slow, drawn-more low v high);
        room = λ n a c. omega (arith, m.room n a (omega (arith, length-set cells box v)));
        few = m.few;
      };
      grown = g;
      kept = kept;
      others = λ b ne. get_or-set_other cells box b v 0 (λ q. ne (inl q));
      stays = set-each (λ b c. before < get_or cells b 0 → c ≡ get_or cells b 0) cells box v 0 inside (λ l. absurd (omega arith)) (λ b _ _. refl);
      waits = set-each (λ b c. c ≤ before → c ≡ get_or cells b 0) cells box v 0 inside (λ l. absurd (omega arith)) (λ b _ _. refl);
      shows = set-each (λ b c. get_or cells b 0 ≤ before → before < c
          → (length (base replaces (shown cells lists b)) < list_limit) × (named lists' c ≡ base replaces (shown cells lists b) ++ (rule ∷ []))) cells box v 0 inside
          (λ _ _. rw (← based) (short, e)) (λ b _ l c. absurd (omega arith));
      drawn = λ _. (omega (arith, get_or-set_same cells box v 0 inside), tt);
      full = λ q l. absurd (true≢false (sym l ∙ q));
      loud = λ l. l;
    }

    -- a list that this rule made already
    pub walked-met : {over : Bool} → before < get_or memo key 0 → Walked cells lists used over (set cells box (get_or memo key 0)) lists memo used over rule replaces before (box ∷ [])
    walked-met h =
        walked_one lists memo used (get_or memo key 0) m.made refl (λ i l. refl) (omega arith) (omega arith) h (m.made.within key) (m.made.unfilled key few h)
        (m.made.made key few h)

    -- a new list
    pub walked-new : {over : Bool} (lists' : List ℕ) → length lists' ≡ length lists → get_or memo key 0 ≤ before → length (named lists key) < list_limit → Appended lists lists' key used rule
        → Walked cells lists used over (set cells box (used + 1)) lists' (set memo key (used + 1)) (used + 1) over rule replaces before (box ∷ [])
    walked-new lists' len old short a =
        walked_one lists' (set memo key (used + 1)) (used + 1) (used + 1) (made_more m.made key few old lists' short a) len a.kept (omega arith)
        (omega arith) (omega (arith, grew)) (omega arith) short (new-list m.made key few old lists' short a)
