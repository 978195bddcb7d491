-- THE WALK'S ANSWER IS 01's: the walk over a list of rule numbers finds the state that the definition does at a minute, by the rules that the
-- tables hold. Rests on the law that a rule is read back from the tables.
use mathlib.Core.Path.{◌≡◌, refl, sym, ap, ap₂, ◌∙◌, subst}
use mathlib.Core.Bool.{Bool, true, false, not, cond}
use mathlib.Core.List.{List, [], ◌∷◌, ◌++◌, map, flat_map}
use Prim.Native.Nat.{ℕ, ◌+◌, ◌*◌, ◌-◌, ◌≤◌, ◌<◌}
use native.Mathlib.Omega.{arith}
use lib.ListN.{length, get_or, take, drop}
use Rattle.laws.specs.Lists.{from, any_of, All}
use Rattle.laws.proofs.Lists.{All-map, All-at}
use Rattle.definition.specs.Field.{unsettled}
use Rattle.definition.specs.Rule as rule
use Rattle.definition.specs.Day.{Stated, simple, within, stated, flattened, last_over, entry_of}
use Rattle.definition.specs.Lookup.{Looked, refusal, found, state_at}
use Rattle.codes.specs.Number as number
use Rattle.words.specs.Words.{part}
use Rattle.words.proofs.Sets.{part-taken}
use Rattle.tables.specs.Sizes.{list_places}
use Rattle.tables.specs.Lists.{list_of}
use Rattle.definition.specs.Rule.{no_rule}
use Rattle.tables.specs.Rules.{rule_at, RuleTimes}
use Rattle.tables.proofs.Times.{entry_at, entry-back}
use Rattle.state_at.proofs.Walk.{part-named}
use Rattle.state_at.specs.Found.{looked, over_spans, onward, InTables, over_rule, over_list}
use Rattle.std.specs.Prelude.{Option, Some}

-- ## Spans
-- what the definition answers for some spans, where a state is shown before them
abbrev settled : rule.State → List Stated → ℕ → Looked
settled S xs m = elim (any_of (λ x. not (simple x.1)) xs) [ true ↦ refusal unsettled 0 | false ↦ found (last_over within S xs m) ]

module _ (S T : rule.State) (x : rule.Span) (xs : List Stated) (m : ℕ) where
  settled-simple : simple x ≡ true → settled T ((S, x) ∷ xs) m ≡ settled (cond (within x m) S T) xs m
  unfolding any_of last_over
  settled-simple e = rw (e, settled) refl

  settled-other : simple x ≡ false → settled T ((S, x) ∷ xs) m ≡ refusal unsettled 0
  unfolding any_of
  settled-other e = rw (e, settled) refl

cond-state : (b : Bool) (m n : ℕ) → cond b (number.state_coded m) (number.state_coded n) ≡ number.state_coded (cond b m n)
cond-state true m n = refl
cond-state false m n = refl

-- a rule's spans, before whatever comes next
spans-looked : (m S shown : ℕ) (ws : List ℕ) (next : ℕ → Option ℕ) (rest : List Stated) → ((n : ℕ) → looked (next n) ≡ settled (number.state_coded n) rest m)
    → looked (onward (over_spans m S shown ws) next) ≡ settled (number.state_coded shown) (stated (number.state_coded S, map number.span_at ws) ++ rest) m
unfolding over_spans
spans-looked m S shown [] next rest h = h shown
spans-looked m S shown (w ∷ ws) next rest h = go (simple (number.span_at w)) refl (spans-looked m S (cond (within (number.span_at w) m) S shown) ws next rest h)
  where
    others : List Stated
    others = stated (number.state_coded S, map number.span_at ws) ++ rest

    go : (b : Bool) → simple (number.span_at w) ≡ b
        → looked (onward (over_spans m S (cond (within (number.span_at w) m) S shown) ws) next) ≡ settled (number.state_coded (cond (within (number.span_at w) m) S shown)) others m
        → looked (onward (over_spans m S shown (w ∷ ws)) next) ≡ settled (number.state_coded shown) ((number.state_coded S, number.span_at w) ∷ others) m
    go true e ih =
        rw (e, over_spans) ih ∙ ap (λ T. settled T others m) (sym (cond-state (within (number.span_at w) m) S shown))
        ∙ sym (settled-simple (number.state_coded S) (number.state_coded shown) (number.span_at w) others m e)
    go false e ih = rw (e, over_spans) (sym (settled-other (number.state_coded S) (number.state_coded shown) (number.span_at w) others m e))

-- ## Rules
module _ (states counts spans : List ℕ) where
  list-looked : (m shown : ℕ) (ks : List ℕ) → looked (over_list states counts spans m shown ks) ≡ settled (number.state_coded shown) (flattened (map (entry_at states counts spans) ks)) m
  unfolding over_list over_rule flattened flat_map any_of last_over
  list-looked m shown [] = refl
  list-looked m shown (k ∷ ks) =
      spans-looked m (get_or states k 0) shown (part spans (k * 16) (get_or counts k 0)) (λ n. over_list states counts spans m n ks)
      (flattened (map (entry_at states counts spans) ks)) (λ n. list-looked m n ks)

  module _ (rs : List rule.Rule) (tables : RuleTimes states counts spans rs) where
    pub rule-there : (k : ℕ) → k < length rs → InTables states counts spans k
    rule-there k l =
        let r = rule_at rs k in
        let few : length r.spans ≤ 16 = (tables.each k l).few-held in
        let many : get_or counts k 0 ≡ length r.spans = (tables.each k l).count_held in
        (omega (arith, tables.all-states), omega (arith, tables.all-counts), omega (arith, tables.all-spans))

    entries-named : (ks : List ℕ) → All (λ k. k < length rs) ks → map (entry_at states counts spans) ks ≡ map entry_of (map (rule_at rs) ks)
    entries-named [] h = refl
    entries-named (k ∷ ks) h =
        ap₂ ◌∷◌ (entry-back states counts spans k (rule_at rs k) (tables.each k h.0) (All-at _ rs no_rule tables.fits k h.0)) (entries-named ks h.1)

    -- THE STATE AT A MINUTE by a list
    pub rules-answered : (m : ℕ) (ks : List ℕ) → All (λ k. k < length rs) ks → looked (over_list states counts spans m number.closed_number ks) ≡ state_at [] (map (rule_at rs) ks) m
    unfolding state_at number.state_coded
    rules-answered m ks named = list-looked m number.closed_number ks ∙ ap (λ es. settled rule.closed (flattened es) m) (entries-named ks named)

    -- ## The list at a place
    module _ (lists : List ℕ) (node many : ℕ) (named : All (λ k. k < length rs) (list_of lists node)) (counted : many ≡ get_or lists (node * list_places) 0)
        (there : node * list_places + 1 + many ≤ length lists) where
      list-taken : take (node * list_places + 1 + many - (node * list_places + 1)) (drop (node * list_places + 1) lists) ≡ list_of lists node
      unfolding list_of
      list-taken =
          let z : node * list_places + 1 + many - (node * list_places + 1) ≡ many = omega arith in
          ap (λ n. take n (drop (node * list_places + 1) lists)) z ∙ part-taken lists (node * list_places + 1) many there
          ∙ part-named lists (node * list_places + 1) 0 (node * list_places + 1) many (omega arith)
          ∙ ap (λ n. map (λ k. get_or lists (node * list_places + 1 + k) 0) (from 0 n)) counted

      -- it can be walked
      pub list-ready : All (InTables states counts spans) (take (node * list_places + 1 + many - (node * list_places + 1)) (drop (node * list_places + 1) lists))
      list-ready = subst (All (InTables states counts spans)) (sym list-taken) (All-map rule-there (list_of lists node) named)

      pub list-answered : (m : ℕ) (r : Option ℕ) → r ≡ over_list states counts spans m number.closed_number (take (node * list_places + 1 + many - (node * list_places + 1)) (drop (node * list_places + 1) lists))
          → looked r ≡ state_at [] (map (rule_at rs) (list_of lists node)) m
      list-answered m r h = ap looked (h ∙ ap (over_list states counts spans m number.closed_number) list-taken) ∙ rules-answered m (list_of lists node) named

-- the empty list leaves plain Closed
pub empty-answered : (m : ℕ) → looked (Some number.closed_number) ≡ state_at [] [] m
unfolding state_at number.state_coded flattened flat_map any_of last_over
empty-answered m = refl
