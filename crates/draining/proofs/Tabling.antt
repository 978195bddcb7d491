-- The tables, rule after rule: a rule keeps the rows before it and fills its own. And the rules before the first stopper, by their number.
use mathlib.Core.Path.{◌≡◌, refl, sym, ap, ◌∙◌, subst}
use mathlib.Core.List.{List, ◌++◌, map}
use mathlib.Core.Bool.{Bool, true, false, false≢true}
use Prim.Native.Nat.{ℕ, zero, suc, ◌+◌, ◌*◌, ◌-◌, ◌^◌, ◌≤◌, ◌<◌}
use native.Mathlib.Omega.{arith}
use lib.ListN.{length, get_or, set, take, drop, length-map}
use lib.Seq.{sets, get_or-set_same, get_or-set_other}
use borrow.Author.Count.{below_more}
use Rattle.laws.proofs.Flags.{split-or}
use Rattle.laws.specs.Lists.{any_of}
use Rattle.definition.specs.Rule.{Rule, no_rule}
use Rattle.definition.specs.Stop.{span_stops, stops, reason, drained, why}
use Rattle.definition.proofs.Bits.{Bytes}
use Rattle.definition.proofs.Drained.{drained-fewer, drained-each}
use Rattle.definition.proofs.Why.{why-none, why-first}
use Rattle.definition.specs.Sheet.{Form}
use Rattle.sheet.specs.Begin.{rule_read_at, Readable}
use Rattle.tables.specs.Ranges.{table_row}
use Rattle.tables.specs.Rules.{TimesAt, DaysHeld}
use Rattle.tables.proofs.Ranges.{row_kept, row_new, part_length}
use Rattle.codes.specs.Number.{state_number, span_number}
use Rattle.canonical_date.specs.Rule.{days_stop}
use Rattle.canonical_date.specs.Days.{Loaded, days_loaded}
use Rattle.canonical_date.proofs.Finding.{days-held}
use Rattle.canonical_date.proofs.Table.{sets-before, sets-inside}
use Rattle.draining.specs.Rule.{loaded_spans, parts_stop, replace_number, set_unless, DrainedRule}
use Rattle.draining.specs.Table.{TabledAt, Tabled, rules_from}
use Rattle.draining.proofs.SpanMeaning.{today-all}
use Rattle.draining.proofs.RuleReturns.{stops-parts, spans-few}
use Rattle.definition.specs.Field.{sheet_bits}

-- ## Rows of the tables
set_other : (stop : Bool) (l : List ℕ) (i v k : ℕ) → k < i → get_or (set_unless stop l i v) k 0 ≡ get_or l k 0
set_other true l i v k h = refl
set_other false l i v k h = get_or-set_other l i k v 0 (λ z. omega arith)

-- no item and no span of a rule that does not stop does
pub stops-parts-pass : (x : Rule) → stops x ≡ false → (days_stop x ≡ false) × (any_of span_stops x.spans ≡ false)
stops-parts-pass x f = split-or (days_stop x) (any_of span_stops x.spans) (go (parts_stop x) refl)
  where
    go : (p : Bool) → parts_stop x ≡ p → parts_stop x ≡ false
    go true e = absurd (false≢true (sym f ∙ stops-parts x ∙ rw e))
    go false e = e

module _ (x : Rule) (i : ℕ) (st co sp re st' co' sp' re' : List ℕ) (w : DrainedRule x i st co sp re st' co' sp' re') where
  -- the rows before it stay
  times-kept : (k : ℕ) (r : Rule) → k < i → TimesAt st co sp k r → TimesAt st' co' sp' k r
  times-kept k r h a = record {
    state-held = ap (λ l. get_or l k 0) w.states-drained ∙ set_other (stops x) st i (state_number x.state) k h ∙ a.state-held;
    count_held = ap (λ l. get_or l k 0) w.counts-drained ∙ set_other (stops x) co i (length x.spans) k h ∙ a.count_held;
    few-held = a.few-held;
    spans-held = λ j m. ap (λ l. get_or l (k * 16 + j) 0) w.spans-drained
        ∙ sets-before sp (i * 16) (map span_number (loaded_spans x)) (k * 16 + j) (omega (arith, a.few-held)) ∙ a.spans-held j m;
  }

  replacing-kept : (k : ℕ) → k < i → get_or re' k 0 ≡ get_or re k 0
  replacing-kept k h = ap (λ l. get_or l k 0) w.replacing-drained ∙ set_other (stops x) re i (replace_number x) k h

  -- its own is filled, unless it stops
  module _ (f : stops x ≡ false) where
    times-new : i < length st → i < length co → i * 16 + 16 ≤ length sp → length x.spans ≤ 16 → TimesAt st' co' sp' i x
    times-new hs hc hp few =
        let states : st' ≡ set st i (state_number x.state) = w.states-drained ∙ rw f in
        let counts : co' ≡ set co i (length x.spans) = w.counts-drained ∙ rw f in
        let pass = stops-parts-pass x f in
        let all : loaded_spans x ≡ x.spans = rw pass.0 (today-all x.spans pass.1) in
        let spans : sp' ≡ sets sp (i * 16) (map span_number x.spans) = w.spans-drained ∙ ap (λ xs. sets sp (i * 16) (map span_number xs)) all in
        let long = length-map x.spans span_number in
        record {
          state-held = ap (λ l. get_or l i 0) states ∙ get_or-set_same st i (state_number x.state) 0 hs;
          count_held = ap (λ l. get_or l i 0) counts ∙ get_or-set_same co i (length x.spans) 0 hc;
          few-held = few;
          spans-held = λ j m. ap (λ l. get_or l (i * 16 + j) 0) spans ∙ sets-inside sp (i * 16) (map span_number x.spans) j (omega (arith, long)) (omega (arith, long));
        }

    replacing-new : i < length re → get_or re' i 0 ≡ replace_number x
    replacing-new hr =
        let replacing : re' ≡ set re i (replace_number x) = w.replacing-drained ∙ rw f in
        ap (λ l. get_or l i 0) replacing ∙ get_or-set_same re i (replace_number x) 0 hr

-- ## The rules before the first stopper
module _ (form : Form) (s begins : List ℕ) where
  pub rules-at : (n i k : ℕ) → k < n → get_or (rules_from form s begins i n) k no_rule ≡ rule_read_at form s (get_or begins (i + k) 0)
  unfolding rules_from
  rules-at zero i k h = absurd (omega arith)
  rules-at (suc n) i zero h = let z : i ≡ i + 0 = omega arith in ap (λ j. rule_read_at form s (get_or begins j 0)) z
  rules-at (suc n) i (suc k) h = let z : i + 1 + k ≡ i + suc k = omega arith in rules-at n (i + 1) k (omega arith) ∙ ap (λ j. rule_read_at form s (get_or begins j 0)) z

  pub rules-length : (n i : ℕ) → length (rules_from form s begins i n) ≡ n
  unfolding rules_from
  rules-length zero i = refl
  rules-length (suc n) i = ap suc (rules-length n (i + 1))

  -- from place i on: one more, none, or the end
  pub drained-more : (n m i : ℕ) → n ≡ suc m → stops (rule_read_at form s (get_or begins i 0)) ≡ false → length (drained (rules_from form s begins i n)) ≡ suc (length (drained (rules_from form s begins (i + 1) m)))
  unfolding rules_from drained
  drained-more n m i z e = rw (z, e, rules_from, drained)

  pub drained-none : (n m i : ℕ) → n ≡ suc m → stops (rule_read_at form s (get_or begins i 0)) ≡ true → length (drained (rules_from form s begins i n)) ≡ 0
  unfolding rules_from drained
  drained-none n m i z e = rw (z, e, rules_from, drained)

  pub drained-end : (n i : ℕ) → n ≡ 0 → length (drained (rules_from form s begins i n)) ≡ 0
  unfolding rules_from drained
  drained-end n i z = rw (z, rules_from, drained)

  -- why the drain ends: the rule behind the drained ones tells, where there is one
  pub why-ends : (n : ℕ) → n ≡ length (drained (rules_from form s begins 0 n)) → 0 ≡ why (rules_from form s begins 0 n)
  why-ends n e = sym (why-none (rules_from form s begins 0 n) (sym e ∙ sym (rules-length n 0)))

  pub why-halts : (n i v : ℕ) → i < n → i ≡ length (drained (rules_from form s begins 0 n)) → v ≡ reason (rule_read_at form s (get_or begins i 0)) → v ≡ why (rules_from form s begins 0 n)
  why-halts n i v l e told =
      let rs = rules_from form s begins 0 n in
      let z : 0 + i ≡ i = omega arith in
      told ∙ ap reason (sym (rules-at n 0 i l ∙ ap (λ j. rule_read_at form s (get_or begins j 0)) z)) ∙ ap (λ k. reason (get_or rs k no_rule)) e ∙ sym (why-first rs (omega (arith, e, rules-length n 0)))

  -- rows for each rule below the number of drained rules are the tables of the drained rules
  pub tabled : (n i : ℕ) (st co sp re cn ra : List ℕ) → i ≡ length (drained (rules_from form s begins 0 n)) → ((k : ℕ) → k < i → TabledAt st co sp re cn ra k (rule_read_at form s (get_or begins k 0)))
      → Tabled st co sp re cn ra (drained (rules_from form s begins 0 n))
  tabled n i st co sp re cn ra e h k m =
      let z : 0 + k ≡ k = omega arith in
      let below : k < n = omega (arith, drained-fewer (rules_from form s begins 0 n), rules-length n 0) in
      let same = (drained-each (rules_from form s begins 0 n) k m).0 ∙ rules-at n 0 k below ∙ ap (λ j. rule_read_at form s (get_or begins j 0)) z in
      subst (TabledAt st co sp re cn ra k) (sym same) (h k (omega arith))

-- ## Rule after rule
-- the first i of n rules are drained into the tables
pub record Draining (form : Form) (s begins : List ℕ) (n : ℕ) (st co sp re cn ra : List ℕ) (i : ℕ) : Type 0 where
  pub within : i ≤ n
  pub number : i + length (drained (rules_from form s begins i (n - i))) ≡ length (drained (rules_from form s begins 0 n))
  pub rows : (k : ℕ) → k < i → TabledAt st co sp re cn ra k (rule_read_at form s (get_or begins k 0))

module _ (form : Form) (s begins : List ℕ) (n : ℕ) (st co sp re cn ra : List ℕ) where
  pub drain-first : Draining form s begins n st co sp re cn ra 0
  drain-first = record {
    within = omega arith;
    number = let z : n - 0 ≡ n = omega arith in omega (arith, ap (λ m. length (drained (rules_from form s begins 0 m))) z);
    rows = λ k h. absurd (omega arith);
  }

  pub drain-ends : (i : ℕ) → n ≤ i → Draining form s begins n st co sp re cn ra i
      → (n ≡ length (drained (rules_from form s begins 0 n))) × (0 ≡ why (rules_from form s begins 0 n)) × Tabled st co sp re cn ra (drained (rules_from form s begins 0 n))
  drain-ends i l w =
      let z : i ≡ n = omega (arith, w.within) in
      let e : i ≡ length (drained (rules_from form s begins 0 n)) = omega (arith, w.number, drained-end form s begins (n - i) i (omega arith)) in
      (sym z ∙ e, why-ends form s begins n (sym z ∙ e), tabled form s begins n i st co sp re cn ra e w.rows)

-- rule i, with its own row of the ranges and of their counts written anew
module _ (form : Form) (sheet : List ℕ) (bytes : Bytes sheet) (begins : List ℕ) (n : ℕ) (st co sp re cn ra : List ℕ) (i : ℕ) (l : i < n) (w : Draining form (sheet_bits sheet) begins n st co sp re cn ra i)
    (st' co' sp' re' : List ℕ) (d : DrainedRule (rule_read_at form (sheet_bits sheet) (get_or begins i 0)) i st co sp re st' co' sp' re')
    (t : Bool) (h : t ≡ stops (rule_read_at form (sheet_bits sheet) (get_or begins i 0)))
    (all-counts : i * 4 + 4 ≤ length cn) (all-ranges : i * 256 + 256 ≤ length ra) where
  abbrev s : List ℕ
  s = sheet_bits sheet

  abbrev r : Rule
  r = rule_read_at form s (get_or begins i 0)

  -- the rows as they were, and as the rule's days fill them
  abbrev old-ranges : List ℕ
  old-ranges = take (i * 256 + 256 - i * 256) (drop (i * 256) ra)

  abbrev old-counts : List ℕ
  old-counts = take (i * 4 + 4 - i * 4) (drop (i * 4) cn)

  abbrev loads : Loaded
  loads = days_loaded form s (get_or begins i 0) old-ranges old-counts

  module _ (counts ranges : List ℕ) (ranges-read : ranges ≡ loads.ranges) (counts-read : counts ≡ loads.counts) where
    abbrev cn' : List ℕ
    cn' = take (i * 4) cn ++ (counts ++ drop (i * 4 + 4 - i * 4) (drop (i * 4) cn))

    abbrev ra' : List ℕ
    ra' = take (i * 256) ra ++ (ranges ++ drop (i * 256 + 256 - i * 256) (drop (i * 256) ra))

    kept : (k : ℕ) → k < i → TabledAt st' co' sp' re' cn' ra' k (rule_read_at form s (get_or begins k 0))
    kept k m =
        let before = w.rows k m in (
          times-kept r i st co sp re st' co' sp' re' d k (rule_read_at form s (get_or begins k 0)) m before.0,
          record {
            replacing-held = replacing-kept r i st co sp re st' co' sp' re' d k m ∙ before.1.replacing-held;
            days-held = subst (λ c. DaysHeld c (table_row ra' k 256) (rule_read_at form s (get_or begins k 0))) (sym (row_kept cn counts _ i 4 (omega arith) k m))
                (subst (λ q. DaysHeld (table_row cn k 4) q (rule_read_at form s (get_or begins k 0))) (sym (row_kept ra ranges _ i 256 (omega arith) k m)) before.1.days-held);
          },
        )

    pub drain-halts : t ≡ true → (v : ℕ) → v ≡ reason r
        → (i ≡ length (drained (rules_from form s begins 0 n))) × (v ≡ why (rules_from form s begins 0 n)) × Tabled st' co' sp' re' cn' ra' (drained (rules_from form s begins 0 n))
    drain-halts f v told =
        let none = drained-none form s begins (n - i) (n - suc i) i (omega arith) (sym h ∙ f) in
        let e : i ≡ length (drained (rules_from form s begins 0 n)) = omega (arith, w.number, none) in
        (e, why-halts form s begins n i v l e told, tabled form s begins n i st' co' sp' re' cn' ra' e kept)

    pub drain-next : t ≡ false → Readable form s (get_or begins i 0) → get_or begins i 0 < 2 ^ 25 → i < length st → i < length co → i * 16 + 16 ≤ length sp → i < length re
        → length counts ≡ 4 → length ranges ≡ 256 → (j : ℕ) → j ≡ i + 1 → Draining form s begins n st' co' sp' re' cn' ra' j
    drain-next f readable low hs hc hp hr four whole j e =
        let g = sym h ∙ f in
        let more = drained-more form s begins (n - i) (n - (i + 1)) i (omega arith) g in
        let held = days-held form sheet bytes (get_or begins i 0) readable low old-ranges old-counts (omega (arith, part_length ra (i * 256) (i * 256 + 256) (omega arith) all-ranges))
        (omega (arith, part_length cn (i * 4) (i * 4 + 4) (omega arith) all-counts)) (stops-parts-pass r g).0 in
        let new : TabledAt st' co' sp' re' cn' ra' i r = (
          times-new r i st co sp re st' co' sp' re' d g hs hc hp (spans-few form s (get_or begins i 0) readable),
          record {
            replacing-held = replacing-new r i st co sp re st' co' sp' re' d g hr;
            days-held = subst (λ c. DaysHeld c (table_row ra' i 256) r) (sym (row_new cn counts _ i 4 (omega arith) four ∙ counts-read))
                (subst (λ q. DaysHeld loads.counts q r) (sym (row_new ra ranges _ i 256 (omega arith) whole ∙ ranges-read)) held);
          },
        ) in
        rw e (record {
          within = omega arith;
          number = omega (arith, w.number, more);
          rows = λ k m. below_more (λ k. TabledAt st' co' sp' re' cn' ra' k (rule_read_at form s (get_or begins k 0))) i kept new k (omega arith);
        })
