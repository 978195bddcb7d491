-- A day's rules, entry by entry: over a page's runs they are the definition's rules of the page, and their bits stand one rule after the other.
-- Rests on the law that a rule laid over runs is the rule over their items.
use mathlib.Core.Path.{◌≡◌, refl, sym, ap, ap₂, ◌∙◌}
use mathlib.Core.List.{List, [], ◌∷◌, ◌++◌, map, flat_map}
use Prim.Native.Nat.{ℕ, suc, ◌+◌, ◌-◌, ◌≤◌, ◌<◌}
use native.Mathlib.Omega.{arith}
use lib.ListN.{length, get_or, length-append}
use Rattle.grid.specs.Cut.{Range}
use Rattle.definition.specs.Rule.{Normal, Additional, Rule}
use Rattle.definition.specs.Sheet.{Form}
use Rattle.definition.specs.Range.{Ends}
use Rattle.definition.specs.Point.{dimensions}
use Rattle.definition.specs.Day.{Day}
use Rattle.definition.specs.Group.{laid_over, as_rule, as_rules, rules_of}
use Rattle.words.specs.Words.{part}
use Rattle.day_flat.specs.Day.{unflat_from}
use Rattle.codes.specs.Number.{span_at}
use Rattle.rule_writer.specs.Rows.{spans_at}
use Rattle.rule_writer.specs.Written.{items_in, rule_bits}
use Rattle.tables.specs.Items.{over_items, rows_below}
use Rattle.rule_writer.proofs.Laid.{over-laid}
use Rattle.day_writer.specs.Rules.{entry_rules, rules_bits, day_in, Whole}
use Rattle.tables.specs.Pages.{day_rules}
use Rattle.day_writer.proofs.Entries.{Step, this_entry, span_words, entry_spans, entry_left}

-- ## Entry by entry
others : (E : List (List Ends)) (d : Day) → entry_rules 1 E d ≡ map (over_items dimensions E) (map (as_rule Additional) d)
unfolding entry_rules
others E [] = refl
others E (e ∷ d) = ap (over_items dimensions E (as_rule Additional e) ∷◌) (others E d)

pub entries-day : (E : List (List Ends)) (d : Day) → entry_rules 0 E d ≡ day_rules E d
unfolding entry_rules day_rules
entries-day E [] = refl
entries-day E (e ∷ d) = ap (over_items dimensions E (as_rule Normal e) ∷◌) (others E d)

-- A DAY'S RULES OVER THE ITEMS OF RUNS ARE THE PAGE'S
pub day-laid : (Rs : List (List Range)) (d : Day) → day_rules (items_in dimensions Rs) d ≡ rules_of (d, Rs)
unfolding day_rules rules_of
day-laid Rs d = each (as_rules d)
  where
    each : (rs : List Rule) → map (over_items dimensions (items_in dimensions Rs)) rs ≡ map (laid_over dimensions Rs) rs
    each [] = refl
    each (r ∷ rs) = ap₂ ◌∷◌ (sym (over-laid dimensions Rs r)) (each rs)

-- ## In words
module _ (form : Form) (operator : ℕ) (ends counts words : List ℕ) (at n : ℕ) where
  abbrev entered : List Rule
  entered = entry_rules operator (rows_below ends counts 4) (day_in words at n)

  no-entries : n ≡ 0 → entered ≡ []
  unfolding entry_rules part unflat_from
  no-entries e = ap (λ k. entry_rules operator (rows_below ends counts 4) (day_in words at k)) e

  pub no_bits : n ≡ 0 → rules_bits form entered ≡ []
  unfolding flat_map
  no_bits e = ap (rules_bits form) (no-entries e)

  pub no_size : n ≡ 0 → (length entered ≡ 0) × (length (rules_bits form entered) ≡ 0)
  no_size e = (ap length (no-entries e), ap length (no_bits e))

  module _ (many : ℕ) (s : Step form words at n many) where
    -- the rules behind the first
    abbrev later : List Rule
    later = entry_rules 1 (rows_below ends counts 4) (day_in words (at + 2 + many) (n - 2 - many))

    pub entries-bits : rules_bits form entered ≡ rule_bits form operator (get_or words at 0) ends counts (spans_at words (at + 2) many) ++ rules_bits form later
    unfolding entry_rules flat_map
    entries-bits = ap (λ d. rules_bits form (entry_rules operator (rows_below ends counts 4) d)) s.entry

    pub entries-count : (rules : ℕ) → length later ≡ rules → length entered ≡ rules + 1
    unfolding entry_rules
    entries-count rules e =
        let more : length entered ≡ suc (length later) = ap (λ d. length (entry_rules operator (rows_below ends counts 4) d)) s.entry in
        omega (arith, more, e)

-- ## From entry to entry: the rules of those left are the first one's and those of the entries behind it
module _ (form : Form) (ends counts words : List ℕ) where
  -- the rules of the entries from a place on
  abbrev pub left_rules : ℕ → ℕ → List Rule
  left_rules operator at = entry_rules operator (rows_below ends counts 4) (day_in words at (length words - at))

  pub all_rules : day_rules (rows_below ends counts 4) (day_in words 0 (length words)) ≡ left_rules 0 0
  all_rules =
      let n : length words ≡ length words - 0 = omega arith in
      sym (entries-day (rows_below ends counts 4) (day_in words 0 (length words))) ∙ ap (λ k. entry_rules 0 (rows_below ends counts 4) (day_in words 0 k)) n

  pub left_none : (operator at : ℕ) → length words ≤ at → (rules_bits form (left_rules operator at) ≡ []) × (length (left_rules operator at) ≡ 0)
  left_none operator at l =
      let z : length words - at ≡ 0 = omega arith in
      (no_bits form operator ends counts words at (length words - at) z, (no_size form operator ends counts words at (length words - at) z).0)

  -- where none is left, those passed are all
  pub left_all : (operator at rules bits : ℕ) → length words ≤ at → length (left_rules 0 0) ≡ rules + length (left_rules operator at)
      → length (rules_bits form (left_rules 0 0)) ≡ bits + length (rules_bits form (left_rules operator at))
      → (length (day_rules (rows_below ends counts 4) (day_in words 0 (length words))) ≡ rules)
      × (length (rules_bits form (day_rules (rows_below ends counts 4) (day_in words 0 (length words)))) ≡ bits)
  left_all operator at rules bits l e f =
      let none = left_none operator at l in (
        ap length all_rules ∙ omega (arith, e, none.1),
        ap (λ rs. length (rules_bits form rs)) all_rules ∙ omega (arith, f, ap length none.0),
      )

  module _ (operator at : ℕ) (l : at < length words) (w : Whole form words at (length words - at)) where
    abbrev behind : ℕ
    behind = at + 2 + get_or words (at + 1) 0

    later-same : entry_rules 1 (rows_below ends counts 4) (day_in words behind (length words - at - 2 - get_or words (at + 1) 0)) ≡ left_rules 1 behind
    later-same = ap (λ n. entry_rules 1 (rows_below ends counts 4) (day_in words behind n)) (entry_left form words at l w)

    pub left-bits : rules_bits form (left_rules operator at)
        ≡ rule_bits form operator (get_or words at 0) ends counts (map span_at (span_words form words at l w)) ++ rules_bits form (left_rules 1 behind)
    left-bits =
        entries-bits form operator ends counts words at (length words - at) (get_or words (at + 1) 0) (this_entry form words at l w)
        ∙ ap₂ (λ spans rs. rule_bits form operator (get_or words at 0) ends counts spans ++ rules_bits form rs) (sym (entry_spans form words at l w)) later-same

    pub left-count : length (left_rules operator at) ≡ 1 + length (left_rules 1 behind)
    left-count =
        entries-count form operator ends counts words at (length words - at) (get_or words (at + 1) 0) (this_entry form words at l w) _ (ap length later-same)
        ∙ omega arith

    pub left-size : (first : ℕ) → length (rule_bits form operator (get_or words at 0) ends counts (map span_at (span_words form words at l w))) ≡ first
        → length (rules_bits form (left_rules operator at)) ≡ first + length (rules_bits form (left_rules 1 behind))
    left-size first e =
        ap length left-bits
        ∙ omega (
          arith,
          length-append (rule_bits form operator (get_or words at 0) ends counts (map span_at (span_words form words at l w))) (rules_bits form (left_rules 1 behind)),
          e,
        )
