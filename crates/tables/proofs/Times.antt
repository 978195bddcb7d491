-- A LIST OF NUMBERS OVER THE TABLES names the rules themselves: their states and spans are read back from their numbers. Rests on the
-- laws that every state has a number of its own, and every span that a sheet can carry.
use mathlib.Core.Path.{◌≡◌, refl, sym, ap, ap₂, ◌∙◌}
use mathlib.Core.Bool.{true}
use mathlib.Core.List.{List, [], ◌∷◌, map}
use Prim.Native.Nat.{ℕ, zero, suc, ◌+◌, ◌*◌, ◌<◌}
use native.Mathlib.Omega.{arith}
use lib.ListN.{length, get_or, length-map}
use Rattle.laws.specs.Lists.{All}
use Rattle.laws.proofs.Lists.{All-at, every-all}
use Rattle.definition.specs.Rule.{Normal, Span, Rule, no_rule}
use Rattle.definition.specs.Sheet.{form2, sheet_limits, span, rule}
use Rattle.definition.specs.Day.{Entry, flattened, entry_of, day, day_of}
use Rattle.definition.specs.Group.{as_rule}
use Rattle.definition.proofs.Lawful.{items-fit}
use Rattle.codes.specs.Number.{state_coded, span_number, span_at}
use Rattle.codes.proofs.Numbers.{number-state, number-span}
use Rattle.codes.proofs.Carried.{span-carried, span-numbered}
use Rattle.words.specs.Words.{part}
use Rattle.day_flat.specs.Day.{list_rules}
use Rattle.tables.specs.Rules.{TimesAt, RuleTimes}

-- ## Lists
-- words that stand in a buffer from a place on
part_held : (s : List ℕ) (at : ℕ) (xs : List ℕ) → ((j : ℕ) → j < length xs → get_or s (at + j) 0 ≡ get_or xs j 0) → part s at (length xs) ≡ xs
unfolding part
part_held s at [] h = refl
part_held s at (x ∷ xs) h =
    ap₂ ◌∷◌ (ap (λ j. get_or s j 0) (let e : at ≡ at + 0 = omega arith in e) ∙ h 0 (omega arith))
    (part_held s (at + 1) xs (λ j l. ap (λ k. get_or s k 0) (let e : at + 1 + j ≡ at + suc j = omega arith in e) ∙ h (suc j) (omega arith)))

-- ## A rule in its rows
spans-back : (xs : List Span) → All (λ s. span.fits s ≡ true) xs → map span_at (map span_number xs) ≡ xs
spans-back [] h = refl
spans-back (x ∷ xs) h = ap₂ ◌∷◌ (number-span x (span-numbered x (span-carried x h.0))) (spans-back xs h.1)

module _ (states counts spans : List ℕ) where
  -- the entry that a number names
  abbrev pub entry_at : ℕ → Entry
  entry_at k = (state_coded (get_or states k 0), map span_at (part spans (k * 16) (get_or counts k 0)))

  pub entry-back : (k : ℕ) (r : Rule) → TimesAt states counts spans k r → (rule form2 sheet_limits).fits r ≡ true → entry_at k ≡ entry_of r
  entry-back k r h f =
      let numbers = map span_number r.spans in
      let long : get_or counts k 0 ≡ length numbers = h.count_held ∙ sym (length-map r.spans span_number) in
      let held : part spans (k * 16) (get_or counts k 0) ≡ numbers =
      ap (part spans (k * 16)) long ∙ part_held spans (k * 16) numbers (λ j l. h.spans-held j (omega (arith, length-map r.spans span_number))) in
      let fit = every-all (λ s. span.fits s ≡ true) span.fits (λ s e. e) r.spans (items-fit form2 sheet_limits r f).spans_fit in
      ap₂ (λ S ss. (S, ss)) (ap state_coded h.state-held ∙ number-state r.state) (ap (map span_at) held ∙ spans-back r.spans fit)

  -- ## A list
  -- rules from a place of a longer list on
  rules-later : (x : ℕ) (list : List ℕ) (i j n : ℕ) → j ≡ suc i → list_rules states counts spans (x ∷ list) j n ≡ list_rules states counts spans list i n
  unfolding list_rules
  rules-later x list i j zero e = refl
  rules-later x list i j (suc n) e =
      ap₂ (λ k l. as_rule Normal (entry_at k) ∷ l) (ap (λ k. get_or (x ∷ list) k 0) e) (rules-later x list (i + 1) (j + 1) n (omega arith))

  module _ (rs : List Rule) (tables : RuleTimes states counts spans rs) where
    -- THE LIST'S ENTRIES ARE ITS RULES'
    pub entries-listed : (list : List ℕ) → All (λ k. k < length rs) list
        → map entry_of (list_rules states counts spans list 0 (length list)) ≡ map entry_of (map (λ k. get_or rs k no_rule) list)
    unfolding list_rules
    entries-listed [] h = refl
    entries-listed (k ∷ list) h =
        ap₂ ◌∷◌ (entry-back k (get_or rs k no_rule) (tables.each k h.0) (All-at _ rs no_rule tables.fits k h.0))
        (ap (map entry_of) (rules-later k list 0 1 (length list) refl) ∙ entries-listed list h.1)

    -- and so its day is theirs
    pub day-listed : (list : List ℕ) → All (λ k. k < length rs) list → day (list_rules states counts spans list 0 (length list)) ≡ day (map (λ k. get_or rs k no_rule) list)
    unfolding day
    day-listed list h = ap (λ es. day_of (flattened es)) (entries-listed list h)
