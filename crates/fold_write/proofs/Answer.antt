-- THE ANSWER: what was measured is the length of the sheet that the definition writes, and all answers, refused by 13 or 7 and written, are
-- the definition's. Rests on what is known of the pages (`Paged`) and of the rules left (`Leaving`).
use mathlib.Core.Path.{◌≡◌, refl, sym, ap, ap₂, ◌∙◌}
use mathlib.Core.List.{List, [], ◌∷◌, ◌++◌}
use mathlib.Core.Bool.{Bool, true, false, ◌||◌}
use Prim.Native.Nat.{ℕ, ◌+◌, ◌-◌, ◌^◌, ◌≤◌, ◌<◌}
use native.Mathlib.Omega.{arith}
use lib.Dec.{ltb}
use lib.ListN.{length, length-append}
use lib.Pow.{pow_pos}
use borrow.Author.Tests.{ltb-false, lt-ltb, le-ltb}
use Rattle.laws.specs.Lists.{any_of}
use Rattle.laws.proofs.Flags.{or-false, split-or}
use Rattle.laws.proofs.Lists.{any_of-append, all_any}
use Rattle.laws.proofs.Spread.{flat_map-append}
use Rattle.definition.specs.Field.{bytes_for, packed, no_room}
use Rattle.definition.specs.Rule.{Rule}
use Rattle.definition.specs.Sheet.{Form, most_rules, sheet_limits, opening_width, rule, opening, encode}
use Rattle.definition.specs.Stop.{drained, left, why}
use Rattle.definition.specs.Group.{folded}
use Rattle.definition.specs.Fold.{Folded, numbers, refusal, many_items, passes_counts, fitted, carried, buffer}
use Rattle.forms.specs.declared.Form as forms
use Rattle.forms.specs.Form.{as_form}
use Rattle.sheet_writer.specs.Frame.{between}
use Rattle.sheet_writer.proofs.Frame.{packed-length, rules-bits}
use Rattle.sheet_writer.proofs.Left.{between-length}
use Rattle.day_writer.specs.Rules.{Countable, rules_bits}
use Rattle.tables.specs.Pages.{Paged, paged_rules}
use Rattle.sheet.specs.Parts.{Leaving}
use Rattle.fold_write.specs.Emission.{result_bits, emission}
use Rattle.fold_write.proofs.Sheet.{row-length}

-- ## The definition's answers
abbrev accepted : List Rule → List Rule → List ℕ → Folded
accepted rs page result = record { code = 0; drained = length (drained rs); emitted = length page; left = length (left rs); bytes = length result; place = 0; why = why rs; result = result }

module _ (form : Form) (room : ℕ) (rs page : List Rule) (result : List ℕ) where
  over : room < length result → fitted form sheet_limits room rs page result ≡ refusal no_room (length result)
  unfolding fitted
  over h = rw (lt-ltb room (length result) h, fitted)

  within : length result ≤ room → fitted form sheet_limits room rs page result ≡ accepted rs page result
  unfolding fitted
  within h = rw (le-ltb room (length result) h, fitted)

-- ## What was measured
module _ (form : forms.Form) {sheet states counts spans lists pages : List ℕ} {count start end drained_rules left_rules reason : ℕ} {rs : List Rule}
    (paged : Paged (as_form form) states counts spans lists pages count (drained rs)) (leaving : Leaving (as_form form) sheet rs start end drained_rules left_rules reason) where
  abbrev page : List Rule
  page = paged_rules states counts spans lists pages count

  abbrev result : List ℕ
  result = encode (as_form form) sheet_limits (folded (drained rs) ++ left rs)

  -- so many rules are folded, and so many come out
  module _ {many : ℕ} (counted : length page ≡ many) where
    emitted-many : length (folded (drained rs)) ≡ many
    emitted-many = ap length (sym paged.rules) ∙ counted

    result-many : length (folded (drained rs) ++ left rs) ≡ many + left_rules
    result-many = omega (arith, length-append (folded (drained rs)) (left rs), emitted-many, leaving.left-many)

  -- ## Whether the form can count it
  -- so many rules, of which it was asked whether one has too many items, and how many the form can carry
  module _ {many most : ℕ} {past : Bool} (counted : length page ≡ many) (e : any_of (many_items (as_form form)) page ≡ past) (own : most ≡ most_rules (as_form form)) where
    asked : passes_counts (as_form form) (folded (drained rs) ++ left rs) ≡ ltb most (many + left_rules) || past
    unfolding passes_counts
    asked =
        let items = many_items (as_form form) in
        ap₂ (λ m n. ltb m n || any_of items (folded (drained rs) ++ left rs)) (sym own) (result-many counted)
        ∙ ap (λ b. ltb most (many + left_rules) || b)
        (any_of-append items (folded (drained rs)) (left rs)
        ∙ ap₂ ◌||◌ (ap (any_of items) (sym paged.rules) ∙ e) (all_any items (left rs) leaving.left-counted) ∙ or-false past)

    -- 13, and nothing written
    pub not-counted : ltb most (many + left_rules) || past ≡ true → (out : List ℕ)
        → (13 ∷ 0 ∷ 0 ∷ 0 ∷ 0 ∷ 0 ∷ 0 ∷ [] ≡ numbers (emission (as_form form) (length out) rs)) × (out ≡ buffer (emission (as_form form) (length out) rs).result out)
    unfolding carried
    not-counted h out = let answer = asked ∙ h in (rw (answer, carried) refl, rw (answer, carried) refl)

    -- else it writes as the buffer has room
    module _ (few : ltb most (many + left_rules) || past ≡ false) where
      carries : (room : ℕ) → fitted (as_form form) sheet_limits room rs (folded (drained rs)) result ≡ emission (as_form form) room rs
      unfolding carried
      carries room = let answer = asked ∙ few in rw (answer, carried) refl

      pub count_fits : many + left_rules < 2 ^ (as_form form).rule_count
      count_fits = omega (arith, own, ltb-false most (many + left_rules) (split-or (ltb most (many + left_rules)) past few).0, pow_pos (as_form form).rule_count)

      pub countable : Countable (as_form form) page
      countable = e ∙ (split-or (ltb most (many + left_rules)) past few).1

  -- ## Whether there is room
  -- so many rules of so many bits, behind mark and count
  module _ {many size width : ℕ} (counted : length page ≡ many) (sized : length (rules_bits (as_form form) page) ≡ size) (opened : width ≡ opening_width (as_form form)) where
    abbrev row : List ℕ
    row = result_bits (as_form form) (many + left_rules) page (between sheet start end)

    abbrev bytes : ℕ
    bytes = bytes_for (width + size + (end - start))

    pub row-bits : length row ≡ width + size + (end - start)
    row-bits = omega (arith, row-length (as_form form) (many + left_rules) page (between sheet start end), between-length sheet start end leaving.ordered leaving.inside, sized, opened)

    -- the definition's sheet
    encoded : result ≡ packed row
    unfolding encode result_bits
    encoded =
        let rest = flat_map-append (rule (as_form form) sheet_limits).write (folded (drained rs)) (left rs) ∙ ap₂ ◌++◌ (ap (rules_bits (as_form form)) (sym paged.rules)) (sym leaving.stands) in
        ap packed (rules-bits (as_form form) (folded (drained rs) ++ left rs) ∙ ap₂ (λ n b. (opening (as_form form) sheet_limits).write n ++ b) (result-many counted) rest)

    result-length : length result ≡ bytes
    result-length = ap length encoded ∙ packed-length row ∙ ap bytes_for row-bits

    module _ {most : ℕ} {past : Bool} (e : any_of (many_items (as_form form)) page ≡ past) (own : most ≡ most_rules (as_form form)) (few : ltb most (many + left_rules) || past ≡ false) where
      -- 7, and nothing written
      pub no_room_lem : (out : List ℕ) → length out < bytes
          → (7 ∷ 0 ∷ 0 ∷ 0 ∷ 0 ∷ bytes ∷ 0 ∷ [] ≡ numbers (emission (as_form form) (length out) rs)) × (out ≡ buffer (emission (as_form form) (length out) rs).result out)
      no_room_lem out h =
          let answer = sym (over (as_form form) (length out) rs (folded (drained rs)) result (omega (arith, h, result-length))) ∙ carries counted e own few (length out) in
          (ap (λ n. numbers (refusal no_room n)) (sym result-length) ∙ ap numbers answer, ap (λ f. buffer f.result out) answer)

      -- written
      pub with-room : (out new : List ℕ) → bytes ≤ length out → new ≡ buffer (packed row) out
          → (0 ∷ drained_rules ∷ many ∷ left_rules ∷ bytes ∷ 0 ∷ reason ∷ [] ≡ numbers (emission (as_form form) (length out) rs)) × (new ≡ buffer (emission (as_form form) (length out) rs).result out)
      with-room out new h w =
          let answer = sym (within (as_form form) (length out) rs (folded (drained rs)) result (omega (arith, h, result-length))) ∙ carries counted e own few (length out) in (
            ap₂ (λ d m. 0 ∷ d ∷ m ∷ left_rules ∷ bytes ∷ 0 ∷ reason ∷ []) (sym leaving.drained-many) (sym (emitted-many counted))
                ∙ ap₂ (λ l n. 0 ∷ length (drained rs) ∷ length (folded (drained rs)) ∷ l ∷ n ∷ 0 ∷ reason ∷ []) (sym leaving.left-many) (sym result-length)
                ∙ ap (λ w. 0 ∷ length (drained rs) ∷ length (folded (drained rs)) ∷ length (left rs) ∷ length result ∷ 0 ∷ w ∷ []) (sym leaving.told) ∙ ap numbers answer,
            w ∙ ap (λ w. buffer w out) (sym encoded) ∙ ap (λ f. buffer f.result out) answer,
          )
