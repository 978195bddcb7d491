-- LARGER SHEETS: what raised limits keep, and where 13 comes. Rests on the table of the fold, on how a sheet is read under raised limits, on the law that a
-- form's counts can carry what the limits let come out, and on the law that a sheet and what it is converted to fold alike.
use mathlib.Core.Path.{◌≡◌, refl, sym, ap, ◌∙◌}
use mathlib.Core.List.{List}
use mathlib.Core.Logic.{◌⊎◌, inl, inr}
use mathlib.Core.Bool.{Bool, true, false, ◌&&◌}
use mathlib.Core.Option.{Option, none, some}
use Prim.Native.Nat.{ℕ, suc, ◌≤◌, ◌<◌}
use native.Mathlib.Omega.{arith}
use lib.Dec.{ltb}
use Rattle.definition.specs.Field.{Read, got, refused, many_boxes, many_lists, field, ◌then◌, via, tagged, several}
use Rattle.definition.specs.Rule.{midnight24, Rule}
use Rattle.definition.specs.Sheet.{Form, Limits, form1, form2, sheet_limits, former_limits, title, counts, head, rule, opening, rules, decode, encode}
use Rattle.definition.specs.Stop.{drained}
use Rattle.definition.specs.Point.{dimensions}
use Rattle.definition.specs.Lists.{first_refused}
use Rattle.definition.specs.Overlap.{first_overlap}
use Rattle.definition.specs.Box.{box_count}
use Rattle.definition.specs.Group.{folded}
use Rattle.definition.specs.Date.{is_date}
use Rattle.definition.specs.Fold.{Drained, over, drain, fitted, carried, fold_rules, fold, write_back}
use Rattle.definition.specs.Show.{show_line}
use Rattle.definition.specs.Lookup.{look_rules, lookup}
use Rattle.definition.specs.Forms.{convert_rules, convert}
use Rattle.laws.proofs.Numbers.{at_most}
use Rattle.definition.proofs.Faithful.{clash}
use Rattle.definition.proofs.Lists.{refused-alike}
use Rattle.definition.proofs.Drained.{drain-twice, drain-many, drain-lists, drain-fine}
use Rattle.definition.proofs.Counts.{lists-count}
use Rattle.definition.proofs.FoldBox.{drained-all}
use Rattle.definition.proofs.Lawful.{Lawful, rules-lawful}
use Rattle.definition.proofs.SheetRead.{encode-decoded}
use Rattle.definition.proofs.RuleCounts.{Roomy, roomy2, roomy-former1, roomy-former2, counts-fit}
use Rattle.definition.proofs.OtherForm.{holds2}
use Rattle.definition.proofs.FoldCases.{fold-refused, fold-judged, fold_over}
use Rattle.promises.specs.Conditions.{written}
use Rattle.promises.specs.Convert.{DoneOrHeld}
use Rattle.promises.specs.LargerSheets.{NeverPast, NeverMany, Form2Can, OnlyInForm1, Raised, Stays, RaisedKeeps, RemainLawful, StoredSheets}
use Rattle.promises.proofs.Reading.{met-read}
use Rattle.promises.proofs.Lists.{counted-most}
use Rattle.promises.proofs.PastCounts.{fits-none}
use Rattle.promises.proofs.FoldCodes.{foldable-fine, fold-codes}
use Rattle.promises.proofs.ReadBack.{same_bits}
use Rattle.promises.proofs.ThereAndBack.{moved-bytes, moves-there, moves-back}
use Rattle.promises.proofs.RaisedReading.{reads_same}

-- ## 13
-- NEVER where the form's counts can carry what the limits let come out
never-past : (form : Form) (limits : Limits) → Roomy form limits → (room : ℕ) (sheet : List ℕ) → NeverPast form limits room sheet
never-past form limits roomy room sheet whole e =
    let (rs, h, more, z) = (fold-codes form limits room sheet 13 (fold form limits room sheet).place).only (e, refl) in
    let accepted = h.0.0.0 in
    fits-none form (written rs) (counts-fit form limits roomy sheet whole rs accepted.0 accepted.1 (foldable-fine form limits room sheet rs h)) more

-- a fold is done or held back where another is
form2-can : (one two : ℕ) → (DoneOrHeld one → DoneOrHeld two) → (two ≡ 13 → ⊥) → Form2Can one two
form2-can one two alike never = (never, λ e. go (alike (inr (inl e))))
  where
    go : DoneOrHeld two → (two ≡ 0) ⊎ (two ≡ 7)
    go (inl e) = inl e
    go (inr (inl e)) = absurd (never e)
    go (inr (inr e)) = inr e

-- ONLY IN FORM 1
pub only-in-form1 : (room : ℕ) (sheet : List ℕ) → OnlyInForm1 sheet_limits room sheet
only-in-form1 room sheet = record {
  exactly = λ p. fold-codes form1 sheet_limits room sheet 13 p;
  never = never-in-form2 room sheet;
  there = λ whole e here there. form2-can _ _ (moves-there.alike room sheet whole e here there).only
      (never-in-form2 there _ (moved-bytes form1 form2 sheet_limits holds2 room sheet whole e));
  back = λ whole e here there. form2-can _ _ (moves-back.alike room sheet whole e here there).always (never-in-form2 here sheet whole);
}
  where
    never-in-form2 : (room : ℕ) (sheet : List ℕ) → NeverPast form2 sheet_limits room sheet
    never-in-form2 = never-past form2 sheet_limits roomy2

-- ## Raised limits
module _ (limits raised : Limits) (up : Raised limits raised) where
  -- drained rules that 5 doesn't refuse are judged as before, where 14 refuses them neither before nor now
  module _ (ds : List Rule) (h : (c p : ℕ) → drain limits ds ≡ over c p → (c ≡ many_boxes → ⊥) × (c ≡ many_lists → ⊥)) (g : (p : ℕ) → drain raised ds ≡ over many_lists p → ⊥) where
    module _ (t : first_overlap ds ≡ none) (l : box_count dimensions ds ≤ limits.boxes) where
      few : box_count dimensions ds ≤ raised.boxes
      few = omega (arith, up.boxes-raised)

      -- 6 has its limit, and 14 comes in neither
      same-refused : first_refused raised ds ≡ first_refused limits ds
      same-refused =
          refused-alike raised limits ds up.entries-kept (λ k e. g k (drain-lists raised ds t few many_lists k e))
          (λ k e. (h many_lists k (drain-lists limits ds t l many_lists k e)).1 refl)

      by-lists : (o : Option (ℕ × ℕ)) → first_refused limits ds ≡ o → drain raised ds ≡ drain limits ds
      by-lists none e = drain-fine raised ds t few (same-refused ∙ e) ∙ sym (drain-fine limits ds t l e)
      by-lists (some m) e = drain-lists raised ds t few m.0 m.1 (same-refused ∙ e) ∙ sym (drain-lists limits ds t l m.0 m.1 e)

    judged-same : drain raised ds ≡ drain limits ds
    judged-same = go (first_overlap ds) refl (at_most (box_count dimensions ds) limits.boxes)
      where
        go : (o : Option ℕ) → first_overlap ds ≡ o → (box_count dimensions ds ≤ limits.boxes) ⊎ (limits.boxes < box_count dimensions ds) → drain raised ds ≡ drain limits ds
        go (some k) t b = drain-twice raised ds k t ∙ sym (drain-twice limits ds k t)
        go none t (inl l) = by-lists t l (first_refused limits ds) refl
        go none t (inr l) = absurd ((h many_boxes _ (drain-many limits ds t l)).0 refl)

  look-same : (rs : List Rule) (y mo d m : ℕ) → Stays (look_rules limits rs y mo d m).code (look_rules raised rs y mo d m).code → look_rules raised rs y mo d m ≡ look_rules limits rs y mo d m
  unfolding look_rules
  look-same rs y mo d m h = go (is_date y mo d && ltb m midnight24) refl
    where
      go : (b : Bool) → is_date y mo d && ltb m midnight24 ≡ b → look_rules raised rs y mo d m ≡ look_rules limits rs y mo d m
      go false e = rw (e, look_rules)
      go true e = let k = judged-same (drained rs) (λ c p z. (λ q. h.0 (rw (e, z, look_rules) q), λ q. h.1 (rw (e, z, look_rules) q))) (λ p z. h.2 (rw (e, z, look_rules))) in rw (e, k, look_rules)

  -- bits don't depend on limits: judged rules are written as before, and so are converted ones
  writes-same : (form : Form) (room : ℕ) (rs : List Rule)
      → ((j : Drained) (folded_rules : List Rule) → fold_rules form raised room rs j folded_rules ≡ fold_rules form limits room rs j folded_rules)
      × (convert_rules form raised room rs ≡ convert_rules form limits room rs)
  unfolding fold_rules carried fitted convert_rules encode rules opening rule head title counts tagged via ◌then◌ several field
  writes-same form room rs = (λ j folded_rules. refl, refl)

  module _ (form : Form) (sheet : List ℕ) (same : decode form raised sheet ≡ decode form limits sheet) where
    fold_same : (room : ℕ) → Stays (fold form limits room sheet).code (fold form raised room sheet).code → fold form raised room sheet ≡ fold form limits room sheet
    fold_same room h = go (decode form limits sheet) refl
      where
        go : (r : Read (List Rule)) → decode form limits sheet ≡ r → fold form raised room sheet ≡ fold form limits room sheet
        go (refused c p) e = fold-refused form raised room sheet c p (same ∙ e) ∙ sym (fold-refused form limits room sheet c p e)
        go (got rs q) e =
            let j = drain limits (drained rs) in
            let k = judged-same (drained rs)
            (λ c p z. let over-code = ap (λ f. f.code) (fold_over form limits room sheet rs q e c p z) in (λ i. h.0 (over-code ∙ i), λ i. h.1 (over-code ∙ i)))
            (λ p z. h.2 (ap (λ f. f.code) (fold_over form raised room sheet rs q (same ∙ e) many_lists p z))) in
            fold-judged form raised room sheet rs q (same ∙ e) j k ∙ (writes-same form room rs).0 j (folded (drained rs))
            ∙ sym (fold-judged form limits room sheet rs q e j refl)

    lookup-same : (y mo d m : ℕ) → Stays (lookup form limits sheet y mo d m).code (lookup form raised sheet y mo d m).code
        → lookup form raised sheet y mo d m ≡ lookup form limits sheet y mo d m
    unfolding lookup
    lookup-same y mo d m h = go (decode form limits sheet) refl
      where
        go : (r : Read (List Rule)) → decode form limits sheet ≡ r → lookup form raised sheet y mo d m ≡ lookup form limits sheet y mo d m
        go (refused c p) e = rw (same, e, lookup)
        go (got rs q) e = rw (same, e, lookup) (look-same rs y mo d m (λ z. h.0 (rw (e, lookup) z), λ z. h.1 (rw (e, lookup) z), λ z. h.2 (rw (same, e, lookup) z)))

    back-same : (room : ℕ) → write_back form raised room sheet ≡ write_back form limits room sheet
    unfolding write_back
    back-same room = go (decode form limits sheet) refl
      where
        go : (r : Read (List Rule)) → decode form limits sheet ≡ r → write_back form raised room sheet ≡ write_back form limits room sheet
        go (refused c p) e = rw (same, e, write_back)
        go (got rs q) e = rw (same, e, write_back, same_bits form limits raised rs)

    line_same : (room : ℕ) → show_line form raised room sheet ≡ show_line form limits room sheet
    unfolding show_line
    line_same room = rw (same, show_line)

    convert-same : (to : Form) (room : ℕ) → convert form to raised room sheet ≡ convert form to limits room sheet
    unfolding convert
    convert-same to room = go (decode form limits sheet) refl
      where
        go : (r : Read (List Rule)) → decode form limits sheet ≡ r → convert form to raised room sheet ≡ convert form to limits room sheet
        go (refused c p) e = rw (same, e, convert)
        go (got rs q) e = rw (same, e, convert) (writes-same to room rs).1

-- THE LAW OF RAISED LIMITS
pub raised_keeps : (form : Form) (limits raised : Limits) → Raised limits raised → RaisedKeeps form limits raised
raised_keeps form limits raised up sheet h =
    let same = reads_same form limits raised up sheet h in
    record {
      same-reading = same;
      same_fold = fold_same limits raised up form sheet same;
      same-lookup = lookup-same limits raised up form sheet same;
      same_back = back-same limits raised up form sheet same;
      same_line = line_same limits raised up form sheet same;
      same-conversion = convert-same limits raised up form sheet same;
    }

-- an accepted sheet isn't refused by 4
pub remain-lawful : (form : Form) (limits raised : Limits) → Raised limits raised → RemainLawful form limits raised
remain-lawful form limits raised up sheet rs a =
    let same = raised_keeps form limits raised up sheet (λ p m. clash 4 p rs a.0 (sym (met-read form limits sheet 4 p m) ∙ a.1)) in
    ((a.0, same.same-reading ∙ a.1), same)

-- ## Stored sheets
-- where there may be as many lists as boxes, there are never too many
pub never-many : (form : Form) (limits : Limits) → limits.boxes ≤ limits.lists → (room : ℕ) (sheet : List ℕ) → NeverMany form limits room sheet
never-many form limits l room sheet whole e =
    let h = (fold-codes form limits room sheet 14 (fold form limits room sheet).place).only (e, refl) in
    let rs = h.0 in
    let a = h.1.0.0 in
    let n = suc (fold form limits room sheet).place in
    let many = h.2.2 in
    let lawful = drained-all Lawful rs (rules-lawful form limits rs (encode-decoded form limits sheet whole rs a.0 a.1).0) in
    omega (arith, l, h.1.1, many.2, counted-most (drained rs) n many.0 many.1, lists-count (drained rs) lawful n)

pub raised-now : Raised former_limits sheet_limits
raised-now = omega arith

stored : (form : Form) → Roomy form former_limits → StoredSheets form
stored form roomy = record {
  answers = raised_keeps form former_limits sheet_limits raised-now;
  lawful = lawful;
  never-before = before;
  never-now = λ room sheet rs a h whole e.
      before room sheet whole (sym (ap (λ f. f.code) ((lawful sheet rs a).1.same_fold room (h, never-many form former_limits (omega arith) room sheet whole, λ z. absurd (omega arith)))) ∙ e);
  never-many = never-many form former_limits (omega arith);
}
  where
    lawful : RemainLawful form former_limits sheet_limits
    lawful = remain-lawful form former_limits sheet_limits raised-now

    before : (room : ℕ) (sheet : List ℕ) → NeverPast form former_limits room sheet
    before = never-past form former_limits roomy

-- IN BOTH FORMS
pub stored1 : StoredSheets form1
stored1 = stored form1 roomy-former1

pub stored2 : StoredSheets form2
stored2 = stored form2 roomy-former2
