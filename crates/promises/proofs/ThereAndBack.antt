-- A SHEET AND WHAT IT IS CONVERTED TO HAVE THE SAME RULES. So converting back gives the original bytes; the lookup and the line don't depend on the form;
-- and the two folds have the same numbers, the one being the other converted, where neither is held back. Rests on the table of the conversion, on the law
-- that rules move to another form, and on reading again what a fold wrote.
use mathlib.Core.Path.{◌≡◌, refl, sym, ap, ◌∙◌, subst}
use mathlib.Core.List.{List}
use mathlib.Core.Logic.{◌⊎◌, inl, inr}
use mathlib.Core.Bool.{Bool, true, false}
use Prim.Native.Nat.{ℕ, ◌≤◌}
use lib.Dec.{ltb}
use lib.ListN.{length}
use Rattle.laws.proofs.Lists.{All-map}
use Rattle.definition.specs.Rule.{Rule}
use Rattle.definition.specs.Sheet.{Form, Limits, form1, form2, sheet_limits, rules, decode}
use Rattle.definition.specs.Stop.{drained}
use Rattle.definition.specs.Group.{folded}
use Rattle.definition.specs.Fold.{Folded, Drained, fine, over, drain, passes_counts, fitted, carried, fold_rules, fold, written_into}
use Rattle.definition.specs.Show.{show_line}
use Rattle.definition.specs.Lookup.{lookup}
use Rattle.definition.specs.Forms.{convert}
use Rattle.definition.proofs.Bits.{Bytes}
use Rattle.definition.proofs.SheetRead.{encode-decoded, decode-encoded}
use Rattle.definition.proofs.OtherForm.{Holds, holds1, holds2, rules-move}
use Rattle.definition.proofs.FoldCases.{fold-judged}
use Rattle.definition.proofs.Writing.{written-fine}
use Rattle.promises.specs.Conditions.{written, Accepted}
use Rattle.promises.specs.Codes.{Exactly, result}
use Rattle.promises.specs.ReadBack.{widest}
use Rattle.promises.specs.Convert.{AllHaveRoom, GivesBack, SameNumbers, HeldBack, DoneOrHeld, LookupMoves, LineMoves, OfFolds, FoldsAlike, FoldMoves, Moves}
use Rattle.promises.proofs.Reading.{accepted-once}
use Rattle.promises.proofs.SheetBytes.{encoded-bytes}
use Rattle.promises.proofs.FoldCodes.{accepted}
use Rattle.promises.proofs.Counts.{counted-rules}
use Rattle.promises.proofs.ReadBack.{written-lawful, same_bits, fold-reads}
use Rattle.promises.proofs.Convert.{own_room, moved-answer, convert-writes}

-- ## Two folds of the same rules
module _ (limits : Limits) (rs : List Rule) where
  -- into a buffer of `room` bytes, once the drained ones were judged
  abbrev fold_of : Form → ℕ → Drained → Folded
  fold_of form room j = fold_rules form limits room rs j (folded (drained rs))

  fold-cases : (form : Form) (room : ℕ) → HeldBack (fold_of form room fine).code ⊎ (fold_of form room fine ≡ accepted form limits rs)
  unfolding fold_rules carried fitted
  fold-cases form room = go (passes_counts form (written rs)) refl (ltb room (length (result form limits rs))) refl
    where
      go : (a : Bool) → passes_counts form (written rs) ≡ a → (b : Bool) → ltb room (length (result form limits rs)) ≡ b
          → HeldBack (fold_of form room fine).code ⊎ (fold_of form room fine ≡ accepted form limits rs)
      go true x b y = inl (inl (rw (x, carried)))
      go false x true y = inl (inr (rw (x, carried, y, fitted)))
      go false x false y = inr (rw (x, carried, y, fitted))

  module _ (from to : Form) (here there : ℕ) where
    abbrev first : Drained → Folded
    first = fold_of from here

    abbrev second : Drained → Folded
    second = fold_of to there

    judged-alike : (j : Drained) → Exactly (DoneOrHeld (first j).code) (DoneOrHeld (second j).code)
    unfolding fold_rules
    judged-alike (over c p) = record { only = λ h. h; always = λ h. h }
    judged-alike fine = record { only = λ h. either to there; always = λ h. either from here }
      where
        either : (form : Form) (room : ℕ) → DoneOrHeld (fold_of form room fine).code
        either form room = elim (fold-cases form room) [ inl h ↦ inr h | inr e ↦ inl (ap (λ f. f.code) e) ]

    judged-same : (j : Drained) → (HeldBack (first j).code → ⊥) → (HeldBack (second j).code → ⊥) → SameNumbers (first j) (second j)
    unfolding fold_rules
    judged-same (over c p) h k = record { same_code = refl; same-drained = refl; same-emitted = refl; same_left = refl; same_place = refl; same-why = refl }
    judged-same fine h k = go (fold-cases from here) (fold-cases to there)
      where
        go : HeldBack (first fine).code ⊎ (first fine ≡ accepted from limits rs) → HeldBack (second fine).code ⊎ (second fine ≡ accepted to limits rs)
            → SameNumbers (first fine) (second fine)
        go (inl x) y = absurd (h x)
        go (inr x) (inl y) = absurd (k y)
        go (inr x) (inr y) =
            rw (x, y) (record { same_code = refl; same-drained = refl; same-emitted = refl; same_left = refl; same_place = refl; same-why = refl })

-- ## The rules of a sheet and of what it is converted to
record SameRules (from to : Form) (limits : Limits) (sheet moved : List ℕ) : Type 0 where
  rs : List Rule
  read_here : Accepted from limits sheet rs
  read-there : Accepted to limits moved rs
  carried_here : (rules from limits).fits rs ≡ true
  carried-there : (rules to limits).fits rs ≡ true
  bytes-there : Bytes moved

module _ (from to : Form) (limits : Limits) (held : Holds to limits) where
  same-rules : (room : ℕ) (sheet : List ℕ) → Bytes sheet → (convert from to limits room sheet).code ≡ 0
      → SameRules from to limits sheet (convert from to limits room sheet).result
  same-rules room sheet whole e =
      let (rs, a, bytes, n) = convert-writes from to limits room sheet e in
      let here = (encode-decoded from limits sheet whole rs a.0.0 a.0.1).0 in
      let there = rules-move from to limits held rs here a.1 in
      record {
        rs = rs;
        read_here = a.0;
        read-there = (length ((rules to limits).write rs), ap (decode to limits) bytes ∙ decode-encoded to limits rs there);
        carried_here = here;
        carried-there = there;
        bytes-there = subst Bytes (sym bytes) (encoded-bytes to limits rs there);
      }

  pub moved-bytes : (room : ℕ) (sheet : List ℕ) → Bytes sheet → (convert from to limits room sheet).code ≡ 0 → Bytes (convert from to limits room sheet).result
  moved-bytes room sheet whole e = (same-rules room sheet whole e).bytes-there

  -- THERE AND BACK
  gives_back : GivesBack (convert from to limits) (convert to from limits)
  gives_back room room_back sheet whole e l =
      let k = same-rules room sheet whole e in
      moved-answer to from limits room_back _ k.rs (k.read-there, own_room from limits k.rs k.carried_here)
      ∙ ap (written_into room_back) (encode-decoded from limits sheet whole k.rs k.read_here.0 k.read_here.1).1 ∙ written-fine room_back sheet l

  module _ (room : ℕ) (sheet : List ℕ) where
    -- LOOKED UP, AND AS A LINE
    lookup-moves : LookupMoves from to limits room sheet
    unfolding lookup
    lookup-moves whole e y mo d m = let k = same-rules room sheet whole e in rw (k.read-there.1, k.read_here.1, lookup)

    line-moves : LineMoves from to limits room sheet
    unfolding show_line
    line-moves whole e line_room = let k = same-rules room sheet whole e in rw (k.read-there.1, k.read_here.1, show_line)

    -- FOLDED: what holds of two folds of the same rules, judged alike, holds of these
    of-folds : (P : Folded → Folded → Type 0)
        → ((rs : List Rule) (here there : ℕ) (j : Drained) → P (fold_of limits rs from here j) (fold_of limits rs to there j))
        → OfFolds from to limits room sheet P
    of-folds P h whole e here there =
        let k = same-rules room sheet whole e in
        let j = drain limits (drained k.rs) in
        let a = fold-judged from limits here sheet k.rs k.read_here.0 k.read_here.1 j refl in
        let b = fold-judged to limits there _ k.rs k.read-there.0 k.read-there.1 j refl in
        rw (a, b) (h k.rs here there j)

    folds-alike : FoldsAlike from to limits room sheet
    folds-alike = of-folds (λ f g. Exactly (DoneOrHeld f.code) (DoneOrHeld g.code)) (λ rs here there. judged-alike limits rs from to here there)

    fold-moves : FoldMoves from to limits room sheet
    fold-moves whole e here there h k = (same, again)
      where
        f : Folded
        f = fold from limits here sheet

        g : Folded
        g = fold to limits there (convert from to limits room sheet).result

        same : SameNumbers f g
        same = of-folds (λ f g. (HeldBack f.code → ⊥) → (HeldBack g.code → ⊥) → SameNumbers f g) (λ rs here there. judged-same limits rs from to here there)
            whole e here there h k

        again : f.code ≡ 0 → (room_moved : ℕ) → length g.result ≤ room_moved
            → convert from to (widest from limits) room_moved f.result ≡ record { code = 0; bytes = length g.result; place = 0; result = g.result }
        again z room_moved l =
            let both = same-rules room sheet whole e in
            let rs = both.rs in
            let (qs, a, read, means) = fold-reads from limits here sheet whole z in
            let fits : AllHaveRoom to (written rs) = All-map (λ r a. a.0) (written rs) (written-lawful to limits rs both.carried-there) in
            let bytes = (counted-rules to limits there _ (sym same.same_code ∙ z) rs both.read-there).written in
            moved-answer from to (widest from limits) room_moved f.result (written rs)
            (subst (λ qs. Accepted from (widest from limits) f.result (written qs)) (accepted-once from limits sheet qs rs a both.read_here) read, fits)
            ∙ ap (written_into room_moved) (same_bits to limits (widest from limits) (written rs) ∙ sym bytes) ∙ written-fine room_moved g.result l

  pub moves : Moves from to limits
  moves = record { back = gives_back; looked-up = lookup-moves; shown = line-moves; alike = folds-alike; folded = fold-moves }

-- UNDER THE LIMITS OF A SHEET, from form 1 to form 2 and from form 2 to form 1
pub moves-there : Moves form1 form2 sheet_limits
moves-there = moves form1 form2 sheet_limits holds2

pub moves-back : Moves form2 form1 sheet_limits
moves-back = moves form2 form1 sheet_limits holds1
