-- DEMAND 1 AND 2, THE CONVERSION: an entry that writes, with the code 12 of its own; an accepted sheet is written as its rules in the other form. Rests
-- on the law of such entries, and on what a rule that a sheet carries keeps to.
use mathlib.Core.Path.{◌≡◌, refl, sym, ap, ◌∙◌}
use mathlib.Core.List.{List}
use mathlib.Core.Logic.{◌⊎◌, inl, inr}
use mathlib.Core.Option.{Option, none, some, some-ne-none}
use mathlib.Core.Bool.{Bool, true}
use Prim.Native.Nat.{ℕ, ◌^◌, ◌≤◌}
use native.Mathlib.Nat.{pow-le-pow_right}
use native.Mathlib.Omega.{arith}
use lib.Dec.{eqb, leb}
use borrow.Author.Tests.{eqb-true, leb-false, lt-leb}
use Rattle.laws.specs.Lists.{first_index}
use Rattle.laws.proofs.Lists.{All-map, every-all}
use Rattle.laws.proofs.Passing.{first-at, first-none, Found, first_found}
use Rattle.definition.specs.Field.{long_comment}
use Rattle.definition.specs.Rule.{Rule}
use Rattle.definition.specs.Sheet.{Form, Limits, form1, form2, rule, rules, encode}
use Rattle.definition.specs.Fold.{unwritten, written_into}
use Rattle.definition.specs.Forms.{first_long_comment, convert_rules, convert}
use Rattle.definition.proofs.SheetRead.{encode-decoded}
use Rattle.definition.proofs.Lawful.{rules-each}
use Rattle.definition.proofs.Carried.{comment-carried}
use Rattle.promises.specs.Convert.{FirstWithoutRoom, AllHaveRoom, LongComment, Movable, MovingRows, ConvertCodes, ConvertWrites, ConvertNothing, LongGoingBack, NeverLong}
use Rattle.promises.proofs.Reading.{row}
use Rattle.promises.proofs.Entries.{Entry, entry-codes, entry-writes, entry-nothing}

-- ## The first comment that has no room
module _ (to : Form) (rs : List Rule) where
  long-index : (k : ℕ) → FirstWithoutRoom to rs k → first_long_comment to rs ≡ some k
  unfolding first_long_comment
  long-index k h = first-at _ rs k h

  room-index : AllHaveRoom to rs → first_long_comment to rs ≡ none
  unfolding first_long_comment
  room-index h = first-none _ rs (All-map (λ r l. lt-leb _ _ l) rs h)

  room-cases : ((k : ℕ) × FirstWithoutRoom to rs k) ⊎ AllHaveRoom to rs
  room-cases = go (first_index long rs) (first_found long rs)
    where
      long : Rule → Bool
      long r = leb (2 ^ to.comment) r.state.comment

      go : (o : Option ℕ) → Found long rs o → ((k : ℕ) × FirstWithoutRoom to rs k) ⊎ AllHaveRoom to rs
      go none h = inr (All-map (λ r e. leb-false _ _ e) rs h)
      go (some k) h = inl (k, h)

-- comments have room in the form that they were read in
pub own_room : (form : Form) (limits : Limits) (rs : List Rule) → (rules form limits).fits rs ≡ true → AllHaveRoom form rs
own_room form limits rs f = every-all _ (rule form limits).fits (comment-carried form limits) rs (rules-each form limits rs f)

module _ (from to : Form) (limits : Limits) (room : ℕ) (sheet : List ℕ) where
  long-answer : (p : ℕ) → LongComment from to limits sheet p → convert from to limits room sheet ≡ unwritten long_comment p
  unfolding convert convert_rules
  long-answer p h = rw (h.1.1, convert, long-index to h.0 p h.2, convert_rules)

  pub moved-answer : (rs : List Rule) → Movable from to limits sheet rs → convert from to limits room sheet ≡ written_into room (encode to limits rs)
  unfolding convert convert_rules
  moved-answer rs a = rw (a.0.1, convert, room-index to rs a.1, convert_rules)

  moved : Entry from limits sheet room (convert from to limits room sheet) (Movable from to limits sheet) (encode to limits)
      (MovingRows from to limits sheet room)
  unfolding convert
  moved = record {
    refused-answer = λ c p e. rw (e, convert);
    ready-answer = moved-answer;
    accepted-cases = λ rs a. elim (room-cases to rs) [
      | inl k ↦ let h : LongComment from to limits sheet k.0 = (rs, a, k.1) in inl (long_comment, k.0, h, long-answer k.0 h)
      | inr h ↦ inr (a, h)
    ];
    row-cases = λ c p. row (eqb c long_comment) (λ t h. inl (long-answer p h ∙ ap (λ i. unwritten i p) (sym (eqb-true c long_comment t)))) inr;
    room_row = λ p h. h;
    done-row = λ p. record { only = λ h. h; always = λ h. h };
  }

  -- THE TABLE
  pub convert-codes : ConvertCodes from to limits sheet room
  convert-codes = entry-codes moved

  -- WHAT IS WRITTEN: the rules in the other form, or nothing
  pub convert-writes : ConvertWrites from to limits sheet room
  convert-writes e = let k = entry-writes moved e in (k.0, k.1, ap (λ w. w.result) k.2, ap (λ w. w.bytes) k.2)

  pub convert-nothing : ConvertNothing from to limits sheet room
  convert-nothing = entry-nothing moved

  -- 12 IS NEVER GIVEN where the other form's comments are no narrower
  never-long : from.comment ≤ to.comment → NeverLong from to limits room sheet
  never-long wide whole e =
      let h = (convert-codes 12 (convert from to limits room sheet).place).only (e, refl) in
      let carried = (encode-decoded from limits sheet whole h.0 h.1.0 h.1.1).0 in
      let wider = pow-le-pow_right {n = 2} (omega arith) wide in
      let fit : AllHaveRoom to h.0 = All-map (λ r l. omega (arith, l, wider)) h.0 (own_room from limits h.0 carried) in
      some-ne-none _ (sym (long-index to h.0 _ h.2) ∙ room-index to h.0 fit)

-- 12 IN PLAIN NUMBERS, both ways
module _ (limits : Limits) (room : ℕ) (sheet : List ℕ) where
  pub long-going-back : LongGoingBack limits room sheet
  long-going-back p = convert-codes form2 form1 limits room sheet 12 p

  pub never-going-there : NeverLong form1 form2 limits room sheet
  never-going-there = never-long form1 form2 limits room sheet (omega arith)
