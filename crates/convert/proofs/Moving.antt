-- Rules moved one behind the other: where each stands in the sheet, what is written so far, and the room for the rest. Rests on the law of beginnings.
use mathlib.Core.Path.{◌≡◌, refl, sym, ap, ◌∙◌, subst}
use mathlib.Core.Bool.{Bool, true, false, cond}
use mathlib.Core.List.{List, [], ◌∷◌, ◌++◌, flat_map, append_assoc, append-nil}
use Prim.Native.Nat.{ℕ, suc, ◌+◌, ◌^◌, ◌≤◌, ◌<◌}
use native.Mathlib.Omega.{arith}
use lib.Dec.{ltb}
use lib.ListN.{length, drop, get_or, length-append, drop_of_length-le}
use lib.Seq.{drop-cons}
use borrow.Author.Tests.{ltb-true, ltb-false}
use Rattle.definition.specs.Field.{Read, got, sheet_bits}
use Rattle.definition.specs.Rule.{Rule, no_rule}
use Rattle.definition.specs.Sheet.{Form, sheet_limits, rule}
use Rattle.definition.proofs.Bits.{Bytes}
use Rattle.sheet.specs.Begin.{rule_read_at, Readable}
use Rattle.sheet.specs.Parts.{SheetRead}
use Rattle.sheet.proofs.Begins.{Begins, rules-begin}
use Rattle.item_writer.specs.Written.{RoomFor, Wrote}
use Rattle.item_writer.proofs.Chain.{wrote_none, wrote_then, wrote_as, room-first, room-rest, room_as}
use Rattle.convert.proofs.Parts.{rule-size}

-- a list from a place on: its element there, and the list behind it
from_place : (rs : List Rule) (i : ℕ) → i < length rs → drop i rs ≡ get_or rs i no_rule ∷ drop (i + 1) rs
from_place rs i l = let z : suc i ≡ i + 1 = omega arith in drop-cons rs i no_rule l ∙ ap (λ k. get_or rs i no_rule ∷ drop k rs) z

-- ## Where rules stand
module _ (form : Form) (sheet begins : List ℕ) (bytes : Bytes sheet) (rs : List Rule) (end : ℕ) (read : SheetRead form sheet begins rs end) where
  abbrev bits_from : ℕ → List ℕ
  bits_from i = flat_map (rule form sheet_limits).write (drop i rs)

  begun : (i : ℕ) → i < length rs → Begins form (sheet_bits sheet) end rs i (get_or begins i 0)
  begun i l =
      subst (λ b. Begins form (sheet_bits sheet) end rs i (get_or b i 0)) (sym read.noted)
      (rules-begin form sheet rs end read.narrow bytes read.read read.before read.room i l)

  -- a rule, where it begins, and where it ends
  pub record There (i : ℕ) : Type 0 where
    pub readable : Readable form (sheet_bits sheet) (get_or begins i 0)
    pub same : rule_read_at form (sheet_bits sheet) (get_or begins i 0) ≡ get_or rs i no_rule
    pub low : get_or begins i 0 < 2 ^ 25
    pub ends : cond (ltb (i + 1) (length rs)) (get_or begins (i + 1) 0) end ≡ readable.end

  pub there : (i : ℕ) → i < length rs → There i
  unfolding flat_map
  there i l =
      let b = begun i l in
      let p = get_or begins i 0 in
      let size = rule-size form sheet bytes p b.readable in
      let first : bits_from i ≡ (rule form sheet_limits).write (get_or rs i no_rule) ++ bits_from (i + 1) = ap (flat_map (rule form sheet_limits).write) (from_place rs i l) in
      let long = length-append ((rule form sheet_limits).write (get_or rs i no_rule)) (bits_from (i + 1)) in
      let mine : length ((rule form sheet_limits).write (rule_read_at form (sheet_bits sheet) p)) ≡ length ((rule form sheet_limits).write (get_or rs i no_rule)) =
      ap (λ r. length ((rule form sheet_limits).write r)) b.begun-rule in
      let total : end ≡ b.readable.end + length (bits_from (i + 1)) = omega (arith, b.stands.ends, ap length first, long, size, mine) in
      record { readable = b.readable; same = b.begun-rule; low = b.low; ends = go (ltb (i + 1) (length rs)) refl b.readable.end total }
    where
      go : (t : Bool) → ltb (i + 1) (length rs) ≡ t → (q : ℕ) → end ≡ q + length (bits_from (i + 1)) → cond t (get_or begins (i + 1) 0) end ≡ q
      go true e q total = omega (arith, (begun (i + 1) (ltb-true (i + 1) (length rs) e)).stands.ends, total)
      go false e q total = omega (arith, total, ap (λ qs. length (flat_map (rule form sheet_limits).write qs)) (drop_of_length-le rs (ltb-false (i + 1) (length rs) e)))

-- what is read of a sheet is read once
pub rules-once : {form : Form} {sheet begins : List ℕ} (rs qs : List Rule) {end : ℕ} → SheetRead form sheet begins rs end → SheetRead form sheet begins qs end → rs ≡ qs
rules-once rs qs {end} a b = let g : ◌≡◌ {A = Read (List Rule)} (got rs end) (got qs end) = sym a.read ∙ b.read in let same : rs ≡ qs = cc in same

-- ## What is written
module _ (to : Form) (rs : List Rule) where
  abbrev rest : ℕ → List ℕ
  rest i = flat_map (rule to sheet_limits).write (drop i rs)

  abbrev moved : ℕ → List ℕ
  moved i = (rule to sheet_limits).write (get_or rs i no_rule)

  -- the first i rules are written, and for the others there is room
  pub record Moving (old : List ℕ) (place : ℕ) (out : List ℕ) (next i : ℕ) : Type 0 where
    pub done : List ℕ
    pub wrote : Wrote old place done out next
    pub whole : flat_map (rule to sheet_limits).write rs ≡ done ++ rest i
    pub roomy : RoomFor (length out) next (rest i)

  pub moving-none : (old : List ℕ) (place : ℕ) → RoomFor (length old) place (flat_map (rule to sheet_limits).write rs) → Moving old place old place 0
  moving-none old place room = record { done = []; wrote = wrote_none refl; whole = refl; roomy = room }

  module _ {old : List ℕ} {place : ℕ} {out : List ℕ} {next i : ℕ} (m : Moving old place out next i) where
    module _ (l : i < length rs) where
      more : rest i ≡ moved i ++ rest (i + 1)
      unfolding flat_map
      more = ap (flat_map (rule to sheet_limits).write) (from_place rs i l)

      pub rule-room : RoomFor (length out) next (moved i)
      rule-room = room-first (moved i) (rest (i + 1)) (room_as more m.roomy)

      pub moving-more : {out' : List ℕ} {next' : ℕ} → Wrote out next (moved i) out' next' → Moving old place out' next' (i + 1)
      moving-more w = record {
        done = m.done ++ moved i;
        wrote = wrote_then m.wrote w;
        whole = m.whole ∙ ap (m.done ++◌) more ∙ sym (append_assoc m.done (moved i) (rest (i + 1)));
        roomy = room-rest w (rest (i + 1)) (room_as more m.roomy);
      }

    pub moving-all : length rs ≤ i → Wrote old place (flat_map (rule to sheet_limits).write rs) out next
    unfolding flat_map
    moving-all l = wrote_as (m.whole ∙ ap (λ qs. m.done ++ flat_map (rule to sheet_limits).write qs) (drop_of_length-le rs l) ∙ append-nil m.done) m.wrote
