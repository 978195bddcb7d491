-- DEMAND 2: what an accepted fold counts and wrote, and that a refused one counted and wrote nothing. Rests on the conditions of the codes.
use mathlib.Core.Path.{◌≡◌, refl, sym, ap, ◌∙◌, subst}
use mathlib.Core.List.{List, ◌++◌}
use Prim.Native.Nat.{ℕ, ◌≤◌}
use lib.ListN.{length}
use Rattle.definition.specs.Rule.{Rule}
use Rattle.definition.specs.Sheet.{Form, Limits, encode}
use Rattle.definition.specs.Stop.{drained, left}
use Rattle.definition.proofs.Drained.{left_behind}
use Rattle.definition.specs.Group.{folded}
use Rattle.definition.specs.Fold.{Folded, fold}
use Rattle.promises.specs.Conditions.{Accepted}
use Rattle.promises.specs.Counts.{Counted, Nothing, AcceptedCounts, RefusedNothing, SameFolded}
use Rattle.promises.proofs.Reading.{accepted-once}
use Rattle.promises.proofs.FoldCodes.{Done, done-answer, refused-whole, fold-codes}

module _ (form : Form) (limits : Limits) (room : ℕ) (sheet : List ℕ) where
  abbrev answer : Folded
  answer = fold form limits room sheet

  -- what an accepted fold answers
  done-counted : (p : ℕ) (d : Done form limits room sheet p) → Counted form limits d.0 answer
  done-counted p d = subst (Counted form limits d.0) (sym (done-answer form limits room sheet p d)) (record {
    drained-counted = refl;
    left-counted = refl;
    all-counted = (left_behind d.0).1;
    emitted-counted = refl;
    why-told = refl;
    written = refl;
    bytes_counted = refl;
  })

  accepted-done : answer.code ≡ 0 → Done form limits room sheet answer.place
  accepted-done e = (fold-codes form limits room sheet 0 answer.place).only (e, refl)

  -- THE COUNTS
  pub accepted-counts : AcceptedCounts form limits room sheet
  accepted-counts e =
      let d = accepted-done e in
      let k = done-counted answer.place d in
      (d.0, d.1.0.0.0.0, k, subst (◌≤ room) (sym (k.bytes_counted ∙ ap length k.written)) d.2)

  -- the same of the rules that the sheet is read as
  pub counted-rules : answer.code ≡ 0 → (rs : List Rule) → Accepted form limits sheet rs → Counted form limits rs answer
  counted-rules e rs a =
      let k = accepted-counts e in
      subst (λ qs. Counted form limits qs answer) (accepted-once form limits sheet k.0 rs k.1 a) k.2

  -- A REFUSED FOLD DOES NOTHING
  pub refused-nothing : RefusedNothing form limits room sheet
  refused-nothing h = subst Nothing (sym (refused-whole form limits room sheet h))
      (record { none-drained = refl; none_emitted = refl; none_left = refl; no-reason = refl; no_bytes = refl; none_written = refl })

-- THE SAME DRAINED RULES, THE SAME FOLDED RULES
pub same-folded : (form : Form) (limits : Limits) (room : ℕ) (sheet : List ℕ) (place : ℕ) (other : List ℕ) → SameFolded form limits room sheet place other
same-folded form limits room sheet place other e g rs qs a b same =
    let c = counted-rules form limits room sheet e rs a in
    let d = counted-rules form limits place other g qs b in
    record {
      page = folded (drained rs);
      first-emitted = c.emitted-counted;
      second-emitted = d.emitted-counted ∙ ap (λ ds. length (folded ds)) (sym same);
      first-written = c.written;
      second-written = d.written ∙ ap (λ ds. encode form limits (folded ds ++ left qs)) (sym same);
    }
