-- Marks taken away from some columns: a part of the list filled with 0.
use mathlib.Core.Path.{◌≡◌, refl, sym, ap, ◌∙◌}
use mathlib.Core.Bool.{false}
use mathlib.Core.List.{List, ◌++◌, append_assoc}
use Prim.Native.Nat.{ℕ, zero, suc, ◌+◌, ◌≤◌}
use native.Mathlib.Omega.{arith}
use lib.ListN.{length, set, take, drop}
use lib.Seq.{sets, sets-eq}
use borrow.Rule.Slice.PartMut.{put_mid}
use Rattle.std.proofs.lemmas.List.Edits.{paste_all}
use Rattle.std.proofs.lemmas.Slice.{put_mid-paste}
use Rattle.std.proofs.Common.{replicate}
use Rattle.std.proofs.lemmas.List.{length-replicate}
use Rattle.paving.specs.Grid.{paint}

paint-sets : (base j r : ℕ) (s : List ℕ) → paint (λ _. false) base j r s ≡ sets s (base + j) (replicate r 0)
unfolding paint
paint-sets base j zero s = refl
paint-sets base j (suc r) s =
    let z : base + (j + 1) ≡ suc (base + j) = omega arith in
    paint-sets base (j + 1) r (set s (base + j) 0) ∙ ap (λ n. sets (set s (base + j) 0) n (replicate r 0)) z

pub unmarked : (s ys : List ℕ) (base width k : ℕ) → base + width ≤ length s → k ≡ width → ys ≡ replicate k 0
    → put_mid base k s ys ≡ paint (λ _. false) base 0 width s
unmarked s ys base width k h e y =
    let z : base + 0 ≡ base = omega arith in
    let zeros = replicate width 0 in
    let many : length zeros ≡ width = length-replicate width 0 in
    put_mid-paste base k s ys zeros width (y ∙ ap (λ n. replicate n 0) e) (sym e) (sym many)
    ∙ paste_all s base zeros width (sym many) ∙ sym (append_assoc (take base s) zeros (drop (base + width) s))
    ∙ ap (λ n. take base s ++ zeros ++ drop (base + n) s) (sym many) ∙ sym (sets-eq zeros s base (omega (arith, h, many)))
    ∙ ap (λ n. sets s n zeros) (sym z) ∙ sym (paint-sets base 0 width s)
