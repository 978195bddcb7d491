-- Writing back is copying. Rests on the law that what was read is what was written.
use mathlib.Core.Path.{◌≡◌, refl, sym, ap, ap₂}
use mathlib.Core.List.{List}
use Prim.Native.Nat.{ℕ}
use lib.ListN.{length}
use Rattle.definition.specs.Field.{Read, got, refused, and_then}
use Rattle.definition.specs.Rule.{Rule}
use Rattle.definition.specs.Sheet.{Form, sheet_limits, decode}
use Rattle.definition.specs.Fold.{unwritten, written_into, write_back}
use Rattle.definition.proofs.Bits.{Bytes}
use Rattle.definition.proofs.Faithful.{clash}
use Rattle.definition.proofs.SheetRead.{encode-decoded}
use Rattle.sheet.specs.Rules.{checked}

module _ (form : Form) where
  module _ (room : ℕ) (sheet : List ℕ) where
    pub back-refused : (c p : ℕ) → checked form sheet ≡ refused c p → write_back form sheet_limits room sheet ≡ unwritten c p
    unfolding checked write_back
    back-refused c p e = go (decode form sheet_limits sheet) refl e
      where
        go : (w : Read (List Rule)) → decode form sheet_limits sheet ≡ w → and_then (λ rs q. got (length rs) q) w ≡ refused c p
            → write_back form sheet_limits room sheet ≡ unwritten c p
        go (got rs q) h g = clash c p (length rs) q (sym g)
        go (refused d q) h g =
            let x : d ≡ c = cc in
            let y : q ≡ p = cc in
            rw (h, write_back) (ap₂ unwritten x y)

    pub back-copied : Bytes sheet → (n q : ℕ) → checked form sheet ≡ got n q → write_back form sheet_limits room sheet ≡ written_into room sheet
    unfolding checked write_back
    back-copied b n q e = go (decode form sheet_limits sheet) refl e
      where
        go : (w : Read (List Rule)) → decode form sheet_limits sheet ≡ w → and_then (λ rs q. got (length rs) q) w ≡ got n q
            → write_back form sheet_limits room sheet ≡ written_into room sheet
        go (refused c p) h g = clash c p n q g
        go (got rs p) h g = rw (h, write_back) (ap (written_into room) (encode-decoded form sheet_limits sheet b rs p h).1)
