-- A SHEET WRITTEN PART BY PART: mark and count, the rules of pages, the rules left, the padding, one behind the other, are the packed sheet at
-- the front of the buffer; and room for the whole is room for each part. Rests on the laws of writers that follow each other.
use mathlib.Core.Path.{◌≡◌, sym, ap, ◌∙◌}
use mathlib.Core.List.{List, ◌++◌, append_assoc}
use Prim.Native.Nat.{ℕ, ◌+◌, ◌*◌, ◌^◌, ◌≤◌, ◌<◌}
use native.Mathlib.Omega.{arith}
use lib.ListN.{length, get_or, length-append}
use Rattle.definition.specs.Field.{packed}
use Rattle.definition.specs.Rule.{Rule}
use Rattle.definition.specs.Sheet.{Form, sheet_limits, opening_width, opening}
use Rattle.definition.specs.Fold.{buffer}
use Rattle.field.proofs.Bytes.{known_bytes}
use Rattle.item_writer.specs.Written.{RoomFor, Wrote}
use Rattle.item_writer.proofs.Chain.{wrote_then, wrote_as, room-first, room-rest}
use Rattle.sheet_writer.specs.Frame.{padding}
use Rattle.sheet_writer.proofs.Frame.{framed, opening-length}
use Rattle.day_writer.specs.Rules.{rules_bits}
use Rattle.fold_write.specs.Emission.{result_bits}

pub row-length : (form : Form) (count : ℕ) (rs : List Rule) (others : List ℕ)
    → length (result_bits form count rs others) ≡ opening_width form + length (rules_bits form rs) + length others
unfolding result_bits
row-length form count rs others =
    omega (
      arith,
      length-append ((opening form sheet_limits).write count) (rules_bits form rs ++ others),
      length-append (rules_bits form rs) others,
      opening-length form count,
    )

-- ## The whole
module _ (form : Form) (count : ℕ) (rs : List Rule) (others out : List ℕ) (inside : length (result_bits form count rs others) ≤ 8 * length out)
    (low : length (result_bits form count rs others) < 2 ^ 60) where
  abbrev front : List ℕ
  front = (opening form sheet_limits).write count

  room : RoomFor (length out) 0 (front ++ (rules_bits form rs ++ others))
  unfolding result_bits
  room = record { inside = omega (arith, inside); low = omega (arith, low) }

  pub opening-room : RoomFor (length out) 0 front
  opening-room = room-first front (rules_bits form rs ++ others) room

  module _ {mid : List ℕ} {first : ℕ} (opened : Wrote out 0 front mid first) where
    pub rules-room : RoomFor (length mid) first (rules_bits form rs)
    rules-room = room-first (rules_bits form rs) others (room-rest opened (rules_bits form rs ++ others) room)

    module _ {laid : List ℕ} {place : ℕ} (ruled : Wrote mid first (rules_bits form rs) laid place) where
      place_at : place ≡ opening_width form + length (rules_bits form rs)
      place_at = omega (arith, opened.behind, ruled.behind, opening-length form count)

      pub others-room : (place + length others ≤ 8 * length laid) × (place < 2 ^ 60)
      others-room =
          let r = room-rest ruled others (room-rest opened (rules_bits form rs ++ others) room) in
          (r.inside, omega (arith, low, row-length form count rs others, place_at))

      pub sheet-written : {new : List ℕ} {next n : ℕ} → length others ≡ n → Wrote laid place (others ++ padding (place + n)) new next → ((j : ℕ) → get_or out j 0 < 256) → ((j : ℕ) → get_or new j 0 < 256)
          → new ≡ buffer (packed (result_bits form count rs others)) out
      unfolding result_bits
      sheet-written {new} {next} {n} e ended known known' =
          let row = front ++ (rules_bits form rs ++ others) in
          let pad = padding (place + n) in
          let long : place + n ≡ length row = omega (arith, e, place_at, row-length form count rs others) in
          let same : row ++ padding (length row) ≡ front ++ (rules_bits form rs ++ (others ++ pad)) =
          ap (λ m. row ++ padding m) (sym long) ∙ append_assoc front (rules_bits form rs ++ others) pad ∙ ap (front ++◌) (append_assoc (rules_bits form rs) others pad)
          in
          framed out new row (known_bytes out known) (known_bytes new known') next (wrote_as same (wrote_then opened (wrote_then ruled ended))) (omega (arith, inside))
