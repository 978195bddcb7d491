-- Writers one behind the other: bits stored, then more bits behind them, are all of them stored; and room for all is room for each.
use mathlib.Core.Path.{◌≡◌, refl, sym, ap, ◌∙◌, subst}
use mathlib.Core.List.{List, [], ◌++◌}
use Prim.Native.Nat.{ℕ, ◌+◌}
use native.Mathlib.Omega.{arith}
use lib.ListN.{length, length-append}
use lib.Seq.{sets, length-sets}
use Rattle.laws.proofs.Stores.{sets-append}
use Rattle.definition.specs.Field.{sheet_bits}
use Rattle.definition.proofs.Bits.{length-sheet_bits}
use Rattle.item_writer.specs.Written.{RoomFor, Wrote}

module _ {old xs mid : List ℕ} {at place : ℕ} (first : Wrote old at xs mid place) where
  -- no bit more, no bit less
  pub same_size : length mid ≡ length old
  same_size = omega (arith, ap length first.stored, length-sets (sheet_bits old) at xs, length-sheet_bits mid, length-sheet_bits old)

  pub wrote_then : {ys out : List ℕ} {next : ℕ} → Wrote mid place ys out next → Wrote old at (xs ++ ys) out next
  wrote_then {ys} {out} {next} second = record {
    behind = omega (arith, first.behind, second.behind, length-append xs ys);
    stored = second.stored ∙ ap (λ s. sets s place ys) first.stored ∙ ap (λ j. sets (sets (sheet_bits old) at xs) j ys) first.behind
        ∙ sym (sets-append (sheet_bits old) at xs ys);
  }

  -- behind what was written there is room for the rest
  pub room-rest : (ys : List ℕ) → RoomFor (length old) at (xs ++ ys) → RoomFor (length mid) place ys
  room-rest ys r = record {
    inside = omega (arith, r.inside, first.behind, length-append xs ys, same_size);
    low = omega (arith, r.low, first.behind, length-append xs ys);
  }

pub room-first : {size at : ℕ} (xs ys : List ℕ) → RoomFor size at (xs ++ ys) → RoomFor size at xs
room-first xs ys r = record { inside = omega (arith, r.inside, length-append xs ys); low = omega (arith, r.low, length-append xs ys) }

-- ## The same bits, said in another way
pub room_as : {size at : ℕ} {xs ys : List ℕ} → xs ≡ ys → RoomFor size at xs → RoomFor size at ys
room_as {size} {at} e r = subst (RoomFor size at) e r

pub wrote_as : {old xs ys out : List ℕ} {at next : ℕ} → xs ≡ ys → Wrote old at ys out next → Wrote old at xs out next
wrote_as {old} {xs} {ys} {out} {at} {next} e w = subst (λ new. Wrote old at new out next) (sym e) w

-- nothing written
pub wrote_none : {old new : List ℕ} {at : ℕ} → new ≡ [] → Wrote old at new old at
wrote_none {old} {new} {at} e = wrote_as e (record { behind = let z : at ≡ at + 0 = omega arith in z; stored = refl })

-- ## Writers in a loop: `rest` is still to be written, behind what stands in `out`
pub record Still (old : List ℕ) (at : ℕ) (all out : List ℕ) (next : ℕ) (rest : List ℕ) : Type 0 where
  pub size : length out ≡ length old
  pub room : RoomFor (length out) next rest
  -- written there, it leaves what all of it leaves
  pub whole : (final : List ℕ) (end : ℕ) → Wrote out next rest final end → Wrote old at all final end

pub still-all : {old all : List ℕ} {at : ℕ} → RoomFor (length old) at all → Still old at all old at all
still-all r = record { size = refl; room = r; whole = λ final end w. w }

module _ {old all out rest : List ℕ} {at next : ℕ} (still : Still old at all out next rest) where
  -- some of it written
  pub still-next : {xs ys mid : List ℕ} {place : ℕ} → rest ≡ xs ++ ys → Wrote out next xs mid place → Still old at all mid place ys
  still-next {xs} {ys} e first = record {
    size = same_size first ∙ still.size;
    room = room-rest first ys (room_as e still.room);
    whole = λ final end w. still.whole final end (wrote_as e (wrote_then first w));
  }

  -- the rest, said otherwise
  pub still-as : {ys : List ℕ} → rest ≡ ys → Still old at all out next ys
  still-as e = subst (Still old at all out next) e still

  -- all of it written
  pub still-none : rest ≡ [] → Wrote old at all out next
  still-none e = still.whole out next (wrote_none e)
