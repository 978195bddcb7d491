-- What is required of a buffer still holds after it was used, since it keeps its length; and a short list's day has few words.
use mathlib.Core.Path.{◌≡◌, sym, subst}
use mathlib.Core.List.{List}
use Prim.Native.Nat.{ℕ, ◌*◌, ◌≤◌, ◌<◌}
use native.Mathlib.Omega.{arith}
use lib.ListN.{length, get_or}
use Rattle.day_flat.proofs.Room.{day-room}
use Rattle.tables.specs.Days.{box_words, Ready}
use Rattle.tables.specs.Lists.{list_of}
use Rattle.tables.specs.Sizes.{list_places, day_room}
use Rattle.tables.proofs.Lists.{list_length}

pub ready-kept : (states counts spans lists : List ℕ) (boxes room room' : ℕ) → room' ≡ room
    → ((i : ℕ) → i < boxes → Ready states counts spans lists room i) → (i : ℕ) → i < boxes → Ready states counts spans lists room' i
ready-kept states counts spans lists boxes room room' e h i l = subst (λ n. Ready states counts spans lists n i) (sym e) (h i l)

pub short-ready : (states counts spans lists : List ℕ) (i : ℕ) → Ready states counts spans lists day_room i → get_or lists (i * list_places) 0 ≤ 4
    → Ready states counts spans lists 257 i
short-ready states counts spans lists i ready short = record {
  there = ready.there;
  short = ready.short;
  tabled = ready.tabled;
  wordy = unfold box_words in
      omega (arith, day-room states counts spans (list_of lists i) ready.tabled.few 0 (length (list_of lists i)), list_length lists i, short);
}
