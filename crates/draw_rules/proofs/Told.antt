-- What the answer of `draw_rules` says in each of its cases; and that a memo has an entry for each list that boxes hold.
use mathlib.Core.Path.{◌≡◌, subst}
use mathlib.Core.List.{List}
use mathlib.Core.Option.{some, none}
use Prim.Native.Nat.{ℕ, ◌<◌}
use native.Mathlib.Omega.{arith}
use lib.ListN.{length}
use Rattle.definition.specs.Rule.{Rule}
use Rattle.definition.specs.Sheet.{sheet_limits}
use Rattle.definition.specs.Lists.{first_refused}
use Rattle.tables.specs.Lists.{BoxLists}
use Rattle.std.specs.Prelude.{Result, Ok, Err}
use Rattle.answers.specs.Refusal.{code_of}
use Rattle.answers.specs.declared.refusal.Refusal.{Refusal}
use Rattle.draw_rules.specs.Listing.{NoLists, Listing}

module _ (rows sizes table cells lists : List ℕ) (rs : List Rule) (listed : Result ℕ Refusal) (told : Listing rows sizes table cells lists rs listed) where
  pub listing-refused : (r : Refusal) → listed ≡ Err r → first_refused sheet_limits rs ≡ some (code_of r.reason, r.place)
  unfolding Listing
  listing-refused r e = subst (Listing rows sizes table cells lists rs) e told

  pub listing-held : (used : ℕ) → listed ≡ Ok used → (first_refused sheet_limits rs ≡ none) × BoxLists rows sizes table cells lists used rs
  unfolding Listing
  listing-held used e = subst (Listing rows sizes table cells lists rs) e told

pub held-few : (cells₀ lists₀ memo₀ rows sizes table cells lists : List ℕ) (used : ℕ) (rs : List Rule) → NoLists cells₀ lists₀ memo₀ sizes → BoxLists rows sizes table cells lists used rs
    → used < length memo₀
held-few cells₀ lists₀ memo₀ rows sizes table cells lists used rs empty boxed =
    let places = empty.places in
    omega (arith, places.enough used (omega (arith, places.one_cell, boxed.few-lists)) boxed.stored.few, (places.room 0 (omega arith) (omega arith)).1)
