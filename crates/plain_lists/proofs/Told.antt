-- What the answer of `list_rules` says in each of its cases.
use mathlib.Core.Path.{◌≡◌, subst}
use mathlib.Core.List.{List}
use mathlib.Core.Option.{some, none}
use Prim.Native.Nat.{ℕ}
use Rattle.definition.specs.Rule.{Rule}
use Rattle.definition.specs.Sheet.{sheet_limits}
use Rattle.definition.specs.Lists.{first_refused}
use Rattle.std.specs.Prelude.{Result, Ok, Err}
use Rattle.answers.specs.Refusal.{code_of}
use Rattle.answers.specs.declared.refusal.Refusal.{Refusal}
use Rattle.plain_lists.specs.Listing.{OwnLists, Listing}

module _ (rows sizes table lists : List ℕ) (rs : List Rule) (listed : Result (Unit {0}) Refusal) (told : Listing rows sizes table lists rs listed) where
  pub listing-refused : (r : Refusal) → listed ≡ Err r → first_refused sheet_limits rs ≡ some (code_of r.reason, r.place)
  unfolding Listing
  listing-refused r e = subst (Listing rows sizes table lists rs) e told

  pub listing-held : (u : Unit {0}) → listed ≡ Ok u → (first_refused sheet_limits rs ≡ none) × OwnLists rows sizes table lists rs
  unfolding Listing
  listing-held u e = subst (Listing rows sizes table lists rs) e told
