-- THE LOOKUP BY CASES: what the definition answers where the sheet is refused, there is no such date or minute, and else for the date's point.
-- Rests on the definition alone.
use mathlib.Core.Path.{◌≡◌, refl, ap, ◌∙◌}
use mathlib.Core.Bool.{Bool, true, false, ◌&&◌}
use mathlib.Core.List.{List}
use Prim.Native.Nat.{ℕ, ◌≤◌, ◌<◌}
use lib.Dec.{ltb}
use borrow.Author.Tests.{lt-ltb, le-ltb}
use Rattle.laws.proofs.Flags.{and-false}
use Rattle.definition.specs.Field.{got, refused, no_date}
use Rattle.definition.specs.Rule.{Rule, midnight24}
use Rattle.definition.specs.Sheet.{Form, sheet_limits, decode}
use Rattle.definition.specs.Lookup.{refusal, look_rules, lookup}
use Rattle.definition.specs.Date.{is_date, point_of}
use Rattle.lookup.specs.Looks.{look_at}

module _ (form : Form) (sheet : List ℕ) (y mo d m : ℕ) where
  pub look-refused : (c p : ℕ) → decode form sheet_limits sheet ≡ refused c p → lookup form sheet_limits sheet y mo d m ≡ refusal c p
  unfolding lookup
  look-refused c p e = rw (e, lookup) refl

  module _ (rs : List Rule) (end : ℕ) (e : decode form sheet_limits sheet ≡ got rs end) where
    by-rules : lookup form sheet_limits sheet y mo d m ≡ look_rules sheet_limits rs y mo d m
    unfolding lookup
    by-rules = rw (e, lookup) refl

    no-date : (b : Bool) → is_date y mo d && ltb m midnight24 ≡ b → b ≡ false → lookup form sheet_limits sheet y mo d m ≡ refusal no_date 0
    unfolding look_rules
    no-date b h f = by-rules ∙ rw (h ∙ f, look_rules) refl

    -- 8
    pub look-no-date : is_date y mo d ≡ false → lookup form sheet_limits sheet y mo d m ≡ refusal no_date 0
    look-no-date h = no-date false (ap (λ b. b && ltb m midnight24) h) refl

    pub look-no-minute : midnight24 ≤ m → lookup form sheet_limits sheet y mo d m ≡ refusal no_date 0
    look-no-minute h = no-date (is_date y mo d && false) (ap (λ b. is_date y mo d && b) (le-ltb m midnight24 h)) (and-false (is_date y mo d))

    -- the date's point
    pub look-dated : is_date y mo d ≡ true → m < midnight24 → lookup form sheet_limits sheet y mo d m ≡ look_at rs (point_of y mo d) m
    unfolding look_rules look_at
    look-dated h l =
        let t : is_date y mo d && ltb m midnight24 ≡ true = ap (λ b. b && ltb m midnight24) h ∙ lt-ltb m midnight24 l in
        by-rules ∙ rw (t, look_rules) refl
