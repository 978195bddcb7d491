-- A whole sheet, from its count of rules to its end: the check is the definition's reading, less the values.
use mathlib.Core.Path.{◌≡◌, refl, sym, ap, ◌∙◌}
use mathlib.Core.List.{List}
use mathlib.Core.Option.{Option, none, some}
use mathlib.Core.Bool.{Bool, true, false}
use Prim.Native.Nat.{ℕ, ◌*◌, ◌-◌, ◌≤◌}
use native.Mathlib.Omega.{arith}
use lib.Dec.{ltb}
use lib.ListN.{length, take, drop}
use Rattle.definition.specs.Field.{Read, got, refused, and_then, bytes_for, sheet_bits, tagged, several}
use Rattle.definition.specs.Rule.{Rule}
use Rattle.definition.specs.Sheet.{Form, sheet_limits, opening_width, rule, opening, rules, first_set, ended, decode}
use Rattle.definition.proofs.Bits.{Bits, Bytes, sheet-bits, length-sheet_bits}
use Rattle.definition.proofs.Faithful.{several-faithful, read-within}
use Rattle.definition.proofs.Lengths.{opening-low}
use Rattle.definition.proofs.SheetRead.{rule-faithful, opening-faithful}
use Rattle.sheet.specs.End.{ends, skip_all}
use Rattle.sheet.specs.Rules.{rule_ends, noted, checked, checked_from, begun}
use Rattle.sheet.proofs.Rows.{ends-all}

module _ (form : Form) where
  -- ## From the first rule on
  module _ (s : List ℕ) (n p : ℕ) where
    pub rules-go : (q : ℕ) → skip_all (rule_ends form) n s p ≡ got tt q → checked_from form s n p ≡ and_then (λ u e. got n e) (ended s (tt {0}) q)
    unfolding checked_from
    rules-go q e = rw (e, checked_from) refl

    pub rules-stop : (c q : ℕ) → skip_all (rule_ends form) n s p ≡ refused c q → checked_from form s n p ≡ refused c q
    unfolding checked_from
    rules-stop c q e = rw (e, checked_from) refl

  -- how a sheet ends does not depend on what was read
  ended-any : {A : Type 0} (s : List ℕ) (x : A) (q : ℕ) → ended s x q ≡ and_then (λ u e. got x e) (ended s (tt {0}) q)
  unfolding ended
  ended-any s x q = go (first_set (take (8 * bytes_for q - q) (drop q s)) q) refl (ltb (8 * bytes_for q) (length s)) refl
    where
      go : (o : Option ℕ) → first_set (take (8 * bytes_for q - q) (drop q s)) q ≡ o → (b : Bool) → ltb (8 * bytes_for q) (length s) ≡ b
          → ended s x q ≡ and_then (λ u e. got x e) (ended s (tt {0}) q)
      go (some i) h b k = rw (h, ended) refl
      go none h true k = rw (h, k, ended) refl
      go none h false k = rw (h, k, ended) refl

  -- the rules' reading, less the values
  rules-read : (s : List ℕ) → Bits s → (n p : ℕ)
      → and_then (λ rs q. got (length rs) q) (and_then (ended s) ((several n (rule form sheet_limits)).read s p)) ≡ checked_from form s n p
  unfolding several checked_from
  rules-read s h n p = go ((several n (rule form sheet_limits)).read s p) refl
    where
      go : (w : Read (List Rule)) → (several n (rule form sheet_limits)).read s p ≡ w
          → and_then (λ rs q. got (length rs) q) (and_then (ended s) ((several n (rule form sheet_limits)).read s p)) ≡ checked_from form s n p
      go (refused c q) e = rw e (sym (rules-stop s n p c q (sym (ends-all _ n s p) ∙ ap ends e)))
      go (got rs q) e =
          let long = ((several-faithful (rule-faithful form sheet_limits) n).written s h p rs q e).0 in
          rw e
          (ap (and_then (λ rs q. got (length rs) q)) (ended-any s rs q) ∙ counted-ends (ended s (tt {0}) q) rs long
          ∙ sym (rules-go s n p q (sym (ends-all _ n s p) ∙ ap ends e)))
        where
          counted-ends : (w : Read (Unit {0})) (rs : List Rule) → length rs ≡ n
              → and_then (λ rs q. got (length rs) q) (and_then (λ u e. got rs e) w) ≡ and_then (λ u e. got n e) w
          counted-ends (got u e) rs l = ap (λ k. got k e) l
          counted-ends (refused c e) rs l = refl

  -- ## From the count on
  module _ (sheet : List ℕ) where
    pub count-goes : Bytes sheet → (n q : ℕ) → (opening form sheet_limits).read (sheet_bits sheet) 0 ≡ got n q
        → checked form sheet ≡ checked_from form (sheet_bits sheet) n q
    unfolding checked decode rules tagged
    count-goes h n q e = rw e (rules-read (sheet_bits sheet) (sheet-bits sheet h) n q)

    pub count-stops : (c q : ℕ) → (opening form sheet_limits).read (sheet_bits sheet) 0 ≡ refused c q → checked form sheet ≡ refused c q
    unfolding checked decode rules tagged
    count-stops c q e = rw e refl

    pub count-begun : (n q : ℕ) → (opening form sheet_limits).read (sheet_bits sheet) 0 ≡ got n q → (begins : List ℕ)
        → begun form sheet begins ≡ noted form (sheet_bits sheet) n 0 q begins
    unfolding begun
    count-begun n q e begins = rw (e, begun) refl

    pub none-begun : (c q : ℕ) → (opening form sheet_limits).read (sheet_bits sheet) 0 ≡ refused c q → (begins : List ℕ)
        → begun form sheet begins ≡ begins
    unfolding begun
    none-begun c q e begins = rw (e, begun) refl

    -- a count keeps its limit, ends where the first rule begins, and within the sheet
    pub count_low : Bytes sheet → (n q : ℕ) → (opening form sheet_limits).read (sheet_bits sheet) 0 ≡ got n q
        → (n ≤ sheet_limits.rules) × (q ≡ opening_width form) × (q ≤ 8 * length sheet)
    count_low h n q e =
        let low = opening-low form (sheet_bits sheet) 0 n q e in
        let within = read-within (opening-faithful form sheet_limits) (sheet_bits sheet) (sheet-bits sheet h) 0 n q (omega arith) e in
        (low.0, omega (arith, low.1), omega (arith, length-sheet_bits sheet, within))
