-- Where a rule ends: its title, its counts, its items. One lemma for each return of `counted_end` and `rule_end`.
use mathlib.Core.Path.{◌≡◌, refl}
use mathlib.Core.List.{List}
use Prim.Native.Nat.{ℕ}
use Rattle.definition.specs.Field.{Read, got, refused, and_then, ◌then◌, via, tagged}
use Rattle.definition.specs.Sheet.{Form, sheet_limits, Title, Counts, Body, rule_with, title, counts, head, body, rule}
use Rattle.sheet.specs.End.{ends}
use Rattle.sheet.specs.Rules.{counted_ends}

module _ (form : Form) where
  -- ## One lemma for each return
  module _ (s : List ℕ) (p : ℕ) where
    pub counted-goes : (n : Counts) (q : ℕ) → (counts form sheet_limits).read s p ≡ got n q → counted_ends form s p ≡ ends ((body n).read s q)
    unfolding counted_ends
    counted-goes n q e = rw e

    pub counted-stops : (c q : ℕ) → (counts form sheet_limits).read s p ≡ refused c q → counted_ends form s p ≡ refused c q
    unfolding counted_ends
    counted-stops c q e = rw e

    pub rule-goes : (t : Title) (q : ℕ) → (title form sheet_limits).read s p ≡ got t q → ends ((rule form sheet_limits).read s p) ≡ counted_ends form s q
    unfolding rule tagged head ◌then◌ counted_ends via
    rule-goes t q e = rw e (go ((counts form sheet_limits).read s q))
      where
        items : (n : Counts) (w : Read Body) → ends (and_then (λ b j. got (rule_with (t, n) b) j) w) ≡ ends w
        items n (got b j) = refl
        items n (refused c j) = refl

        go : (w : Read Counts) → ends
            (and_then (λ h j. and_then (λ b i. got (rule_with h b) i) ((body h.1).read s j)) (and_then (λ n i. got (t, n) i) w))
            ≡ and_then (λ n i. ends ((body n).read s i)) w
        go (got n i) = items n ((body n).read s i)
        go (refused c i) = refl

    pub rule-stops : (c q : ℕ) → (title form sheet_limits).read s p ≡ refused c q → ends ((rule form sheet_limits).read s p) ≡ refused c q
    unfolding rule tagged head ◌then◌
    rule-stops c q e = rw e
