-- THE CUTS OF A LIST OF RULES: the rows that hold those of its first k rules hold, cut at rule k, those of one rule more. Rests on the laws of
-- cuts as rules come in.
use mathlib.Core.Path.{◌≡◌, sym, subst}
use mathlib.Core.List.{List, [], ◌∷◌, ◌++◌, flat_map}
use Prim.Native.Nat.{ℕ, zero, suc, ◌*◌, ◌≤◌, ◌<◌}
use native.Mathlib.Omega.{arith}
use lib.ListN.{length, get_or, take, length-append}
use lib.Seq.{take-suc}
use Rattle.laws.proofs.Lists.{All-map}
use Rattle.definition.specs.Rule.{Rule, no_rule}
use Rattle.definition.specs.Range.{ranges}
use Rattle.definition.specs.Point.{Dimension, selector}
use Rattle.tables.specs.Sizes.{range_places}
use Rattle.tables.specs.Ranges.{selector_of}
use Rattle.paving_cuts.specs.Cuts.{Rowed, cut_rows, Space}
use Rattle.paving_cuts.specs.Rules.{Roomy}
use Rattle.tables.specs.Cuts.{CutBy}
use Rattle.paving_cuts.proofs.ByRules.{cut-space, cut-next}
use Rattle.tables.specs.Rules.{rule_at}
use Rattle.paving_points.proofs.Boxes.{Bounded, cuts-rise}

-- fewer rules have fewer ranges
take-fewer : {A B : Type 0} (f : A → List B) (n : ℕ) (xs : List A) → length (flat_map f (take n xs)) ≤ length (flat_map f xs)
unfolding flat_map
take-fewer f zero xs = omega arith
take-fewer f (suc n) [] = omega arith
take-fewer f (suc n) (x ∷ xs) = omega (arith, length-append (f x) (flat_map f (take n xs)), length-append (f x) (flat_map f xs), take-fewer f n xs)

module _ (rows counts loaded : List ℕ) (room : ℕ) (rs : List Rule) (k : ℕ) (here : k < length rs) (ds : List Dimension)
    (e : selector_of counts loaded (length ds) ≡ selector ds (rule_at rs k)) (wide : Roomy room rs ds) (placed : (i : ℕ) → i < length ds → get_or rows i 0 ≡ i * room) where
  more : Roomy room (take k rs ++ (rule_at rs k ∷ [])) ds
  more =
      subst (λ qs. Roomy room qs ds) (take-suc rs k no_rule here)
      (All-map (λ d h. omega (arith, take-fewer (λ r. ranges d.bounds (d.items r)) (suc k) rs)) ds wide)

  -- rule k can be cut at
  pub rule-space : (sizes table : List ℕ) → CutBy rows sizes table (take k rs) ds → Bounded (take k rs) ds → length ds * room ≤ length table → room ≤ 65536
      → length ds ≤ length rows → length ds ≤ length sizes → length ds ≤ length counts → length ds * range_places ≤ length loaded
      → ((i : ℕ) → i < length ds → get_or counts i 0 * 2 ≤ range_places) → Space table rows sizes counts loaded (length ds)
  rule-space sizes table c b =
      cut-space rows counts loaded room (take k rs) (rule_at rs k) ds e more placed sizes table c (cuts-rise rows sizes table (take k rs) ds c b)

  -- and then the rows hold the cuts of a rule more
  pub rule-cut : (t : Rowed) → CutBy rows t.sizes t.cuts (take k rs) ds → length ds ≤ length t.sizes → length ds * room ≤ length t.cuts
      → CutBy rows (cut_rows rows counts loaded (length ds) t).sizes (cut_rows rows counts loaded (length ds) t).cuts (take (suc k) rs) ds
  rule-cut t c a b =
      subst (λ qs. CutBy rows (cut_rows rows counts loaded (length ds) t).sizes (cut_rows rows counts loaded (length ds) t).cuts qs ds) (sym (take-suc rs k no_rule here))
      (cut-next rows counts loaded room (take k rs) (rule_at rs k) ds e more placed t c a b)
