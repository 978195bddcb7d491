-- NO RULE TWICE IN A LIST, of every sheet that is folded. Rests on the table of codes, and on the law that a rule without overlaps covers once.
use mathlib.Core.Path.{refl, ap, subst}
use mathlib.Core.List.{List}
use Prim.Native.Nat.{ℕ, ◌≤◌}
use native.Mathlib.Nat.{min-le_left}
use native.Mathlib.Omega.{arith}
use lib.ListN.{length, get_or, take, length-map, length-take}
use Rattle.laws.proofs.Lists.{All-map₂, All-take}
use Rattle.laws.proofs.Numbers.{rises-few}
use Rattle.definition.specs.Rule.{Rule, no_rule}
use Rattle.definition.specs.Sheet.{Form, Limits}
use Rattle.definition.specs.Stop.{drained}
use Rattle.definition.specs.Fold.{fold}
use Rattle.definition.specs.Point.{dimensions, selector, combinations}
use Rattle.definition.proofs.FoldBox.{drained-all}
use Rattle.definition.proofs.Lawful.{Lawful, rules-lawful}
use Rattle.definition.proofs.SheetRead.{encode-decoded}
use Rattle.definition.proofs.Once.{covers-once, list-in-turn}
use Rattle.promises.specs.Conditions.{AllOnce}
use Rattle.promises.specs.Once.{CoversOnce, NoneTwice, Once}
use Rattle.promises.proofs.Reading.{accepted-once}
use Rattle.promises.proofs.Twice.{all_apart}
use Rattle.promises.proofs.FoldCodes.{fold-codes}

-- drained rules of which each covers once
none-twice : (ds : List Rule) (p : List ℕ) → CoversOnce ds p → (n : ℕ) → NoneTwice ds p n
none-twice ds p h n =
    let turn = list-in-turn (take n ds) p (All-take (λ r. combinations (selector dimensions r) p ≤ 1) n ds h) in
    (turn, omega (arith, ap length turn.2, length-map turn.0 (λ k. get_or (take n ds) k no_rule), rises-few 0 (length (take n ds)) turn.0 (omega arith) turn.1, length-take n ds, min-le_left n (length ds)))

-- THE PROMISE
pub once : (form : Form) (limits : Limits) (room : ℕ) (sheet : List ℕ) → Once form limits room sheet
once form limits room sheet whole e rs a p =
    let d = (fold-codes form limits room sheet 0 (fold form limits room sheet).place).only (e, refl) in
    let same = accepted-once form limits sheet d.0 rs d.1.0.0.0.0 a in
    let lawful = drained-all Lawful rs (rules-lawful form limits rs (encode-decoded form limits sheet whole rs a.0 a.1).0) in
    let apart = all_apart (drained rs) (subst (λ qs. AllOnce (drained qs)) same d.1.0.0.0.1) in
    let covers = All-map₂ (λ r l o. covers-once r l o p) (drained rs) lawful apart in
    (covers, none-twice (drained rs) p covers)
