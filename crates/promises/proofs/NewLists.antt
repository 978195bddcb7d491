-- ONE NEW LIST FOR EACH AND ONE FOR THE EMPTY ONE, of every sheet without days typed twice. Rests on the law that a rule without overlaps covers once.
use mathlib.Core.List.{List}
use Prim.Native.Nat.{ℕ, ◌≤◌, ◌<◌}
use native.Mathlib.Omega.{arith}
use lib.ListN.{length, get_or}
use Rattle.laws.proofs.Lists.{All-map₂, All-at}
use Rattle.definition.specs.Rule.{Rule, no_rule}
use Rattle.definition.specs.Sheet.{Form, Limits}
use Rattle.definition.specs.Stop.{drained}
use Rattle.definition.specs.Lists.{list_count}
use Rattle.definition.proofs.FoldBox.{drained-all}
use Rattle.definition.proofs.Lawful.{Lawful, rules-lawful}
use Rattle.definition.proofs.SheetRead.{encode-decoded}
use Rattle.definition.proofs.Once.{covers-once}
use Rattle.definition.proofs.Points.{times_covered}
use Rattle.definition.proofs.ListCounts.{new-few}
use Rattle.promises.specs.NewLists.{OneForEach, NewLists}
use Rattle.promises.proofs.Twice.{all_apart}
use Rattle.promises.proofs.Lists.{all-counted}

one-for-each : (ds : List Rule) (k : ℕ) → k < length ds → ((p : List ℕ) → times_covered (get_or ds k no_rule) p ≤ 1) → (n : ℕ) → OneForEach ds k n
unfolding list_count
one-for-each ds k here once n few ls h new =
    omega (arith, new-few ds k here once ls h.different (All-map₂ (λ l s q. (s, q)) ls h.stand new), few _ (all-counted ds k))

-- THE PROMISE
pub new-lists : (form : Form) (limits : Limits) (sheet : List ℕ) → NewLists form limits sheet
new-lists form limits sheet whole rs (a, o) k here n =
    let lawful = drained-all Lawful rs (rules-lawful form limits rs (encode-decoded form limits sheet whole rs a.0 a.1).0) in
    let covers = All-map₂ (λ r l q. covers-once r l q) (drained rs) lawful (all_apart (drained rs) o) in
    one-for-each (drained rs) k here (All-at _ (drained rs) no_rule covers k here) n
