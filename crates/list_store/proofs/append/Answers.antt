-- `list_store::append` meets its contract.
use mathlib.Core.Path.{refl}
use mathlib.Core.Logic.{◌≢◌}
use mathlib.Core.List.{List}
use Prim.Native.Nat.{ℕ, ◌-◌, ◌*◌, ◌<◌}
use native.Mathlib.Omega.{arith}
use lib.ListN.{get_or, length, length-set}
use Rattle.tables.specs.Lists.{named}
use Rattle.list_store.proofs.Listing.{named-length, appended-first, appended-more}
use Rattle.list_store.proofs.append.Goals as goal

-- the list that is copied has fewer rules than it may have
few : (lists : List ℕ) (number : ℕ) → number ≢ 0 → length (named lists number) < 32 → get_or lists ((number - 1) * 33) 0 < 32
few lists number some short = omega (arith, named-length lists number some, short)

pub bounds-lists-to-then-number-eq0 : goal.bounds-lists-to-then-number-eq0
bounds-lists-to-then-number-eq0 c =
    simp length-set (omega (arith, c.requires.1))

pub returns-then-number-eq0 : goal.returns-then-number-eq0
returns-then-number-eq0 c =
    appended-first _ _ _ _ c.requires.1 c.if-number-eq0.true

pub copy_words-requires : goal.copy_words-requires
copy_words-requires c =
    let pre = c.requires in
    let short = few _ _ c.if-number-eq0.false pre.2 in
    let count = c.from-entries.ensures in
    let some = c.if-number-eq0.false in
    (omega (arith, short, count, pre.0, pre.1, some), omega (arith, short, count, pre.1), λ h. omega (arith, short, count, pre.0, some))

pub overflow_add-lists-2 : goal.overflow_add-lists-2
overflow_add-lists-2 c =
    omega (arith, few _ _ c.if-number-eq0.false c.requires.2)

pub bounds-lists-to-3 : goal.bounds-lists-to-3
bounds-lists-to-3 c =
    simp length-set (omega (arith, few _ _ c.if-number-eq0.false c.requires.2, c.requires.1, c.from-entries.ensures, c.copy_words.auto.words))

pub returns : goal.returns
returns c =
    let count = c.from-entries.ensures in
    let copy = c.copy_words in
    appended-more _ _ _ _ c.requires.1 _ _ _ _ (omega (arith, count)) copy.auto.words c.if-number-eq0.false (few _ _ c.if-number-eq0.false c.requires.2) refl copy.ensures (omega (arith, count))
