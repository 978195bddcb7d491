-- `tables::copy::copy_words` meets its contract. The loop's invariant: the words before the one at hand are copied.
use Rattle.tables.specs.Copied.{Copied}
use Rattle.tables.proofs.copy.copy_words.Given as goal

abbrev pub invariant-loop-i : goal.invariant-loop-i
invariant-loop-i l = Copied l.initial.words l.words l.from l.to l.i
