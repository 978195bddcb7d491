-- `text::put_word` meets its contract: byte after byte.
use native.Mathlib.Omega.{arith}
use Rattle.text.proofs.Putting.{word_next, word-all}
use Rattle.text.proofs.put_word.Goals as goal

pub loop-i-preserved : goal.loop-i-preserved
loop-i-preserved c =
    word_next _ _ _ _ _ _ _ (omega arith) c.loop-i.invariant c.put_byte.ensures

pub returns : goal.returns
returns c =
    word-all _ _ _ _ _ (omega arith) (omega arith) c.loop-i.invariant
