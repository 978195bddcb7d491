-- `text::put_name` meets its contract: the name's part of the names.
use Prim.Native.Nat.{◌*◌}
use Rattle.text.proofs.Putting.{name-put}
use Rattle.text.proofs.put_name.Goals as goal

pub returns : goal.returns
returns c =
    let args = c.args in
    name-put _ _ args.names.now _ _ (args.index * args.width) args.width c.put_word.ensures
