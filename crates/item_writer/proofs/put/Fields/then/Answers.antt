-- `item_writer::put::Fields::then` meets its contract: the fields fit a machine word, and their bits stand one behind the other.
use mathlib.Core.Path.{refl, sym}
use Rattle.item_writer.proofs.Joined.{joinable, joined-fits, joined-bits}
use Rattle.item_writer.proofs.put.Fields.then.Goals as goal

pub joined-requires : goal.joined-requires
joined-requires c = let pre = c.requires in joinable _ _ _ _ pre.0 pre.1 pre.2

pub returns : goal.returns
returns c =
    let pre = c.requires in
    let made = c.joined.ensures in record {
      spans = refl;
      fits = joined-fits _ _ _ _ pre.0 pre.1 pre.2 _ made;
      says = sym (joined-bits _ _ _ _ pre.0 pre.1 pre.2 _ made);
    }
