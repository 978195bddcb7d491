-- `sheet_writer::put_left` meets its contract: bits copied, then the padding.
use Rattle.sheet_writer.specs.Frame.{between}
use Rattle.sheet_writer.proofs.Left.{between-length, end-wrote}
use Rattle.sheet_writer.proofs.put_left.Goals as goal

pub returns : goal.returns
returns c =
    let a = c.args in
    let pre = c.requires.start_le_end in
    end-wrote (between a.sheet.now a.start a.end) (between-length a.sheet.now a.start a.end pre.0 pre.1)
    c.copy_bits.ensures c.put_padding.ensures.1
