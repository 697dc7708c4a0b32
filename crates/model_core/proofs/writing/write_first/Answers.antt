use Rattle.std.proofs.Common.{◌+◌, ◌-◌, length, arith}
use Rattle.model_core.proofs.WritingLemmas.{WritesAt-put_mid}
use Rattle.model_core.proofs.writing.write_first.Goals as goal

pub returns : goal.returns
returns c =
    let a = c.args in
    rw c.copy_from_slice.ensures.after (WritesAt-put_mid a.into.now a.chunk.now a.at (a.at + length a.chunk.now - a.at) a.count (omega arith) (omega arith) (omega arith))
