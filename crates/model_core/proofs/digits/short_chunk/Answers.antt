use Rattle.std.proofs.Common.{arith}
use Rattle.std.proofs.lemmas.Fmt.{length-decimal-le}
use Rattle.model_core.proofs.DigitLemmas.{chunk_holds}
use Rattle.model_core.proofs.digits.short_chunk.Goals as goal

pub write_digits-start-requires : goal.write_digits-start-requires
write_digits-start-requires c = (omega (arith, length-decimal-le 3 c.args.number (omega arith) c.requires c.ranges.number.fits), omega arith)

pub returns : goal.returns
returns c =
    let wrote = c.write_digits-start.ensures in
    chunk_holds c.args.number _ _ _ _ _ c.requires wrote.start wrote.written c.copy_from_slice.ensures.after (omega arith) c.copy_from_slice.ensures.len
