-- What was read so far, and the last piece or the refusal after it.
use Rattle.std.proofs.Common.{◌+◌, arith}
use Rattle.std.proofs.KnownBytes.{Consumes-trans}
use Rattle.std.proofs.lemmas.Result.{err_from_is_err_and}
use Rattle.sim_io.proofs.TransferLemmas.{TakesSome-more, TakesUpTo-full, TakesUpTo-end}
use Rattle.sim_io.proofs.streams.reading.read_some.Goals as goal

pub returns-in_err-count-clause-refused : goal.returns-in_err-count-clause-refused
returns-in_err-count-clause-refused g c =
    let refusal = err_from_is_err_and c.from_residual.result c.from_residual.ensures.1 in
    rw refusal.1 (TakesSome-more _ _ _ _ _ _ c.loop-source.invariant.taken (omega arith) c.loop-source.invariant.short c.in_err-count.ensures.refused)

pub returns-then-count-eq0-clause-all : goal.returns-then-count-eq0-clause-all
returns-then-count-eq0-clause-all g c =
    let piece = c.in_ok-count.ensures.appended in
    TakesUpTo-end (c.args.most + 1) (g.S.Source.left c.args.source.now) (g.S.Source.left c.read_piece.new.source) c.read_piece.new.bytes.items
    (rw piece.1 (Consumes-trans _ _ _ _ _ c.loop-source.invariant.taken piece.3)) (omega (arith, c.in_ok-count.ensures.short)) (c.in_ok-count.ensures.end (omega arith))

pub returns-clause-all : goal.returns-clause-all
returns-clause-all g c =
    TakesUpTo-full (c.args.most + 1) (g.S.Source.left c.args.source.now) (g.S.Source.left c.loop-source.source) c.loop-source.bytes.items c.loop-source.invariant.taken (omega arith)
