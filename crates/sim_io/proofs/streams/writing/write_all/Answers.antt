-- The bytes that were taken are a prefix.
use Rattle.std.proofs.Common.{sym, take, drop, take-append-drop}
use Rattle.sim_io.specs.Transfers.{AppendsPrefix}
use Rattle.model_core.proofs.Results.{on_err}
use Rattle.sim_io.proofs.streams.writing.write_all.Goals as goal

pub returns-clause-prefix : goal.returns-clause-prefix
returns-clause-prefix g c =
    let count = c.write_prefix-outcome.result.0 in
    let bytes = c.args.bytes.now in
    let taken : AppendsPrefix (g.K.Sink.told c.args.sink.now) (g.K.Sink.told c.write_prefix-outcome.new.sink) bytes =
    (take count bytes, drop count bytes, sym (take-append-drop count bytes), c.write_prefix-outcome.ensures.taken) in
    on_err _ taken
