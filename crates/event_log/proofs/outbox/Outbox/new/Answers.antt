-- There is no message.
use Rattle.std.proofs.Common.{[]}
use Rattle.event_log.proofs.OutboxLemmas.{holds-none, sent-is}
use Rattle.event_log.proofs.outbox.Outbox.new.Goals as goal

pub returns-clause-sent : goal.returns-clause-sent
returns-clause-sent c = sent-is [] c.new.result.items c.args.chains.items (holds-none c.new.result.items c.args.chains.items c.new.ensures.items c.requires)
