-- There is one home for each message.
use Rattle.std.proofs.Common.{length, ap, ◌∙◌}
use Rattle.event_log.proofs.OutboxLemmas.{long-is, sent-seen}
use Rattle.event_log.proofs.outbox.Outbox.len.Goals as goal

pub returns : goal.returns
returns c =
    let lie = c.self.invariant in
    c.len.ensures
    ∙ c.self.inside.homes.ok.0
    ∙ long-is lie.0 c.self.inside.homes.items c.self.inside.chains.items lie.1
    ∙ ap length (sent-seen lie.1 c.args.self.now _ c.self.view_is)
