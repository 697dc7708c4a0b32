-- Room for more changes no message.
use Rattle.std.proofs.Common.{ℕ, List, ap, ◌∙◌}
use Rattle.event_log.specs.Outboxes.{OutboxView, sent_of}
use Rattle.event_log.proofs.outbox.Outbox.reserve.Goals as goal

pub invariant_of-self : goal.invariant_of-self
invariant_of-self c =
    let lie = c.self.invariant in
    (lie.0, record { homes_are = c.reserve.ensures.items ∙ lie.1.homes_are; chains_are = lie.1.chains_are })

pub returns-in_err-reserve-clause-sent : goal.returns-in_err-reserve-clause-sent
returns-in_err-reserve-clause-sent c =
    ap (λ (homes : List ℕ). sent_of homes c.self.inside.chains.items) c.reserve.ensures.items ∙ ap (λ (v : OutboxView). v.sent) c.self.view_is

pub returns-clause-sent : goal.returns-clause-sent
returns-clause-sent c =
    ap (λ (homes : List ℕ). sent_of homes c.self.inside.chains.items) c.reserve.ensures.items ∙ ap (λ (v : OutboxView). v.sent) c.self.view_is
