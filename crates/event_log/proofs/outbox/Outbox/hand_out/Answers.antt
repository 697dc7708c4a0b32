-- The chains go as they lie.
use Rattle.std.proofs.Common.{◌≡◌, List, [], sym, ap, ◌∙◌, subst}
use Rattle.model_core.specs.declared.event.Event.{Event}
use Rattle.event_log.specs.Outboxes.{AreBlank, OutboxView, chain_at, parcel}
use Rattle.event_log.proofs.OutboxLemmas.{holds-none, sent-is}
use Rattle.event_log.proofs.outbox.Outbox.hand_out.Goals as goal

pub returns-clause-parcels : goal.returns-clause-parcels
returns-clause-parcels c = λ node.
    let lie = c.self.invariant in
    let out : c.swap.new.y.items ≡ c.self.inside.chains.items = cc in
    let same = sym (sent-is lie.0 c.self.inside.homes.items c.self.inside.chains.items lie.1) ∙ ap (λ (v : OutboxView). v.sent) c.self.view_is in
    ap (λ (cs : List (List Event)). chain_at cs node) out ∙ lie.1.chains_are node ∙ ap (parcel node) same

pub returns-clause-sent : goal.returns-clause-sent
returns-clause-sent c =
    let in_place : c.args.chains.now.items ≡ c.swap.new.x.items = cc in
    sent-is [] c.clear.new.self.items c.swap.new.x.items (holds-none c.clear.new.self.items c.swap.new.x.items c.clear.ensures.items (subst AreBlank in_place c.requires.blank))
