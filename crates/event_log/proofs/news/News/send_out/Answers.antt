-- No event is left, and what was told of them is told of events that are gone.
use Rattle.std.proofs.Common.{◌++◌, [], sym, ap, ◌∙◌}
use Rattle.object_log.specs.Tellings.{told_all}
use Rattle.event_log.specs.News.{HoldsNews, NewsView}
use Rattle.event_log.specs.Outboxes.{parcel}
use Rattle.event_log.proofs.JoinFacts.{code-gone, holds-gone}
use Rattle.event_log.proofs.NewsFacts.{gone-seen, seen, view-done, view-gone}
use Rattle.event_log.proofs.news.News.send_out.Goals as goal
use Rattle.event_log.proofs.news.News.send_out.Goals.{After-hand_out}

holds : (c : After-hand_out) → HoldsNews [] c.self.inside.told.items c.self.inside.told.items c.clear.new.self.items c.clear-2.new.self.items c.hand_out.new.self.sent c.self.inside.fault
holds c =
    let same = seen c.self.invariant.2 c.args.self.now c.self.inside.outbox.nodes c.self.view_is in
    holds-gone _ _ _ _ _ c.clear.ensures.items c.clear-2.ensures.items c.hand_out.ensures.sent (code-gone c.self.invariant.2 same c.requires.went)

pub invariant_of-self : goal.invariant_of-self
invariant_of-self c = ([], c.self.inside.told.items, holds (goal.at.invariant_of-self c).After-hand_out)

pub returns : goal.returns
returns c =
    let n = c.self.inside in
    let h = c.self.invariant in
    let same = seen h.2 c.args.self.now n.outbox.nodes c.self.view_is in
    let gone = gone-seen h.2 c.args.self.now n.outbox.nodes c.self.view_is in
    let none = holds (goal.at.returns c).After-hand_out in
    record {
      parcels = λ node. c.hand_out.ensures.parcels node ∙ ap (λ (v : NewsView). parcel node v.sent) c.self.view_is;
      long = c.hand_out.ensures.long ∙ ap (λ (v : NewsView). v.nodes) c.self.view_is;
      done = view-done none;
      sent = c.hand_out.ensures.sent;
      gone = view-gone none ∙ h.2.told_are ∙ (λ i. told_all (same i) ++ gone i);
      nodes = c.hand_out.ensures.nodes ∙ ap (λ (v : NewsView). v.nodes) c.self.view_is;
    }

pub hand_out-requires : goal.hand_out-requires
hand_out-requires c = record { blank = c.requires.blank; long = c.requires.long ∙ sym (ap (λ (v : NewsView). v.nodes) c.self.view_is) }
