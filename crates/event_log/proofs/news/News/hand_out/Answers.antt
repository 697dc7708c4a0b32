-- Nothing is left.
use Rattle.std.proofs.Common.{◌≡◌, List, [], ◌++◌, sym, ap, ◌∙◌, length, drop}
use Rattle.std.proofs.lemmas.List.{append-nil}
use Rattle.event_key.specs.declared.key.Key.{Key}
use Rattle.model_core.specs.declared.note.Note.{Note}
use Rattle.object_log.specs.Tellings.{told_all}
use Rattle.event_log.specs.News.{HoldsNews, NewsView}
use Rattle.event_log.specs.Outboxes.{parcel}
use Rattle.model_core.specs.Records.{RecordsView}
use Rattle.event_log.proofs.JoinFacts.{code-gone, holds-none}
use Rattle.event_log.proofs.NewsFacts.{gone-seen, seen, view-done}
use Rattle.event_log.proofs.news.News.hand_out.Goals as goal
use Rattle.event_log.proofs.news.News.hand_out.Goals.{After-hand_out}

holds : (c : After-hand_out) → HoldsNews [] [] c.swap.new.x.items c.clear.new.self.items c.clear-2.new.self.items c.hand_out.new.self.sent c.self.inside.fault
holds c =
    let blank : c.swap.new.x.items ≡ c.args.done.now.items = cc in
    let same = seen c.self.invariant.2 c.args.self.now c.self.inside.outbox.nodes c.self.view_is in
    holds-none _ _ _ _ _ (blank ∙ c.requires.told) c.clear.ensures.items c.clear-2.ensures.items c.hand_out.ensures.sent
    (code-gone c.self.invariant.2 same c.requires.went)

pub invariant_of-self : goal.invariant_of-self
invariant_of-self c = ([], [], holds (goal.at.invariant_of-self c).After-hand_out)

pub returns : goal.returns
returns c =
    let n = c.self.inside in
    let h = c.self.invariant in
    let same = seen h.2 c.args.self.now n.outbox.nodes c.self.view_is in
    let out : c.swap.new.y.items ≡ n.told.items = cc in
    let gone : h.1 ≡ [] = gone-seen h.2 c.args.self.now n.outbox.nodes c.self.view_is ∙ c.requires.whole in
    record {
      told = out ∙ h.2.told_are ∙ ap (λ (ts : List (Key × Note)). told_all h.0 ++ ts) gone ∙ append-nil (told_all h.0) ∙ ap told_all same;
      parcels = λ node. c.hand_out.ensures.parcels node ∙ ap (λ (v : NewsView). parcel node v.sent) c.self.view_is;
      long = c.hand_out.ensures.long ∙ ap (λ (v : NewsView). v.nodes) c.self.view_is;
      done = view-done (holds (goal.at.returns c).After-hand_out);
      sent = c.hand_out.ensures.sent;
      gone = (λ i. drop (length (c.clear.ensures.items i)) ((ap (λ (r : RecordsView). r.items) c.swap.ensures.x_after ∙ c.requires.told) i));
      nodes = c.hand_out.ensures.nodes ∙ ap (λ (v : NewsView). v.nodes) c.self.view_is;
    }

pub hand_out-requires : goal.hand_out-requires
hand_out-requires c = record { blank = c.requires.blank; long = c.requires.long ∙ sym (ap (λ (v : NewsView). v.nodes) c.self.view_is) }
