-- An object leaves with its log and its waiting events.
use Rattle.std.proofs.Common.{ℕ, ◌≤◌, List, length, sym, ap, ◌∙◌, subst}
use Rattle.model_core.specs.declared.event.Event.{Event}
use Rattle.speedes_queue.specs.Queues.{pending_of}
use Rattle.node_core.specs.Homes.{HomesView}
use Rattle.node_core.specs.Moving.{HasLeft}
use Rattle.node_core.specs.Nodes.{IsHere, log_at}
use Rattle.node_core.specs.Stores.{StoreView}
use Rattle.node_core.proofs.ListedLogs.{log-done}
use Rattle.node_core.proofs.MovingShown.{shown-left, store-left}
use Rattle.node_core.proofs.ShownFacts.{state-here}
use Rattle.node_core.proofs.StoreLemmas.{store_of}
use Rattle.node_core.proofs.store.Store.take_out.Goals as goal

pub take-log-requires-clause-here : goal.take-log-requires-clause-here
take-log-requires-clause-here c =
    let H : StoreView → Type 0 = λ s. IsHere s.logs c.args.object in
    state-here c.self.inside.logs c.args.object (subst H (sym c.self.view_is) c.requires.here)

pub take-log-requires-clause-room : goal.take-log-requires-clause-room
take-log-requires-clause-room c =
    let l = c.self.inside.logs in
    let t = c.tells-2.ensures in
    let R : StoreView → Type 0 = λ s. length (log_at s.logs c.args.object).done ≤ c.args.room.events in
    let P : ℕ → Type 0 = λ n. n ≤ c.args.room.events in
    subst P (ap length (log-done l.log (length l.homes.homes) t.inside t.sound.here c.args.object)) (subst R (sym c.self.view_is) c.requires.room)

pub invariant_of-self : goal.invariant_of-self
invariant_of-self c =
    let i = c.self.inside in
    let k = c.take-log.ensures in
    let H : StoreView → Type 0 = λ s. IsHere s.logs c.args.object in
    let within = c.tells-2.ensures.inside c.args.object (state-here i.logs c.args.object (subst H (sym c.self.view_is) c.requires.here)) in
    let same = ap (λ (h : HomesView). length h.homes) k.homes ∙ c.requires.objects ∙ sym (ap (λ (s : StoreView). length s.homes.homes) c.self.view_is) in
    store-left c.args.object i.logs c.take-log.new.self c.take-log.result.log (pending_of i.queue) (pending_of c.take_events-waiting.new.queue) c.self.invariant c.tells-3.ensures.sound same within k.log k.gone k.others k.done
    c.take_events-waiting.ensures.rest

pub returns-clause-left : goal.returns-clause-left
returns-clause-left c =
    let i = c.self.inside in
    let k = c.take-log.ensures in
    let w = c.take_events-waiting.ensures in
    let H : StoreView → Type 0 = λ s. IsHere s.logs c.args.object in
    let within = c.tells-2.ensures.inside c.args.object (state-here i.logs c.args.object (subst H (sym c.self.view_is) c.requires.here)) in
    let same = ap (λ (h : HomesView). length h.homes) k.homes ∙ c.requires.objects ∙ sym (ap (λ (s : StoreView). length s.homes.homes) c.self.view_is) in
    let has = shown-left c.args.object i.logs c.take-log.new.self c.take-log.result.log (pending_of i.queue) (pending_of c.take_events-waiting.new.queue) c.self.invariant c.tells-3.ensures.sound same within k.log k.gone k.others k.done
    w.rest i.queue.spare c.take_events-waiting.new.queue.spare c.take-log.result.room c.take-log.result.places w.spare in
    let new = store_of c.take-log.new.self c.take_events-waiting.new.queue in
    let W : List Event → Type 0 = λ ws. HasLeft c.args.object (store_of i.logs i.queue) new (record { log = c.take-log.result.log; waiting = ws; room = c.take-log.result.room; places = c.take-log.result.places }) in
    let S : StoreView → Type 0 = λ s. HasLeft c.args.object s new (record { log = c.take-log.result.log; waiting = c.take_events-waiting.result; room = c.take-log.result.room; places = c.take-log.result.places }) in
    subst S c.self.view_is (subst W (sym w.own) has)
