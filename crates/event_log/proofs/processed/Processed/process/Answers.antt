-- The news make way for the event, which comes behind them.
use Rattle.std.proofs.Common.{◌≡◌, ℕ, List, ap, sym, ◌∙◌, subst}
use Rattle.key_order.specs.Keys.{times}
use Rattle.model_core.specs.declared.event.Event.{Event}
use Rattle.model_core.specs.Meaning.{Meaning}
use Rattle.object_log.specs.Carrying.{Placed, placed_key}
use Rattle.object_log.specs.Weave.{insert}
use Rattle.event_log.specs.News.{CanFire}
use Rattle.event_log.specs.Processing.{CanJoin, HasCome, IsSameProcessed, ProcessedView}
use Rattle.event_log.proofs.LogFacts.{err-one, ok-more}
use Rattle.event_log.proofs.processed.Processed.process.Goals as goal

pub join-requires-clause-can : goal.join-requires-clause-can
join-requires-clause-can g c = λ k l.
    let P : Event → Type 0 = λ e. CanJoin e.key c.make_ready.new.self in
    subst P c.get.ensures c.make_ready.ensures.can

pub join-requires-clause-new : goal.join-requires-clause-new
join-requires-clause-new g c = λ k l. ap (times placed_key c.args.event.key) c.make_ready.ensures.same.items ∙ c.requires.new

pub join-requires-clause-fires : goal.join-requires-clause-fires
join-requires-clause-fires g c = λ k l.
    let m : Meaning = g.M.Model.meaning c.args.model.now in
    let F : ℕ → Type 0 = λ nodes. CanFire m c.args.homes.now nodes c.args.object.now c.args.event in
    subst F (sym c.make_ready.ensures.same.nodes) c.requires.fires

pub returns-clause-ok : goal.returns-clause-ok
returns-clause-ok g c =
    let m : Meaning = g.M.Model.meaning c.args.model.now in
    let mid : ProcessedView = c.make_ready.new.self in
    let old : ProcessedView = c.args.self.now in
    let new : ProcessedView = c.join.new.self in
    let o = c.args.object.now in
    let later = c.join.new.object in
    ok-more c.join.result (λ least. HasCome m c.args.event c.args.place o later mid new least) (λ least. HasCome m c.args.event c.args.place o later old new least)
    (λ least h. record {
      entry = h.entry;
      fired = h.fired;
      items = h.items ∙ ap (λ (items : List Placed). insert placed_key (record { done = h.entry; place = c.args.place }) items) c.make_ready.ensures.same.items;
      least_is = h.least_is;
    })
    c.join.ensures.ok

pub returns-clause-err : goal.returns-clause-err
returns-clause-err g c =
    let mid : ProcessedView = c.make_ready.new.self in
    let old : ProcessedView = c.args.self.now in
    let new : ProcessedView = c.join.new.self in
    err-one c.join.result (new ≡ mid) (IsSameProcessed old new)
    (λ is. record {
      items = ap (λ (v : ProcessedView). v.items) is ∙ c.make_ready.ensures.same.items;
      nodes = ap (λ (v : ProcessedView). v.nodes) is ∙ c.make_ready.ensures.same.nodes;
    })
    c.join.ensures.err

pub returns-clause-nodes : goal.returns-clause-nodes
returns-clause-nodes g c = c.join.ensures.nodes ∙ c.make_ready.ensures.same.nodes

pub returns-clause-homed : goal.returns-clause-homed
returns-clause-homed g c = λ homed. c.join.ensures.homed (c.make_ready.ensures.homed c.args.homes.now homed)
