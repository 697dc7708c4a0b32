-- All is carried, and comes to the list of the object that comes.
use Rattle.std.proofs.Common.{◌≡◌, length, map, sym, ap, ◌∙◌, subst, arith}
use Rattle.std.proofs.lemmas.List.{length-map}
use Rattle.std.specs.Vec.{vec_capacity}
use Rattle.key_order.specs.Ascending.{Ascends}
use Rattle.object_log.specs.Carrying.{placed_key}
use Rattle.object_log.specs.Weave.{weave}
use Rattle.event_log.specs.Items.{placed, placed_of}
use Rattle.event_log.specs.Moves.{MovedLogView, shifted}
use Rattle.event_log.specs.NodeLogs.{NodeLogView}
use Rattle.event_log.specs.Processing.{ProcessedView}
use Rattle.event_log.proofs.PutFacts.{HasPut, can-put, put-all}
use Rattle.event_log.specs.Latest.{AreBounded}
use Rattle.event_log.proofs.LatestFacts.{bounded-joined}
use Rattle.event_log.proofs.log.NodeLog.put.Goals as goal
use Rattle.event_log.proofs.log.NodeLog.put.Goals.{After-into_parts-object, After-push_object}

-- what comes and what is there can be woven into one
abbrev CanPut : After-into_parts-object → Type 0
CanPut c =
    let own = placed c.into_parts-object.result.1.items in
    let carried = c.carry_all.new.self.items in
    Ascends placed_key (weave placed_key carried (map (shifted 0 c.len-place.result) own))
    × (length carried ≡ length c.args.self.now.log.done)
    × (length own ≡ length c.args.moved.log.done)

can : (c : After-into_parts-object) → CanPut c
can c =
    let s = c.self.inside in
    let p = c.into_parts-object in
    let view = ap (λ (v : NodeLogView). v.log) c.self.view_is in
    can-put s.objects.items s.events.items c.carry_all.new.self.items (placed p.result.1.items) c.args.self.now.log p.result.0 c.len-place.result
    p.result.1.capacity (vec_capacity p.result.2) c.args.moved
    view c.self.invariant.0 p.ensures.log p.ensures.view c.requires.away c.carry_all.ensures.same.items (c.len-place.ensures ∙ s.objects.ok.0)

pub absorb-requires-clause-ordered : goal.absorb-requires-clause-ordered
absorb-requires-clause-ordered c = (can (goal.at.absorb-requires-clause-ordered c).After-into_parts-object).0

pub absorb-requires-clause-room : goal.absorb-requires-clause-room
absorb-requires-clause-room c =
    let longs = can (goal.at.absorb-requires-clause-room c).After-into_parts-object in
    let three = length-map c.into_parts-object.result.1.items placed_of in
    let room = c.requires.room in
    let capacity = ap (λ (m : MovedLogView). m.room) c.into_parts-object.ensures.view in
    omega (arith, longs.1, longs.2)

-- the object is in
into : (c : After-push_object) → HasPut c.args.self.now.log c.args.moved c.push_object.new.objects.items c.absorb.new.self.items
into c =
    let s = c.self.inside in
    let p = c.into_parts-object in
    let view = ap (λ (v : NodeLogView). v.log) c.self.view_is in
    put-all s.objects.items s.events.items c.carry_all.new.self.items (placed p.result.1.items) c.args.self.now.log p.result.0 c.len-place.result
    p.result.1.capacity (vec_capacity p.result.2) c.args.moved
    view c.self.invariant.0 p.ensures.log p.ensures.view c.requires.away c.carry_all.ensures.same.items (c.len-place.ensures ∙ s.objects.ok.0)
    c.push_object.new.objects.items c.absorb.new.self.items c.requires.few c.push_object.ensures c.absorb.ensures.items

pub invariant_of-self : goal.invariant_of-self
invariant_of-self c =
    let was = c.self.inside.latest in
    let now = c.raise_all.new.self in
    let carried = subst (AreBounded was) (sym c.carry_all.ensures.same.items) c.self.invariant.1 in (
      (into (goal.at.invariant_of-self c).After-push_object).log,
      subst (AreBounded now) (sym c.absorb.ensures.items)
          (bounded-joined was now 0 c.len-place.result c.carry_all.new.self.items (placed c.into_parts-object.result.1.items)
          c.raise_all.ensures.kept carried c.raise_all.ensures.reached),
    )

pub returns-clause-slot : goal.returns-clause-slot
returns-clause-slot c = (into (goal.at.returns-clause-slot c).After-push_object).slot

pub returns-clause-objects : goal.returns-clause-objects
returns-clause-objects c = (into (goal.at.returns-clause-objects c).After-push_object).views

pub returns-clause-others : goal.returns-clause-others
returns-clause-others c = (into (goal.at.returns-clause-others c).After-push_object).others

pub returns-clause-count : goal.returns-clause-count
returns-clause-count c = (into (goal.at.returns-clause-count c).After-push_object).count

pub absorb-requires-clause-news : goal.absorb-requires-clause-news
absorb-requires-clause-news c = c.carry_all.ensures.news

pub returns-clause-carried : goal.returns-clause-carried
returns-clause-carried c = record {
  news = ap (λ (v : ProcessedView). v.news) c.absorb.ensures.same ∙ c.carry_all.ensures.news;
  chained = ap (λ (v : ProcessedView). v.chained) c.absorb.ensures.same ∙ c.carry_all.ensures.chained;
}

pub returns-clause-nodes : goal.returns-clause-nodes
returns-clause-nodes c = ap (λ (v : ProcessedView). v.nodes) c.absorb.ensures.same ∙ c.carry_all.ensures.same.nodes ∙ ap (λ (v : NodeLogView). v.nodes) c.self.view_is
