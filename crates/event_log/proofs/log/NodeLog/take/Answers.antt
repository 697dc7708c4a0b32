-- All is carried, and parts.
use Rattle.std.proofs.Common.{◌<◌, ◌≤◌, ◌-◌, Some, List, length, sym, ap, ◌∙◌, subst, arith}
use Rattle.object_log.specs.Carrying.{Placed}
use Rattle.object_log.proofs.EventLogLemmas.{placed-within}
use Rattle.event_log.specs.Items.{placed}
use Rattle.event_log.specs.Moves.{MovedLogView, own_items}
use Rattle.event_log.specs.NodeLogs.{NodeLogView}
use Rattle.event_log.specs.Processing.{ProcessedView}
use Rattle.event_log.proofs.MoveFacts.{IsTaken, own-room, taken}
use Rattle.event_log.specs.Latest.{AreBounded}
use Rattle.event_log.proofs.LatestFacts.{bounded-parted}
use Rattle.event_log.proofs.log.NodeLog.take.Goals as goal
use Rattle.event_log.proofs.log.NodeLog.take.Goals.{After-self, After-swap_remove-object}

within : (c : After-self) → c.args.place < length c.self.inside.objects.items
within c =
    let view = ap (λ (v : NodeLogView). v.log) c.self.view_is in
    placed-within c.self.inside.objects.items c.self.inside.events.items c.args.self.now.log c.args.place c.args.object view c.requires.place

pub overflow_sub-last : goal.overflow_sub-last
overflow_sub-last c = omega (arith, within (goal.at.overflow_sub-last c).After-self, c.self.inside.objects.ok.0)

pub swap_remove-object-requires : goal.swap_remove-object-requires
swap_remove-object-requires c = omega (arith, within (goal.at.swap_remove-object-requires c).After-self, c.self.inside.objects.ok.0)

pub part-requires-clause-room : goal.part-requires-clause-room
part-requires-clause-room c =
    let R : List Placed → Type 0 = λ items. length (own_items c.args.object items) ≤ c.into_lists-objects.result.1.capacity in
    let room = c.requires.room in
    let same = own-room c.self.inside.objects.items c.self.inside.events.items c.args.self.now.log c.args.object (ap (λ (v : NodeLogView). v.log) c.self.view_is) in
    subst R (sym c.carry_all.ensures.same.items) (omega (arith, c.into_lists-objects.ensures.events))

-- the object is out, with all that it has processed
abbrev Taken : After-swap_remove-object → Type 0
Taken c =
    let x = c.swap_remove-object in
    IsTaken c.args.self.now.log c.args.place c.args.object x.result x.new.self.items c.part.new.self.items (placed c.part.new.own.items)

out : (c : After-swap_remove-object) → Taken c
out c =
    let s = c.self.inside in
    let x = c.swap_remove-object in
    let view = ap (λ (v : NodeLogView). v.log) c.self.view_is in
    taken s.objects.items s.events.items c.carry_all.new.self.items c.args.self.now.log c.args.place c.args.object (c.len-last.result - 1) x.result x.new.self.items
    c.part.new.self.items (placed c.part.new.own.items)
    view c.self.invariant.0 c.requires.place x.ensures.value x.ensures.items c.carry_all.ensures.same.items (omega arith) c.part.ensures.items c.part.ensures.own

pub new-requires-clause-log : goal.new-requires-clause-log
new-requires-clause-log c = (out (goal.at.new-requires-clause-log c).After-swap_remove-object).moved

pub invariant_of-self : goal.invariant_of-self
invariant_of-self c =
    let bounds = c.self.inside.latest in
    let last = c.len-last.result - 1 in
    let carried = subst (AreBounded bounds) (sym c.carry_all.ensures.same.items) c.self.invariant.1 in (
      (out (goal.at.invariant_of-self c).After-swap_remove-object).log,
      subst (AreBounded bounds) (sym c.part.ensures.items) (bounded-parted bounds c.args.object last c.args.place c.carry_all.new.self.items carried),
    )

pub returns-clause-gone : goal.returns-clause-gone
returns-clause-gone c = (out (goal.at.returns-clause-gone c).After-swap_remove-object).gone

pub returns-clause-others : goal.returns-clause-others
returns-clause-others c = (out (goal.at.returns-clause-others c).After-swap_remove-object).states

pub returns-clause-done : goal.returns-clause-done
returns-clause-done c = (out (goal.at.returns-clause-done c).After-swap_remove-object).done

pub returns-clause-places : goal.returns-clause-places
returns-clause-places c = (out (goal.at.returns-clause-places c).After-swap_remove-object).places

pub returns-clause-count : goal.returns-clause-count
returns-clause-count c = (out (goal.at.returns-clause-count c).After-swap_remove-object).count

pub returns-clause-log : goal.returns-clause-log
returns-clause-log c = (out (goal.at.returns-clause-log c).After-swap_remove-object).slot ∙ ap (λ (m : MovedLogView). Some m.log) (sym c.new.ensures)

pub new-requires-clause-empty : goal.new-requires-clause-empty
new-requires-clause-empty c = c.into_lists-objects.ensures.objects

pub returns-clause-carried : goal.returns-clause-carried
returns-clause-carried c = record {
  news = ap (λ (v : ProcessedView). v.news) c.part.ensures.same ∙ c.carry_all.ensures.news;
  chained = ap (λ (v : ProcessedView). v.chained) c.part.ensures.same ∙ c.carry_all.ensures.chained;
}

pub returns-clause-nodes : goal.returns-clause-nodes
returns-clause-nodes c = ap (λ (v : ProcessedView). v.nodes) c.part.ensures.same ∙ c.carry_all.ensures.same.nodes ∙ ap (λ (v : NodeLogView). v.nodes) c.self.view_is

pub returns-clause-room : goal.returns-clause-room
returns-clause-room c = ap (λ (v : MovedLogView). v.room) c.new.ensures ∙ c.part.ensures.capacity ∙ c.into_lists-objects.ensures.events

pub returns-clause-places_room : goal.returns-clause-places_room
returns-clause-places_room c = ap (λ (v : MovedLogView). v.places) c.new.ensures ∙ c.into_lists-objects.ensures.places
