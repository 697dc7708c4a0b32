-- An object comes to the logs.
use Rattle.std.proofs.Common.{◌≡◌, ℕ, ◌<◌, ◌≤◌, ◌+◌, None, length, sym, ap, subst, ◌∙◌, arith}
use Rattle.std.specs.Arc.{arc_value}
use Rattle.std.specs.Prelude.{slice_set}
use Rattle.object_log.specs.EventLogs.{ObjectView, state_in}
use Rattle.node_core.specs.Homes.{HomesView}
use Rattle.node_core.specs.Logged.{AreLogged, LogsView}
use Rattle.node_core.proofs.MovingLogs.{come-few, come-logged, come-others}
use Rattle.node_core.proofs.logs.Logs.put.Goals as goal
use Rattle.node_core.proofs.logs.Logs.put.Goals.{After-tells}

-- what comes isn't here, and is one of the objects that there are, which are more than those that are here
abbrev comes : After-tells → ObjectView
comes c = record { object = c.args.moved.log.object; state = c.args.moved.log.state }

away : (c : After-tells) → state_in c.self.inside.log.log.objects c.args.moved.log.object ≡ None
away c = ap (λ (v : LogsView). state_in v.log.objects c.args.moved.log.object) c.self.view_is ∙ c.requires.away

inside : (c : After-tells) → c.args.moved.log.object < length (arc_value c.self.inside.homes).homes
inside c =
    let W : ℕ → Type 0 = λ n. c.args.moved.log.object < n in
    subst W (sym (ap (λ (v : LogsView). length v.homes.homes) c.self.view_is)) c.requires.inside

few : (c : After-tells) → length c.self.inside.log.log.objects + 1 ≤ length (arc_value c.self.inside.homes).homes
few c = come-few c.self.inside.log.log.objects (comes c) _ c.tells.ensures.apart (away c) (inside c) c.self.invariant.inside

pub overflow_cast-objects : goal.overflow_cast-objects
overflow_cast-objects c =
    let long = ap (λ (h : HomesView). length h.homes) c.deref.ensures in
    let count = c.objects-few.ensures in
    let fits = c.objects-few.type_inv in
    let is = c.objects.ensures in
    omega (arith, few (goal.at.overflow_cast-objects c).After-tells)

pub put-requires-clause-places : goal.put-requires-clause-places
put-requires-clause-places c =
    let same = ap (λ (v : LogsView). length v.homes.homes) c.self.view_is in
    let room = c.requires.places in
    omega (arith, few (goal.at.put-requires-clause-places c).After-tells)

pub put-requires-clause-numbered : goal.put-requires-clause-numbered
put-requires-clause-numbered c =
    let long = ap (λ (h : HomesView). length h.homes) c.deref.ensures in
    let count = c.objects-few.ensures in
    let fits = c.objects-few.type_inv in
    omega (arith, few (goal.at.put-requires-clause-numbered c).After-tells)

pub invariant_of-self : goal.invariant_of-self
invariant_of-self c =
    let at = (goal.at.invariant_of-self c).After-tells in
    let i = c.self.inside in
    let p = c.put.ensures in
    let nodes = c.requires.nodes ∙ sym (ap (λ (v : LogsView). v.homes.nodes) c.self.view_is) in
    let objects = c.requires.objects ∙ sym (ap (λ (v : LogsView). length v.homes.homes) c.self.view_is) in
    let L : ℕ → Type 0 = λ o. AreLogged (arc_value c.args.homes) c.put.new.self (slice_set i.places.items o c.objects.result) in
    let K : ℕ → Type 0 = λ k. AreLogged (arc_value c.args.homes) c.put.new.self (slice_set i.places.items c.args.moved.log.object k) in
    subst L (sym c.number-object.ensures) (subst K (sym c.objects.ensures)
    (come-logged i.log c.put.new.self (comes at) i.places.items (arc_value i.homes) (arc_value c.args.homes) c.self.invariant (away at) (inside at)
    p.objects p.carried p.nodes nodes objects))

pub returns-clause-states : goal.returns-clause-states
returns-clause-states c other apart =
    let at = (goal.at.returns-clause-states c).After-tells in
    let i = c.self.inside in
    let p = c.put.ensures in
    let nodes = c.requires.nodes ∙ sym (ap (λ (v : LogsView). v.homes.nodes) c.self.view_is) in
    let objects = c.requires.objects ∙ sym (ap (λ (v : LogsView). length v.homes.homes) c.self.view_is) in
    come-others i.log c.put.new.self (comes at) i.places.items (arc_value i.homes) (arc_value c.args.homes) c.self.invariant (away at) (inside at)
    p.objects p.carried p.nodes nodes objects other apart
    ∙ ap (λ (v : LogsView). state_in v.log.objects other) c.self.view_is
