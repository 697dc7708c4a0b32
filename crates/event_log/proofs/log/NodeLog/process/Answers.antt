-- The object fires the event, which comes to its place.
use Rattle.std.proofs.Common.{◌≡◌, ℕ, ◌<◌, ◌≤◌, ◌^◌, true, length, sym, ap, ◌∙◌, subst, arith}
use Rattle.std.specs.Prelude.{IsTrue, slice_set}
use Rattle.std.specs.List.{AllByRecursion as Each}
use Rattle.event_key.specs.Keys.{key_lt}
use Rattle.model_core.specs.declared.event.Event.{Event}
use Rattle.model_core.specs.Meaning.{Meaning}
use Rattle.object_log.specs.EventCalls.{HasProcessed}
use Rattle.object_log.specs.EventLogs.{EventLogView, dones_at, state_in}
use Rattle.object_log.specs.Logs.{keys_of}
use Rattle.object_log.specs.Objects.{IsSameObject, state_of}
use Rattle.object_log.specs.Whole.{IsEventLog, log_view}
use Rattle.object_log.proofs.EventLogLemmas.{IsFiring, firing, if-state, placed-dest, placed-state, placed-within}
use Rattle.event_log.specs.NodeLogs.{NodeLogView}
use Rattle.event_log.specs.Processing.{AreHomed, HasCome, IsSameProcessed, ProcessedView}
use Rattle.event_log.proofs.LogFacts.{come-log, come-processed, either, err-more, fresh-key, kept-log, kept-view, ok-more}
use Rattle.event_log.specs.Latest.{AreBounded, bound_of}
use Rattle.event_log.proofs.LatestFacts.{bounded-higher, bounded-insert}
use Rattle.event_log.proofs.log.NodeLog.process.Goals as goal
use Rattle.event_log.proofs.log.NodeLog.process.Goals.{After-process}
use Rattle.event_log.proofs.log.NodeLog.process.Given.{Over}

pub index_mut-object-requires : goal.index_mut-object-requires
index_mut-object-requires g c =
    let s = c.self.inside in
    let view = ap (λ (v : NodeLogView). v.log) c.self.view_is in
    let within = placed-within s.objects.items s.events.items c.args.self.now.log c.args.place c.args.event.key.dest view c.requires.place in
    omega (arith, within, s.objects.ok.0)

pub process-requires-clause-fires : goal.process-requires-clause-fires
process-requires-clause-fires g c = λ k l.
    let m : Meaning = g.M.Model.meaning c.args.model.now in
    let s = c.self.inside in
    let dest = c.args.event.key.dest in
    let o = c.index_mut-object.result.now in
    let at = c.index_mut-object.ensures.value in
    let view = ap (λ (v : NodeLogView). v.log) c.self.view_is in
    let log = c.args.self.now.log in
    let is = placed-dest s.objects.items s.events.items log c.args.place dest view c.requires.place o at in
    let state = placed-state s.objects.items s.events.items log c.args.place dest view c.requires.place o at c.self.invariant.0.apart in
    let O : ℕ → Type 0 = λ n. n < m.objects in
    let L : ℕ → Type 0 = λ n. IsTrue (m.lawful n o.cells.contents) in
    let H : ℕ → Type 0 = λ n. Each (λ (h : ℕ). h < n) c.args.homes.now in
    record {
      object_in = subst O is c.requires.object;
      lawful = subst L is (if-state (state_in log.objects dest) (state_of o) (λ t. IsTrue (m.lawful dest t.cells)) state c.requires.lawful);
      dest = is;
      time = c.requires.time;
      sent = if-state (state_in log.objects dest) (state_of o) (λ t. t.sent < 2 ^ 60) state c.requires.sent;
      known = c.requires.known;
      homes_in = subst H (sym (ap (λ (v : NodeLogView). v.nodes) c.self.view_is)) c.requires.homes;
    }

pub process-requires-clause-new : goal.process-requires-clause-new
process-requires-clause-new g c = λ k l.
    let A : EventLogView → Type 0 = λ v. Each (λ k. key_lt k c.args.event.key ≡ true) (keys_of (dones_at c.args.event.key.dest v.done)) in
    fresh-key c.args.event c.self.inside.events.items (subst A (sym (ap (λ (v : NodeLogView). v.log) c.self.view_is)) c.requires.above)

-- the object fired it there
abbrev Fires : (g : Over) → After-process g → ℕ → Type 0
Fires g c least = HasCome (g.M.Model.meaning c.args.model.now) c.args.event c.args.place c.index_mut-object.result.now c.process.new.object c.self.inside.events c.process.new.self least

fires : (g : Over) (c : After-process g) (least : ℕ) (h : Fires g c least) → IsFiring (g.M.Model.meaning c.args.model.now) c.self.inside.objects.items c.self.inside.events.items c.args.place c.index_mut-object.result.now c.process.new.object c.args.event h.entry
fires g c least h =
    let s = c.self.inside in
    let view = ap (λ (v : NodeLogView). v.log) c.self.view_is in
    firing (g.M.Model.meaning c.args.model.now) s.objects.items s.events.items c.args.self.now.log c.args.place c.index_mut-object.result.now c.process.new.object c.args.event h.entry
    view c.self.invariant.0 c.requires.place c.index_mut-object.ensures.value h.fired c.requires.above c.requires.went c.requires.few

-- or it stands there as it did
within : (g : Over) (c : After-process g) → c.args.place < length c.self.inside.objects.items
within g c =
    let view = ap (λ (v : NodeLogView). v.log) c.self.view_is in
    placed-within c.self.inside.objects.items c.self.inside.events.items c.args.self.now.log c.args.place c.args.event.key.dest view c.requires.place

pub invariant_of-self : goal.invariant_of-self
invariant_of-self g c =
    let at = (goal.at.invariant_of-self g c).After-process in
    let m : Meaning = g.M.Model.meaning c.args.model.now in
    let objects = c.self.inside.objects.items in
    let old : ProcessedView = c.self.inside.events in
    let new : ProcessedView = c.process.new.self in
    let o = c.index_mut-object.result.now in
    let later = c.process.new.object in
    let run = c.process.ensures in
    let bounds = c.raise.new.self in
    let K : Event → Type 0 = λ e. e.key.stamp ≤ bound_of bounds e.key.dest in
    let here : c.args.event.key.stamp ≤ bound_of bounds c.args.event.key.dest = subst K c.get.ensures c.raise.ensures.reached in
    let higher = bounded-higher c.self.inside.latest bounds old.items c.raise.ensures.kept c.self.invariant.1 in (
      either c.process.result (Fires g at) (IsSameProcessed old new) (IsSameObject o later) (IsEventLog (slice_set objects c.args.place later) new.items) run.ok run.err run.same
          (λ least h. come-log m objects c.args.place o later c.args.event old new least h (fires g at least h))
          (λ same is. kept-log m objects c.args.place o later c.args.event old new same is c.self.invariant.0 (within g at) c.index_mut-object.ensures.value),
      either c.process.result (Fires g at) (IsSameProcessed old new) (IsSameObject o later) (AreBounded bounds new.items) run.ok run.err run.same
          (λ least h. subst (AreBounded bounds) (sym h.items)
          (bounded-insert bounds (record { done = h.entry; place = c.args.place }) old.items (subst K (sym h.fired.event_is) here) higher))
          (λ same is. subst (AreBounded bounds) (sym same.items) higher),
    )

pub returns-clause-ok : goal.returns-clause-ok
returns-clause-ok g c =
    let at = (goal.at.returns-clause-ok g c).After-process in
    let m : Meaning = g.M.Model.meaning c.args.model.now in
    let objects = c.self.inside.objects.items in
    let new : ProcessedView = c.process.new.self in
    let later = c.process.new.object in
    let V : EventLogView → ℕ → Type 0 = λ v least. HasProcessed m v (log_view (slice_set objects c.args.place later) new.items) c.args.event least in
    ok-more c.process.result (Fires g at) (λ least. V c.args.self.now.log least)
    (λ least h. (let W : EventLogView → Type 0 = λ v. V v least in
    subst W (ap (λ (v : NodeLogView). v.log) c.self.view_is)
    (come-processed m objects c.args.place c.index_mut-object.result.now later c.args.event c.self.inside.events new least h (fires g at least h))))
    c.process.ensures.ok

pub returns-clause-err : goal.returns-clause-err
returns-clause-err g c =
    let at = (goal.at.returns-clause-err g c).After-process in
    let m : Meaning = g.M.Model.meaning c.args.model.now in
    let s = c.self.inside in
    let old : ProcessedView = s.events in
    let new : ProcessedView = c.process.new.self in
    let o = c.index_mut-object.result.now in
    let later = c.process.new.object in
    let view = ap (λ (v : NodeLogView). v.log) c.self.view_is in
    err-more c.process.result (IsSameProcessed old new) (IsSameObject o later) (log_view (slice_set s.objects.items c.args.place later) new.items ≡ c.args.self.now.log)
    (λ same is. kept-view m s.objects.items c.args.place o later c.args.event old new same is c.self.invariant.0 (within g at) c.index_mut-object.ensures.value ∙ view)
    c.process.ensures.err c.process.ensures.same

pub returns-clause-homed : goal.returns-clause-homed
returns-clause-homed g c = λ homed.
    let H : NodeLogView → Type 0 = λ v. AreHomed c.args.homes.now v.chained in
    c.process.ensures.homed (subst H (sym c.self.view_is) homed)

pub returns-clause-nodes : goal.returns-clause-nodes
returns-clause-nodes g c = c.process.ensures.nodes ∙ ap (λ (v : NodeLogView). v.nodes) c.self.view_is
