-- The object is replaced.
use Rattle.std.proofs.Common.{◌≡◌, Some, map, sym, ap, ◌∙◌, arith}
use Rattle.std.specs.Prelude.{slice_set}
use Rattle.object_log.specs.EventLogs.{ObjectView, dones_at, state_in}
use Rattle.object_log.specs.Objects.{KeptObject, state_of}
use Rattle.object_log.specs.Whole.{dones_in, object_view}
use Rattle.object_log.proofs.EventLogLemmas.{IsChanged, numbers-stay, placed-dest, placed-within, state-becomes, state-others}
use Rattle.event_log.specs.NodeLogs.{NodeLogView}
use Rattle.event_log.proofs.SetFacts.{changed, set-log}
use Rattle.event_log.proofs.log.NodeLog.set.Goals as goal
use Rattle.event_log.proofs.log.NodeLog.set.Goals.{After-index_mut}

pub index_mut-requires : goal.index_mut-requires
index_mut-requires c =
    let view = ap (λ (v : NodeLogView). v.log) c.self.view_is in
    let within = placed-within c.self.inside.objects.items c.self.inside.events.items c.args.self.now.log c.args.place c.args.object view c.requires.place in
    omega (arith, within, c.self.inside.objects.ok.0)

-- it is the object that is meant
dest : (c : After-index_mut) → c.args.object ≡ c.index_mut.result.now.object
dest c =
    let s = c.self.inside in
    let view = ap (λ (v : NodeLogView). v.log) c.self.view_is in
    placed-dest s.objects.items s.events.items c.args.self.now.log c.args.place c.args.object view c.requires.place c.index_mut.result.now c.index_mut.ensures.value

-- and another object with its number comes
is : (c : After-index_mut) → IsChanged c.self.inside.objects.items c.args.place c.index_mut.result.now c.new.result
is c =
    let s = c.self.inside in
    let view = ap (λ (v : NodeLogView). v.log) c.self.view_is in
    let inside = placed-within s.objects.items s.events.items c.args.self.now.log c.args.place c.args.object view c.requires.place in
    changed s.objects.items s.events.items c.args.place c.index_mut.result.now c.new.result c.self.invariant.0 inside c.index_mut.ensures.value
    (ap (λ (k : KeptObject). k.object) c.new.ensures ∙ dest c)

pub invariant_of-self : goal.invariant_of-self
invariant_of-self c =
    let at = (goal.at.invariant_of-self c).After-index_mut in
    let s = c.self.inside in
    let x = is at in
    let none = ap (λ n. dones_at n (dones_in s.events.items)) (sym (dest at)) ∙ ap (λ (v : NodeLogView). dones_at c.args.object v.log.done) c.self.view_is ∙ c.requires.none in
    (set-log s.objects.items s.events.items c.args.place c.index_mut.result.now c.new.result c.self.invariant.0 x.within x.at x.same none, c.self.invariant.1)

pub returns-clause-state : goal.returns-clause-state
returns-clause-state c =
    let at = (goal.at.returns-clause-state c).After-index_mut in
    let objects = c.self.inside.objects.items in
    ap (state_in (map object_view (slice_set objects c.args.place c.new.result))) (dest at)
    ∙ state-becomes objects c.args.place c.index_mut.result.now c.new.result (is at)
    ∙ ap (λ (k : KeptObject). Some (state_of k)) c.new.ensures

pub returns-clause-others : goal.returns-clause-others
returns-clause-others c = λ other there.
    let at = (goal.at.returns-clause-others c).After-index_mut in
    state-others c.self.inside.objects.items c.args.place c.index_mut.result.now c.new.result (is at) other (λ same. there (same ∙ sym (dest at)))
    ∙ ap (λ (v : NodeLogView). state_in v.log.objects other) c.self.view_is

pub returns-clause-numbers : goal.returns-clause-numbers
returns-clause-numbers c =
    numbers-stay c.self.inside.objects.items c.args.place c.index_mut.result.now c.new.result (is (goal.at.returns-clause-numbers c).After-index_mut)
    ∙ ap (λ (v : NodeLogView). map (λ (w : ObjectView). w.object) v.log.objects) c.self.view_is
