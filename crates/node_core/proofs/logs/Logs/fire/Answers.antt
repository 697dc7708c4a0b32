-- Each object stays at its place, and the messages go to their homes.
use Rattle.std.proofs.Common.{◌≡◌, ℕ, ◌+◌, ◌<◌, ◌^◌, List, length, None, is_some, true, sym, ap, subst, ◌∙◌}
use Rattle.std.specs.Arc.{arc_value}
use Rattle.std.proofs.lemmas.Result.{IfOk-weaker, on_err_weaker}
use Rattle.std.specs.Prelude.{IfSome, IsTrue}
use Rattle.std.specs.List.{AllByRecursion as Each}
use Rattle.event_key.specs.Keys.{key_lt}
use Rattle.model_core.specs.Meaning.{Meaning}
use Rattle.object_log.specs.EventCalls.{HasProcessed}
use Rattle.object_log.specs.EventLogs.{EventLogView, dones_at, state_in}
use Rattle.object_log.specs.Logs.{fault_of, keys_of}
use Rattle.event_log.specs.NodeLogs.{NodeLogView}
use Rattle.event_log.specs.Processing.{AreHomed}
use Rattle.event_log.proofs.LogFacts.{either}
use Rattle.node_core.specs.Homes.{HomesView}
use Rattle.node_core.specs.Logged.{LogsView}
use Rattle.node_core.proofs.LoggedFacts.{logged-still, numbers}
use Rattle.node_core.proofs.logs.Logs.fire.Goals as goal

pub process-requires-clause-object : goal.process-requires-clause-object
process-requires-clause-object g c = λ k l.
    let dest = c.args.event.key.dest in
    let S : LogsView → Type 0 = λ v. is_some (state_in v.log.objects dest) ≡ true in
    let W : ℕ → Type 0 = λ n. dest < n in
    subst W (ap (λ (v : LogsView). length v.homes.homes) c.self.view_is ∙ c.requires.objects) (c.self.invariant.inside dest (subst S (sym c.self.view_is) c.requires.here))

pub process-requires-clause-lawful : goal.process-requires-clause-lawful
process-requires-clause-lawful g c = λ k l.
    let m : Meaning = g.M.Model.meaning c.args.model.now in
    let dest = c.args.event.key.dest in
    let S : LogsView → Type 0 = λ v. IfSome (state_in v.log.objects dest) (λ s. IsTrue (m.lawful dest s.cells)) in
    subst S (sym c.self.view_is) c.requires.lawful

pub process-requires-clause-above : goal.process-requires-clause-above
process-requires-clause-above g c = λ k l.
    let event = c.args.event in
    let S : LogsView → Type 0 = λ v. Each (λ key. key_lt key event.key ≡ true) (keys_of (dones_at event.key.dest v.log.done)) in
    subst S (sym c.self.view_is) c.requires.above

pub process-requires-clause-went : goal.process-requires-clause-went
process-requires-clause-went g c = λ k l.
    let S : LogsView → Type 0 = λ v. fault_of (dones_at c.args.event.key.dest v.log.done) ≡ None in
    subst S (sym c.self.view_is) c.requires.went

pub process-requires-clause-sent : goal.process-requires-clause-sent
process-requires-clause-sent g c = λ k l.
    let S : LogsView → Type 0 = λ v. IfSome (state_in v.log.objects c.args.event.key.dest) (λ s. s.sent < 2 ^ 60) in
    subst S (sym c.self.view_is) c.requires.sent

pub process-requires-clause-few : goal.process-requires-clause-few
process-requires-clause-few g c = λ k l.
    let S : LogsView → Type 0 = λ v. length v.log.done + 1 < 2 ^ 60 in
    subst S (sym c.self.view_is) c.requires.few

pub invariant_of-self : goal.invariant_of-self
invariant_of-self g c =
    let m : Meaning = g.M.Model.meaning c.args.model.now in
    let homes : HomesView = arc_value c.self.inside.homes in
    let old : NodeLogView = c.self.inside.log in
    let new : NodeLogView = c.process.new.self in
    let same = either c.process.result (λ least. HasProcessed m old.log new.log c.args.event least) (new.log ≡ old.log) (new.log ≡ old.log) (numbers new.log.objects ≡ numbers old.log.objects)
    c.process.ensures.ok c.process.ensures.err c.process.ensures.err (λ least h. h.changes.numbers) (λ is again. ap (λ (v : EventLogView). numbers v.objects) is) in
    let H : List ℕ → Type 0 = λ hs. AreHomed hs old.chained → AreHomed hs new.chained in
    let homed = subst H (c.as_slice.ensures.homes ∙ ap (λ (h : HomesView). h.homes) c.deref.ensures) c.process.ensures.homed c.self.invariant.homed in
    logged-still homes old new c.self.inside.places.items same c.process.ensures.nodes homed c.self.invariant

pub process-requires-clause-time : goal.process-requires-clause-time
process-requires-clause-time g c = λ k l. c.requires.time

pub process-requires-clause-known : goal.process-requires-clause-known
process-requires-clause-known g c = λ k l.
    ap length (c.as_slice.ensures.homes ∙ ap (λ (h : HomesView). h.homes) c.deref.ensures) ∙ ap (λ (v : LogsView). length v.homes.homes) c.self.view_is ∙ c.requires.objects

pub returns-clause-ok : goal.returns-clause-ok
returns-clause-ok g c =
    let m : Meaning = g.M.Model.meaning c.args.model.now in
    let P : LogsView → ℕ → Type 0 = λ v least. HasProcessed m v.log c.process.new.self.log c.args.event least in
    IfOk-weaker c.process.result (P (record { homes = arc_value c.self.inside.homes; log = c.self.inside.log.log })) (P c.args.self.now) (λ least is. subst (λ v. P v least) c.self.view_is is) c.process.ensures.ok

pub returns-clause-err : goal.returns-clause-err
returns-clause-err g c = on_err_weaker c.process.result (λ is. is ∙ ap (λ (v : LogsView). v.log) c.self.view_is) c.process.ensures.err

pub returns-clause-back : goal.returns-clause-back
returns-clause-back g c = c.process.ensures.back

pub returns-clause-homes : goal.returns-clause-homes
returns-clause-homes g c = ap (λ (v : LogsView). v.homes) c.self.view_is
