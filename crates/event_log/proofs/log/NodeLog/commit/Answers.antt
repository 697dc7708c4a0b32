-- What is due leaves the log.
use Rattle.std.proofs.Common.{◌≡◌, ◌<◌, ◌^◌, length, None, not, sym, ap, ◌∙◌, subst}
use Rattle.std.specs.List.{AllByRecursion as Each}
use Rattle.key_order.specs.Due.{is_due}
use Rattle.model_core.specs.declared.event.Event.{Event}
use Rattle.object_log.specs.Carrying.{Placed, placed_key}
use Rattle.object_log.specs.Logs.{fault_of, held_of}
use Rattle.object_log.specs.Parts.{due_of}
use Rattle.object_log.specs.Whole.{IsEventLog}
use Rattle.event_log.specs.Committing.{HasCommittedDue}
use Rattle.event_log.specs.NodeLogs.{HasCommittedTo, NodeLogView, node_log_view}
use Rattle.event_log.specs.Processing.{AreHomed, ProcessedView}
use Rattle.event_log.proofs.LogFacts.{commits, commits-log, err-one, on-either, on-more}
use Rattle.event_log.specs.Latest.{AreBounded}
use Rattle.event_log.proofs.LatestFacts.{bounded-filter}
use Rattle.event_log.proofs.log.NodeLog.commit.Goals as goal

pub commit-requires-clause-due : goal.commit-requires-clause-due
commit-requires-clause-due c =
    let homes = c.args.homes.now in
    let due = λ (v : NodeLogView). due_of c.args.horizon c.args.cut.now v.log.done in
    let K : Event → Type 0 = λ e. e.key.dest < length homes in
    let W : NodeLogView → Type 0 = λ v. fault_of (due v) ≡ None in
    let C : NodeLogView → Type 0 = λ v. AreHomed homes v.chained in
    let H : NodeLogView → Type 0 = λ v. Each K (held_of (due v)) in
    let N : NodeLogView → Type 0 = λ v. Each (λ home. home < v.nodes) homes in
    let F : NodeLogView → Type 0 = λ v. length (held_of v.log.done) < 2 ^ 60 in
    let view = sym c.self.view_is in
    record {
      went = subst W view c.requires.went;
      homed = subst C view c.requires.homed;
      known = subst H view c.requires.known;
      homes_in = subst N view c.requires.homes;
      few = c.self.invariant.0.few;
      few_held = subst F view c.requires.few;
    }

pub commit-requires-clause-long : goal.commit-requires-clause-long
commit-requires-clause-long c = c.requires.long ∙ sym (ap (λ (v : NodeLogView). v.nodes) c.self.view_is)

pub invariant_of-self : goal.invariant_of-self
invariant_of-self c =
    let objects = c.self.inside.objects.items in
    let old : ProcessedView = c.self.inside.events in
    let new : ProcessedView = c.commit.new.self in
    let told = c.commit.new.told.items in
    let out = c.commit.new.out.items in
    let L : ProcessedView → Type 0 = λ v. IsEventLog objects v.items in
    let bounds = c.self.inside.latest in
    let B : ProcessedView → Type 0 = λ v. AreBounded bounds v.items in (
      on-either c.commit.result (HasCommittedDue c.args.homes.now c.args.horizon c.args.cut.now old new told out) (new ≡ old) (IsEventLog objects new.items) c.commit.ensures.ok c.commit.ensures.err
          (λ h. commits-log c.args.homes.now c.args.horizon c.args.cut.now objects old new told out h c.self.invariant.0) (λ same. subst L (sym same) c.self.invariant.0),
      on-either c.commit.result (HasCommittedDue c.args.homes.now c.args.horizon c.args.cut.now old new told out) (new ≡ old) (AreBounded bounds new.items) c.commit.ensures.ok c.commit.ensures.err
          (λ h. subst (AreBounded bounds) (sym h.items) (bounded-filter bounds (λ (p : Placed). not (is_due c.args.horizon c.args.cut.now (placed_key p))) old.items c.self.invariant.1)) (λ same. subst B (sym same) c.self.invariant.1),
    )

pub returns-clause-ok : goal.returns-clause-ok
returns-clause-ok c =
    let objects = c.self.inside.objects.items in
    let old : ProcessedView = c.self.inside.events in
    let new : ProcessedView = c.commit.new.self in
    let told = c.commit.new.told.items in
    let out = c.commit.new.out.items in
    let V : NodeLogView → Type 0 = λ v. HasCommittedTo c.args.homes.now c.args.horizon c.args.cut.now v (node_log_view objects new) told out in
    on-more c.commit.result (HasCommittedDue c.args.homes.now c.args.horizon c.args.cut.now old new told out) (V c.args.self.now)
    (λ h. subst V c.self.view_is (commits c.args.homes.now c.args.horizon c.args.cut.now objects old new told out h)) c.commit.ensures.ok

pub returns-clause-err : goal.returns-clause-err
returns-clause-err c =
    let objects = c.self.inside.objects.items in
    let old : ProcessedView = c.self.inside.events in
    let new : ProcessedView = c.commit.new.self in
    err-one c.commit.result (new ≡ old) (node_log_view objects new ≡ c.args.self.now) (λ same. ap (node_log_view objects) same ∙ c.self.view_is) c.commit.ensures.err
