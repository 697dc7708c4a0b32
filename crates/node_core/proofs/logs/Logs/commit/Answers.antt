-- Each message is to an object of the model, whose home is known.
use Rattle.std.proofs.Common.{ℕ, List, length, sym, ap, subst, ◌∙◌, ◌<◌, ◌≡◌, ◌^◌, None}
use Rattle.std.specs.Arc.{arc_value}
use Rattle.std.specs.List.{AllByRecursion as Each}
use Rattle.object_log.specs.EventCalls.{HasCommitted}
use Rattle.object_log.specs.Logs.{fault_of, held_of}
use Rattle.object_log.specs.Parts.{due_of}
use Rattle.event_log.specs.NodeLogs.{NodeLogView}
use Rattle.event_log.specs.Processing.{AreHomed}
use Rattle.event_log.proofs.LogFacts.{ok-more}
use Rattle.node_core.specs.Homes.{HomesView, home_of}
use Rattle.node_core.specs.Logged.{LogsView}
use Rattle.event_log.specs.NodeLogs.{HasCommittedTo}
use Rattle.node_core.proofs.LoggedFacts.{committed-here}
use Rattle.node_core.proofs.logs.Logs.commit.Goals as goal

pub commit-requires-clause-went : goal.commit-requires-clause-went
commit-requires-clause-went c =
    let S : LogsView → Type 0 = λ l. fault_of (due_of c.args.horizon c.args.cut.now l.log.done) ≡ None in
    subst S (sym c.self.view_is) c.requires.went

pub commit-requires-clause-homed : goal.commit-requires-clause-homed
commit-requires-clause-homed c =
    let H : List ℕ → Type 0 = λ hs. AreHomed hs c.self.inside.log.chained in
    subst H (sym (c.as_slice.ensures.homes ∙ ap (λ (h : HomesView). h.homes) c.deref.ensures)) c.self.invariant.homed

pub commit-requires-clause-known : goal.commit-requires-clause-known
commit-requires-clause-known c =
    let is = c.as_slice.ensures.homes ∙ ap (λ (h : HomesView). h.homes) c.deref.ensures in
    let K : LogsView → Type 0 = λ l. Each (λ e. e.key.dest < length l.homes.homes) (held_of (due_of c.args.horizon c.args.cut.now l.log.done)) in
    let L : List ℕ → Type 0 = λ hs. Each (λ e. e.key.dest < length hs) (held_of (due_of c.args.horizon c.args.cut.now c.self.inside.log.log.done)) in
    subst L (sym is) (subst K (sym c.self.view_is) c.requires.known)

pub commit-requires-clause-few : goal.commit-requires-clause-few
commit-requires-clause-few c =
    let F : LogsView → Type 0 = λ l. length (held_of l.log.done) < 2 ^ 60 in
    subst F (sym c.self.view_is) c.requires.few

pub commit-requires-clause-long : goal.commit-requires-clause-long
commit-requires-clause-long c = c.requires.long ∙ sym (ap (λ (l : LogsView). l.homes.nodes) c.self.view_is) ∙ sym c.self.invariant.nodes

pub returns-clause-ok : goal.returns-clause-ok
returns-clause-ok c =
    let homes : HomesView = arc_value c.self.inside.homes in
    let old : NodeLogView = c.self.inside.log in
    let new : NodeLogView = c.commit.new.self in
    let told = c.commit.new.told.items in
    let out = c.commit.new.out.items in
    let is = c.as_slice.ensures.homes ∙ ap (λ (h : HomesView). h.homes) c.deref.ensures in
    let T : List ℕ → Type 0 = λ hs. HasCommittedTo hs c.args.horizon c.args.cut.now old new told out in
    let K : LogsView → Type 0 = λ l. Each (λ e. e.key.dest < length l.homes.homes) (held_of (due_of c.args.horizon c.args.cut.now l.log.done)) in
    let C : LogsView → Type 0 = λ l. HasCommitted l.homes.nodes (home_of l.homes) c.args.horizon c.args.cut.now l.log new.log told out in
    let long = c.commit.ensures.long ∙ c.self.invariant.nodes in
    ok-more c.commit.result (λ done. HasCommittedTo c.as_slice.result.now c.args.horizon c.args.cut.now old new told out) (λ done. C c.args.self.now)
    (λ done h. subst C c.self.view_is (committed-here homes c.args.horizon c.args.cut.now old new told out long (subst K (sym c.self.view_is) c.requires.known) (subst T is h)))
    c.commit.ensures.ok

pub commit-requires-clause-told : goal.commit-requires-clause-told
commit-requires-clause-told c = c.requires.told

pub commit-requires-clause-blank : goal.commit-requires-clause-blank
commit-requires-clause-blank c = c.requires.blank

pub returns-clause-told : goal.returns-clause-told
returns-clause-told c = c.commit.ensures.told

pub returns-clause-blank : goal.returns-clause-blank
returns-clause-blank c = c.commit.ensures.blank

pub returns-clause-homes : goal.returns-clause-homes
returns-clause-homes c = ap (λ (l : LogsView). l.homes) c.self.view_is

pub returns-clause-long : goal.returns-clause-long
returns-clause-long c = c.commit.ensures.long ∙ c.self.invariant.nodes ∙ ap (λ (l : LogsView). l.homes.nodes) c.self.view_is
