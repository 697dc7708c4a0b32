-- The event leaves the list, and its object takes it back.
use Rattle.std.proofs.Common.{◌≡◌, ℕ, ◌<◌, [], List, length, sym, ap, ◌∙◌, subst, arith, Some}
use Rattle.std.proofs.lemmas.List.{length-map}
use Rattle.std.proofs.lemmas.List.Elements.{All-from_recursion}
use Rattle.std.proofs.lemmas.Option.{get_or_from_slice_get, slice_get_within}
use Rattle.std.specs.Prelude.{slice_set, slice_get}
use Rattle.object_log.specs.Carrying.{Placed}
use Rattle.object_log.specs.Dones.{Done}
use Rattle.object_log.specs.EventLogs.{EventLogView}
use Rattle.object_log.specs.Objects.{HasUndone, IsNewest, KeptObject}
use Rattle.object_log.specs.Undoings.{HasUndoneAt}
use Rattle.object_log.specs.Whole.{IsEventLog, log_view, StandsAt}
use Rattle.object_log.proofs.UndoLemmas.{going, going-newest, left-log, same-found, undone-at}
use Rattle.event_log.specs.NodeLogs.{NodeLogView}
use Rattle.event_log.specs.Processing.{ProcessedView}
use Rattle.event_log.specs.Latest.{AreBounded}
use Rattle.event_log.proofs.LatestFacts.{bounded-removed}
use Rattle.event_log.proofs.log.NodeLog.undo_at.Goals as goal
use Rattle.event_log.proofs.log.NodeLog.undo_at.Goals.{After-self}

-- all is carried, and the event is there
no-news : (c : After-self) → c.self.inside.events.news ≡ []
no-news c = ap (λ (v : NodeLogView). v.news) c.self.view_is ∙ c.requires.carried.news

within : (c : After-self) → c.args.index < length c.self.inside.events.items
within c =
    let n = c.requires.newest in
    let there = slice_get_within c.args.self.now.log.done c.args.index n.newest n.found in
    let same = ap (λ (v : NodeLogView). length v.log.done) c.self.view_is in
    let long = length-map c.self.inside.events.items (λ (p : Placed). p.done) in
    omega arith

pub at-place-requires-clause-news : goal.at-place-requires-clause-news
at-place-requires-clause-news c = no-news (goal.at.at-place-requires-clause-news c).After-self

pub at-place-requires-clause-index : goal.at-place-requires-clause-index
at-place-requires-clause-index c = within (goal.at.at-place-requires-clause-index c).After-self

pub undo-requires-clause-news : goal.undo-requires-clause-news
undo-requires-clause-news c = no-news (goal.at.undo-requires-clause-news c).After-self

pub undo-requires-clause-index : goal.undo-requires-clause-index
undo-requires-clause-index c = within (goal.at.undo-requires-clause-index c).After-self

pub undo-requires-clause-newest : goal.undo-requires-clause-newest
undo-requires-clause-newest c = λ p found.
    let objects = c.self.inside.objects.items in
    let items = c.self.inside.events.items in
    let at = c.at-place.ensures in
    let o = c.index_mut-object.result.now in
    let g = going objects items c.args.self.now.log c.args.index c.at-place.result.1 at.0 o (ap (λ (v : NodeLogView). v.log) c.self.view_is) c.self.invariant.0 c.requires.newest at.1 at.3 c.index_mut-object.ensures.value in
    subst (λ (q : Placed). IsNewest o q.done) (same-found items c.args.index at.0 p at.1 found) (going-newest objects items c.args.index at.0 o g)

pub invariant_of-self : goal.invariant_of-self
invariant_of-self c =
    let objects = c.self.inside.objects.items in
    let items = c.self.inside.events.items in
    let at = c.at-place.ensures in
    let o = c.index_mut-object.result.now in
    let later = c.undo.new.object in
    let g = going objects items c.args.self.now.log c.args.index c.at-place.result.1 at.0 o (ap (λ (v : NodeLogView). v.log) c.self.view_is) c.self.invariant.0 c.requires.newest at.1 at.3 c.index_mut-object.ensures.value in
    let u = c.undo.ensures.undone in
    let same : u.0.done ≡ at.0.done = ap (λ (p : Placed). p.done) (same-found items c.args.index u.0 at.0 u.1 at.1) in
    let P : ℕ → Type 0 = λ k. IsEventLog (slice_set objects k later) c.undo.new.self.items in
    let Q : List Placed → Type 0 = IsEventLog (slice_set objects at.0.place later) in
    let left = sym (c.undo.ensures.left) in (
      subst P (sym at.3) (subst Q left (left-log objects items c.args.index at.0 o g later (subst (HasUndone o later) same u.2.undone))),
      subst (AreBounded c.self.inside.latest) left (bounded-removed c.self.inside.latest items c.args.index c.self.invariant.1),
    )

pub returns-clause-undone : goal.returns-clause-undone
returns-clause-undone c =
    let objects = c.self.inside.objects.items in
    let items = c.self.inside.events.items in
    let at = c.at-place.ensures in
    let o = c.index_mut-object.result.now in
    let later = c.undo.new.object in
    let g = going objects items c.args.self.now.log c.args.index c.at-place.result.1 at.0 o (ap (λ (v : NodeLogView). v.log) c.self.view_is) c.self.invariant.0 c.requires.newest at.1 at.3 c.index_mut-object.ensures.value in
    let u = c.undo.ensures.undone in
    let same : u.0.done ≡ at.0.done = ap (λ (p : Placed). p.done) (same-found items c.args.index u.0 at.0 u.1 at.1) in
    let event = c.undo.result in
    let V : EventLogView → Type 0 = λ v. HasUndoneAt c.args.index v (log_view (slice_set objects c.at-place.result.1 later) c.undo.new.self.items) event in
    let P : ℕ → Type 0 = λ k. HasUndoneAt c.args.index (log_view objects items) (log_view (slice_set objects k later) c.undo.new.self.items) event in
    let Q : List Placed → Type 0 = λ left. HasUndoneAt c.args.index (log_view objects items) (log_view (slice_set objects at.0.place later) left) event in
    subst V (ap (λ (v : NodeLogView). v.log) c.self.view_is)
    (subst P (sym at.3) (subst Q (sym (c.undo.ensures.left))
    (undone-at objects items c.args.index at.0 o g later (subst (HasUndone o later) same u.2.undone) event (u.2.event_is ∙ ap (λ (d : Done). d.event) same))))

pub returns-clause-carried : goal.returns-clause-carried
returns-clause-carried c =
    let undone = c.undo.ensures.same in
    record {
      news = ap (λ (v : ProcessedView). v.news) undone ∙ no-news (goal.at.returns-clause-carried c).After-self;
      chained = ap (λ (v : ProcessedView). v.chained) undone ∙ ap (λ (v : NodeLogView). v.chained) c.self.view_is ∙ c.requires.carried.chained;
      nodes = ap (λ (v : ProcessedView). v.nodes) undone ∙ ap (λ (v : NodeLogView). v.nodes) c.self.view_is;
    }

-- the object stands there
standing : (objects : List KeptObject) (items : List Placed) (index place len : ℕ) (p : Placed) → IsEventLog objects items → slice_get items index ≡ Some p → place ≡ p.place → len ≡ length objects → place < len
standing objects items index place len p log found same len_is =
    let S : Placed → Type 0 = λ q. StandsAt objects q.place q.done.event.key.dest in
    let stands = subst S (get_or_from_slice_get items index p p found) (All-from_recursion S items log.places index p (slice_get_within items index p found)) in
    let within = slice_get_within objects p.place stands.0 stands.1 in
    omega arith

pub index_mut-object-requires : goal.index_mut-object-requires
index_mut-object-requires c =
    let at = c.at-place.ensures in
    standing c.self.inside.objects.items c.self.inside.events.items c.args.index c.at-place.result.1 _ at.0 c.self.invariant.0 at.1 at.3 c.self.inside.objects.ok.0
