-- An object's cells are put in.
use Rattle.std.proofs.Common.{◌≡◌, List, [], map, ap, ◌∙◌, refl, subst, sym}
use Rattle.speedes_queue.specs.Queues.{pending_of}
use Rattle.node_core.specs.Logged.{LogsView}
use Rattle.node_core.specs.Marks.{MarkView, mark_of}
use Rattle.node_core.specs.Nodes.{IsHere, log_at}
use Rattle.node_core.specs.Saves.{IsPutIn}
use Rattle.node_core.specs.Sound.{IsStore}
use Rattle.node_core.specs.Stores.{StoreView, shown_logs, shown_marks}
use Rattle.node_core.proofs.SetFacts.{put-shown, put-store}
use Rattle.node_core.proofs.ShownFacts.{shown-done, state-here}
use Rattle.node_core.proofs.store.Store.set.Goals as goal
use Rattle.node_core.proofs.store.Store.set.Goals.{After-set, After-tells}

here : (c : After-tells) → IsHere (shown_logs c.self.inside.logs) c.args.object
here c = let H : StoreView → Type 0 = λ s. IsHere s.logs c.args.object in subst H (sym c.self.view_is) c.requires.here

nothing : (c : After-tells) → (log_at (shown_logs c.self.inside.logs) c.args.object).done ≡ []
nothing c = ap (λ (s : StoreView). (log_at s.logs c.args.object).done) c.self.view_is ∙ c.requires.none

pub set-requires-clause-here : goal.set-requires-clause-here
set-requires-clause-here c = state-here c.self.inside.logs c.args.object (here (goal.at.set-requires-clause-here c).After-tells)

pub set-requires-clause-none : goal.set-requires-clause-none
set-requires-clause-none c = sym (shown-done c.self.inside.logs c.tells.ensures.sound c.tells.ensures.inside c.args.object) ∙ nothing (goal.at.set-requires-clause-none c).After-tells

put : (c : After-set) → IsPutIn c.args.object (record { object = c.args.object; state = record { cells = c.args.cells.contents; sent = c.args.sent }; done = [] }) (shown_logs c.self.inside.logs) (shown_logs c.set.new.self)
put c =
    let at = goal.at.After-set c in
    put-shown c.args.object (record { cells = c.args.cells.contents; sent = c.args.sent }) c.self.inside.logs c.set.new.self
    (c.tells.ensures.inside c.args.object (state-here c.self.inside.logs c.args.object (here at.After-tells)))
    (sym (shown-done c.self.inside.logs c.tells.ensures.sound c.tells.ensures.inside c.args.object) ∙ nothing at.After-tells)
    (ap (λ (l : LogsView). l.homes) c.set.ensures.same) (ap (λ (l : LogsView). l.log.done) c.set.ensures.same) c.set.ensures.state c.set.ensures.others

pub invariant_of-self : goal.invariant_of-self
invariant_of-self c =
    let at = goal.at.invariant_of-self c in
    let S : List MarkView → Type 0 = λ ms. IsStore (shown_logs c.set.new.self) ms (pending_of c.self.inside.queue) in
    subst S (sym (ap (λ (l : LogsView). map mark_of l.log.done) c.set.ensures.same))
    (put-store c.args.object (record { object = c.args.object; state = record { cells = c.args.cells.contents; sent = c.args.sent }; done = [] }) (shown_logs c.self.inside.logs) (shown_logs c.set.new.self) (put at.After-set)
    (here at.After-tells) (nothing at.After-tells) refl refl (shown_marks c.self.inside.logs) (pending_of c.self.inside.queue) c.self.invariant)

pub returns-clause-logs : goal.returns-clause-logs
returns-clause-logs c =
    let P : StoreView → Type 0 = λ s. IsPutIn c.args.object (record { object = c.args.object; state = record { cells = c.args.cells.contents; sent = c.args.sent }; done = [] }) s.logs (shown_logs c.set.new.self) in
    subst P c.self.view_is (put (goal.at.returns-clause-logs c).After-set)
