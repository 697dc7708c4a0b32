-- The newest event is undone, on the cells that it left.
use Rattle.std.proofs.Common.{◌≡◌, ◌-◌, ◌∷◌, ◌++◌, [], List, reverse, sym, refl, ap, ◌∙◌, subst, arith}
use Rattle.delta_exchange.specs.declared.change.Change.{Change}
use Rattle.delta_exchange.specs.Changes.{AllFit, cells_after_all}
use Rattle.delta_exchange.specs.Spares.{AllFindRoom, spare_after_all}
use Rattle.delta_exchange.specs.Undoing.{view_after_all}
use Rattle.object_log.specs.Keeping.{Keeps}
use Rattle.object_log.specs.Logs.{before}
use Rattle.object_log.specs.Objects.{HasUndone, KeptObject, state_of}
use Rattle.object_log.proofs.KeepingLemmas.{newest-undo, newest-sent, keeps-pop}
use Rattle.object_log.proofs.object.Object.take_back.Goals as goal

pub undo-requires-clause-fit : goal.undo-requires-clause-fit
undo-requires-clause-fit c =
    let n = c.requires in
    let K : KeptObject → Type 0 = λ o. Keeps o.cells o.sent (n.1.0 ++ n.0 ∷ []) in
    let Q : List Change → Type 0 = λ cs. AllFit (reverse cs) c.self.inside.cells.contents in
    subst Q (sym n.2) (newest-undo _ _ n.1.0 n.0 (subst K (sym c.self.view_is) n.1.1)).0

pub undo-requires-clause-room : goal.undo-requires-clause-room
undo-requires-clause-room c =
    let n = c.requires in
    let K : KeptObject → Type 0 = λ o. Keeps o.cells o.sent (n.1.0 ++ n.0 ∷ []) in
    let Q : List Change → Type 0 = λ cs. AllFindRoom (reverse cs) c.self.inside.cells.spare in
    subst Q (sym n.2) (newest-undo _ _ n.1.0 n.0 (subst K (sym c.self.view_is) n.1.1)).1

pub overflow_sub-self : goal.overflow_sub-self
overflow_sub-self c =
    let n = c.requires in
    let K : KeptObject → Type 0 = λ o. Keeps o.cells o.sent (n.1.0 ++ n.0 ∷ []) in
    let sent = newest-sent _ _ n.1.0 n.0 (subst K (sym c.self.view_is) n.1.1) in
    let counted = n.3 in
    omega arith

pub returns : goal.returns
returns c = λ d undo_is sends_is.
    let cells = c.self.inside.cells in
    let contents = c.undo.ensures.cells ∙ ap (λ (cs : List Change). cells_after_all (reverse cs) cells.contents) undo_is in
    let spare = c.undo.ensures.spare ∙ ap (λ (cs : List Change). spare_after_all (reverse cs) cells.spare) undo_is in
    let earlier : c.undo.new.self ≡ view_after_all (reverse d.undo) cells = λ i. record { contents = contents i; spare = spare i } in
    let sent = ap (λ n. c.self.inside.sent - n) sends_is in
    let was : KeptObject = record { object = c.self.inside.number; cells = cells; sent = c.self.inside.sent } in
    let new : KeptObject = record { object = c.self.inside.number; cells = c.undo.new.self; sent = c.self.inside.sent - c.args.sends } in
    let state : state_of new ≡ before (state_of was) d = λ i. record { cells = contents i; sent = sent i } in
    let P : KeptObject → Type 0 = λ o. HasUndone o new d in
    subst P c.self.view_is (record {
      object = refl;
      state = state;
      keeps = λ ds k. keeps-pop cells c.undo.new.self c.self.inside.sent _ ds d earlier sent k;
    })
