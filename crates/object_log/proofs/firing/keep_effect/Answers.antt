-- What undoes the changes stands where they stood.
use Rattle.std.proofs.Common.{◌≡◌, ℕ, ◌+◌, List, ◌++◌, length, take, drop, refl, sym, ap, ◌∙◌, subst, arith}
use Rattle.std.proofs.lemmas.List.{append-nil, drop_all, take_all}
use Rattle.delta_exchange.specs.declared.change.Change.{Change}
use Rattle.delta_exchange.specs.Changes.{AllFit, cells_after_all, inverses_of}
use Rattle.delta_exchange.specs.Spares.{HaveRoom}
use Rattle.delta_exchange.specs.Undoing.{UndoRestores}
use Rattle.sim_spec.specs.Firing.{emissions}
use Rattle.object_log.proofs.FireFacts.{long-inverses}
use Rattle.object_log.proofs.firing.keep_effect.Goals as goal

written-over : (written all : List Change) (len : ℕ) → length written ≡ length all → len ≡ length all → take len (written ++ drop (length written) all) ≡ written
written-over written all len same len_is =
    ap (λ zs. take len (written ++ zs)) (drop_all (length written) all (omega arith)) ∙ ap (take len) (append-nil written) ∙ take_all len written (omega arith)

pub apply-requires : goal.apply-requires
apply-requires c =
    let changes = c.as_mut_slice.ensures.value ∙ c.requires.undo in
    let F : List Change → Type 0 = λ cs. AllFit cs c.args.cells.now.contents in
    let R : List Change → Type 0 = λ cs. HaveRoom cs c.args.cells.now.spare in
    record { fit = subst F (sym changes) c.requires.fits; room = subst R (sym changes) c.requires.room }

pub returns : goal.returns
returns c =
    let held = c.hold_all-messages.ensures in
    let changes = c.as_mut_slice.ensures.value ∙ c.requires.undo in
    let inverses = c.apply.ensures.changes ∙ ap (λ cs. inverses_of cs c.args.cells.now.contents) changes in
    let long = ap length inverses ∙ long-inverses c.args.effect.now.changes c.args.cells.now.contents ∙ sym (ap length c.requires.undo) in
    let undo = written-over c.apply.new.changes c.args.undo.items c.args.undo.len long c.args.undo.ok.0 in
    let U : List Change → Type 0 = λ us. UndoRestores us c.apply.new.self c.args.effect.now.changes c.args.cells.now in
    let C : List Change → Type 0 = λ cs. UndoRestores c.apply.new.changes c.apply.new.self cs c.args.cells.now in
    record {
      event = refl;
      undo = undo ∙ inverses;
      sends = held.messages ∙ (λ i. emissions (c.get.ensures i).key.stamp (c.get.ensures i).key.dest c.args.sent (c.as_slice.ensures i));
      verdict = refl;
      cells = c.apply.ensures.cells ∙ ap (λ cs. cells_after_all cs c.args.cells.now.contents) changes;
      restores = subst U (sym undo) (subst C changes c.apply.ensures.undo);
      events = ap (λ ss. c.hold_all-messages.new.pool.events + length ss) (sym c.as_slice.ensures) ∙ held.events;
      entries = held.entries;
      lent = held.lent;
    }
