-- An event is settled, and done into the list.
use Rattle.std.proofs.Common.{◌≡◌, ℕ, ◌+◌, ◌<◌, ◌≤◌, List, ◌++◌, length, take, drop, sym, refl, ap, ◌∙◌, subst}
use Rattle.std.proofs.lemmas.List.{drop_at}
use Rattle.delta_exchange.specs.declared.change.Change.{Change}
use Rattle.delta_exchange.specs.Changes.{AllFit, CellData, cells_after_all, inverses_of}
use Rattle.delta_exchange.specs.Spares.{HaveRoom, NoneFell}
use Rattle.delta_exchange.specs.Undoing.{UndoRestores}
use Rattle.event_firing.proofs.ReactionLemmas.{settled-goes, settled-laws}
use Rattle.model_core.specs.declared.effect.Effect.{Effect}
use Rattle.model_core.specs.declared.effect.Ending.{Ending}
use Rattle.model_core.specs.Effects.{outcome_by}
use Rattle.model_core.specs.Meaning.{Meaning}
use Rattle.sim_spec.specs.Firing.{emissions}
use Rattle.object_log.specs.Objects.{IsSameObject, KeptObject}
use Rattle.object_log.specs.Outcomes.{changes_of}
use Rattle.object_log.proofs.ProcessLemmas.{fires-fails, fires-goes, named-here, settled-here}
use Rattle.object_log.specs.Fired.{failed_of, went_of}
use Rattle.object_log.proofs.FireFacts.{lawful-at, long-inverses, no-more, put-behind, sent-fits, still}
use Rattle.object_log.proofs.object.Object.fire_into.Goals as goal

pub room-requires : goal.room-requires
room-requires g c =
    let m : Meaning = g.M.Model.meaning c.args.model.now in
    let e = c.args.event.now in
    let cells = ap (λ (o : KeptObject). o.cells.contents) c.self.view_is in
    let outcome = settled-here m c.args.self.now c.self.inside.cells.contents e e _ c.in-Ok.ensures refl c.requires.dest cells in
    let x : Effect = c.settle.new.sheet in
    named-here m c.args.self.now c.self.inside.cells.contents e c.in-Ok.ending x c.as_slice-changes.result.now
    c.keeps_laws.ensures c.requires.object c.requires.lawful outcome cells (c.as_slice-changes.ensures ∙ sym (ap (λ (n : Ending). changes_of n x) c.in-Goes.is))

pub settle-requires-clause-lawful : goal.settle-requires-clause-lawful
settle-requires-clause-lawful g c = λ k l.
    lawful-at (g.M.Model.meaning c.args.model.now) _ _ _ _ c.requires.dest (ap (λ (o : KeptObject). o.cells.contents) c.self.view_is) c.requires.lawful

pub settle-requires-clause-object : goal.settle-requires-clause-object
settle-requires-clause-object g c = λ k l.
    let B : ℕ → Type 0 = λ n. n < (g.M.Model.meaning c.args.model.now).objects in
    subst B (sym c.requires.dest) c.requires.object

pub apply-requires-clause-fit : goal.apply-requires-clause-fit
apply-requires-clause-fit g c =
    let m : Meaning = g.M.Model.meaning c.args.model.now in
    let old = c.args.self.now in
    let x : Effect = c.settle.new.sheet in
    let cells = ap (λ (o : KeptObject). o.cells.contents) c.self.view_is in
    let outcome = settled-here m old c.self.inside.cells.contents c.args.event.now c.args.event.now _ c.in-Ok.ensures refl c.requires.dest cells in
    let goes = ap (λ (k : Ending). outcome_by k x) (sym c.in-Goes.is) ∙ outcome in
    let laws = settled-laws m old.object old.cells.contents c.args.event.now x c.keeps_laws.ensures c.requires.object c.requires.lawful goes in
    let F : CellData → Type 0 = λ cs. AllFit x.changes cs in
    let P : List Change → Type 0 = λ cs. AllFit cs c.room.new.self.contents in
    let full : c.extend_from_slice.new.self.items ≡ c.args.undo.now.items ++ x.changes = c.in-Ok-extend_from_slice.ensures.items ∙ ap (λ (cs : List Change). c.args.undo.now.items ++ cs) c.as_slice-changes.ensures in
    let from : c.len-from.result ≡ length c.args.undo.now.items = c.len-from.ensures ∙ c.args.undo.now.ok.0 in
    let added : c.split_at_mut-added.result.1.now ≡ x.changes = c.split_at_mut-added.ensures.back ∙ ap (drop c.len-from.result) (c.as_mut_slice.ensures.value ∙ full) ∙ drop_at c.args.undo.now.items x.changes c.len-from.result (sym from) in
    subst P (sym added) (subst F (sym (c.room.ensures.same ∙ cells)) laws.fits)

pub apply-requires-clause-room : goal.apply-requires-clause-room
apply-requires-clause-room g c =
    let x : Effect = c.settle.new.sheet in
    let R : List Change → Type 0 = λ cs. HaveRoom cs c.room.new.self.spare in
    let full : c.extend_from_slice.new.self.items ≡ c.args.undo.now.items ++ x.changes = c.in-Ok-extend_from_slice.ensures.items ∙ ap (λ (cs : List Change). c.args.undo.now.items ++ cs) c.as_slice-changes.ensures in
    let from : c.len-from.result ≡ length c.args.undo.now.items = c.len-from.ensures ∙ c.args.undo.now.ok.0 in
    let added : c.split_at_mut-added.result.1.now ≡ x.changes = c.split_at_mut-added.ensures.back ∙ ap (drop c.len-from.result) (c.as_mut_slice.ensures.value ∙ full) ∙ drop_at c.args.undo.now.items x.changes c.len-from.result (sym from) in
    subst R (sym (added ∙ sym c.as_slice-changes.ensures)) c.in-Ok-room.ensures.ok

pub overflow_add-self : goal.overflow_add-self
overflow_add-self g c =
    let m : Meaning = g.M.Model.meaning c.args.model.now in
    let old = c.args.self.now in
    let x : Effect = c.settle.new.sheet in
    let outcome = settled-here m old c.self.inside.cells.contents c.args.event.now c.args.event.now _ c.in-Ok.ensures refl c.requires.dest (ap (λ (o : KeptObject). o.cells.contents) c.self.view_is) in
    let goes = ap (λ (k : Ending). outcome_by k x) (sym c.in-Goes.is) ∙ outcome in
    let laws = settled-laws m old.object old.cells.contents c.args.event.now x c.keeps_laws.ensures c.requires.object c.requires.lawful goes in
    let F : ℕ → Type 0 = λ n. n ≤ 8 in
    sent-fits _ _ _ (ap (λ (o : KeptObject). o.sent) c.self.view_is) c.requires.sent (subst F (sym (ap length c.as_slice.ensures)) laws.few_sends)

pub returns-in-Fails : goal.returns-in-Fails
returns-in-Fails g c =
    let m : Meaning = g.M.Model.meaning c.args.model.now in
    let old = c.args.self.now in
    let e = c.args.event.now in
    let x : Effect = c.settle.new.sheet in
    let view = c.self.view_is in
    let new : KeptObject = record { object = c.self.inside.number; cells = c.self.inside.cells; sent = c.self.inside.sent } in
    let outcome = settled-here m old c.self.inside.cells.contents e e _ c.in-Ok.ensures refl c.requires.dest (ap (λ (o : KeptObject). o.cells.contents) view) in
    let fails = ap (λ (n : Ending). outcome_by n x) (sym c.in-Fails.is) ∙ outcome in
    let P : KeptObject → Type 0 = λ o. IsSameObject old o in
    let same : IsSameObject old new = subst P (sym view) (still old) in
    record {
      ok = (refl, fires-fails m old new e c.in-Fails.code (failed_of e c.in-Fails.code) fails refl same refl refl refl);
      lawful = lawful-at (g.M.Model.meaning c.args.model.now) _ _ _ _ (ap (λ (o : KeptObject). o.object) c.self.view_is) (ap (λ (o : KeptObject). o.cells.contents) c.self.view_is) c.requires.lawful;
      err = tt;
      kept = tt;
    }

pub returns-in-Ok-extend_from_slice : goal.returns-in-Ok-extend_from_slice
returns-in-Ok-extend_from_slice g c =
    let m : Meaning = g.M.Model.meaning c.args.model.now in
    let old = c.args.self.now in
    let x : Effect = c.settle.new.sheet in
    let cells = ap (λ (o : KeptObject). o.cells.contents) c.self.view_is in
    let outcome = settled-here m old c.self.inside.cells.contents c.args.event.now c.args.event.now _ c.in-Ok.ensures refl c.requires.dest cells in
    let goes = ap (λ (k : Ending). outcome_by k x) (sym c.in-Goes.is) ∙ outcome in
    let laws = settled-laws m old.object old.cells.contents c.args.event.now x c.keeps_laws.ensures c.requires.object c.requires.lawful goes in
    let full : c.extend_from_slice.new.self.items ≡ c.args.undo.now.items ++ x.changes = c.in-Ok-extend_from_slice.ensures.items ∙ ap (λ (cs : List Change). c.args.undo.now.items ++ cs) c.as_slice-changes.ensures in
    let from : c.len-from.result ≡ length c.args.undo.now.items = c.len-from.ensures ∙ c.args.undo.now.ok.0 in
    let added : c.split_at_mut-added.result.1.now ≡ x.changes = c.split_at_mut-added.ensures.back ∙ ap (drop c.len-from.result) (c.as_mut_slice.ensures.value ∙ full) ∙ drop_at c.args.undo.now.items x.changes c.len-from.result (sym from) in
    let same = c.room.ensures.same ∙ cells in
    let e = c.args.event.now in
    let view = c.self.view_is in
    let mid = c.room.new.self in
    let was = c.args.undo.now.items in
    let new : KeptObject = record { object = c.self.inside.number; cells = c.apply.new.self; sent = c.self.inside.sent + length c.as_slice.result.now } in
    let all = c.extend_from_slice.new.self.items in
    let n = c.len-from.result in
    let undo = c.apply.new.changes in
    let front = c.split_at_mut-added.result.0.now in
    let sent = ap (λ (o : KeptObject). o.sent) view in
    let inverses : undo ≡ inverses_of x.changes old.cells.contents = c.apply.ensures.changes ∙ (λ i. inverses_of (added i) (same i)) in
    let long : length undo ≡ length x.changes = ap length inverses ∙ long-inverses x.changes old.cells.contents in
    let N : KeptObject → Type 0 = λ o. NoneFell o.cells.spare mid.spare in
    let R : List Change → Type 0 = λ cs. UndoRestores undo c.apply.new.self cs mid in
    record {
      ok = record {
        undo = undo;
        added = put-behind was x.changes undo front all n c.extend_from_slice.new.self.len full from (c.split_at_mut-added.ensures.front ∙ ap (take n) c.as_mut_slice.ensures.value) long c.extend_from_slice.new.self.ok.0;
        fired = fires-goes m old new e x (went_of e old.sent x undo) mid goes refl (ap (λ (o : KeptObject). o.object) view)
            (record {
              cells = c.apply.ensures.cells ∙ (λ i. cells_after_all (added i) (same i));
              sent = (λ i. sent i + length (c.as_slice.ensures i));
              sends = (λ i. emissions e.key.stamp (c.requires.dest i) old.sent x.sends);
              undo = inverses;
              verdict = refl;
            })
            same (subst N view c.room.ensures.none_fell) (subst R added c.apply.ensures.undo);
        few_changes = no-more _ _ long laws.few_changes;
        few_sends = laws.few_sends;
        stepping = (settled-goes e.key.stamp (m.effect old.object old.cells.contents e) x goes).1;
        ranged = laws.sends;
      };
      lawful = lawful-at m _ _ _ _ (ap (λ (o : KeptObject). o.object) c.self.view_is) (c.apply.ensures.cells ∙ (λ i. cells_after_all (added i) (same i))) laws.lawful;
      err = tt;
      kept = tt;
    }

pub returns-in_default : goal.returns-in_default
returns-in_default g c =
    let P : KeptObject → Type 0 = λ o. IsSameObject c.args.self.now o in
    record { ok = tt; lawful = tt; err = subst P (sym c.self.view_is) (still c.args.self.now); kept = refl }

pub returns-in_default-room : goal.returns-in_default-room
returns-in_default-room g c =
    let N : KeptObject → Type 0 = λ o. NoneFell o.cells.spare c.room.new.self.spare in
    record {
      ok = tt;
      lawful = tt;
      err = record {
        object = ap (λ (o : KeptObject). o.object) c.self.view_is;
        contents = c.room.ensures.same ∙ ap (λ (o : KeptObject). o.cells.contents) c.self.view_is;
        sent = ap (λ (o : KeptObject). o.sent) c.self.view_is;
        none_fell = subst N c.self.view_is c.room.ensures.none_fell;
      };
      kept = refl;
    }
