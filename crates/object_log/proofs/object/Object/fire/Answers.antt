-- An event is settled, done and kept.
use Rattle.std.proofs.Common.{◌≡◌, ℕ, ◌+◌, ◌<◌, ◌≤◌, ◌^◌, List, length, sym, refl, ap, ◌∙◌, subst}
use Rattle.event_key.specs.Stamps.{time_part}
use Rattle.delta_exchange.specs.declared.change.Change.{Change}
use Rattle.delta_exchange.specs.Changes.{CellData, AllFit, cells_after_all, inverses_of}
use Rattle.delta_exchange.specs.Spares.{HaveRoom, NoneFell}
use Rattle.event_firing.proofs.ReactionLemmas.{settled-goes, settled-laws}
use Rattle.model_core.specs.declared.effect.Ending.{Ending}
use Rattle.model_core.specs.declared.event.Event.{Event}
use Rattle.model_core.specs.Effects.{outcome_by}
use Rattle.model_core.specs.Meaning.{Meaning}
use Rattle.sim_spec.specs.Firing.{emissions}
use Rattle.sim_spec.proofs.SerialLemmas.{length-emissions}
use Rattle.object_log.specs.Dones.{Done}
use Rattle.object_log.specs.declared.done.Verdict.TheVariants.{Failed}
use Rattle.object_log.specs.Objects.{HasFired, IsSameObject, KeptObject}
use Rattle.object_log.specs.Outcomes.{changes_of}
use Rattle.object_log.proofs.FireFacts.{entry-kept, entry-taken, lawful-at, no-fewer, no-less, sent-fits, serials-fit, spare-kept, spare-sent, still}
use Rattle.object_log.proofs.HeldLemmas.{least-start}
use Rattle.object_log.proofs.ProcessLemmas.{fires-fails, fires-goes, named-here, settled-here}
use Rattle.object_log.proofs.SendLemmas.{delays-in}
use Rattle.object_log.proofs.object.Object.fire.Goals as goal

pub make_room-room-requires : goal.make_room-room-requires
make_room-room-requires g c =
    let m : Meaning = g.M.Model.meaning c.args.model.now in
    let cells = ap (λ (o : KeptObject). o.cells.contents) c.self.view_is in
    let outcome = settled-here m c.args.self.now c.self.inside.cells.contents c.get.result.now c.args.event _ c.in-Ok.ensures c.get.ensures c.requires.dest cells in
    named-here m c.args.self.now c.self.inside.cells.contents c.args.event c.in-Ok.ending c.settle.new.sheet c.changes_of-changes.result.now
    c.keeps_laws.ensures c.requires.object c.requires.lawful outcome cells c.changes_of-changes.ensures

pub keep_effect-done-requires : goal.keep_effect-done-requires
keep_effect-done-requires g c =
    let m : Meaning = g.M.Model.meaning c.args.model.now in
    let x = c.settle.new.sheet in
    let outcome = settled-here m c.args.self.now c.self.inside.cells.contents c.get.result.now c.args.event _ c.in-Ok.ensures c.get.ensures c.requires.dest (ap (λ (o : KeptObject). o.cells.contents) c.self.view_is) in
    let goes = ap (λ (n : Ending). outcome_by n x) (sym c.in-Goes.is) ∙ outcome in
    let laws = settled-laws m c.args.self.now.object c.args.self.now.cells.contents c.args.event x c.keeps_laws.ensures c.requires.object c.requires.lawful goes in
    let cells = ap (λ (o : KeptObject). o.cells.contents) c.self.view_is in
    let F : CellData → Type 0 = λ cs. AllFit x.changes cs in
    let R : List Change → Type 0 = λ cs. HaveRoom cs c.make_room-room.new.cells.spare in
    let old = c.args.self.now in
    record {
      undo = c.in-Ok-room.ensures.list ∙ c.changes_of-changes.ensures ∙ ap (λ (n : Ending). changes_of n c.settle.new.sheet) c.in-Goes.is;
      fits = subst F (sym (c.make_room-room.ensures.contents ∙ cells)) laws.fits;
      room = subst R (c.changes_of-changes.ensures ∙ ap (λ (n : Ending). changes_of n c.settle.new.sheet) c.in-Goes.is) c.in-Ok-room.ensures.changes;
      time = c.requires.time;
      stepping = (settled-goes c.args.event.key.stamp (m.effect old.object old.cells.contents c.args.event) x goes).1;
      delays = delays-in _ x.sends laws.sends;
      serials = serials-fit _ _ _ (ap (λ (o : KeptObject). o.sent) c.self.view_is) c.requires.sent laws.few_sends;
      few = (settled-laws m c.args.self.now.object c.args.self.now.cells.contents c.args.event x c.keeps_laws.ensures c.requires.object c.requires.lawful goes).few_sends;
      events = no-fewer _ _ _ laws.few_sends c.in-Ok-room.ensures.sends;
    }

pub settle-requires-clause-object : goal.settle-requires-clause-object
settle-requires-clause-object g c = λ k l.
    let B : ℕ → Type 0 = λ n. n < (g.M.Model.meaning c.args.model.now).objects in
    subst B (sym (ap (λ (e : Event). e.key.dest) c.get.ensures ∙ c.requires.dest)) c.requires.object

pub settle-requires-clause-lawful : goal.settle-requires-clause-lawful
settle-requires-clause-lawful g c = λ k l.
    lawful-at (g.M.Model.meaning c.args.model.now) _ _ _ _ (ap (λ (e : Event). e.key.dest) c.get.ensures ∙ c.requires.dest) (ap (λ (o : KeptObject). o.cells.contents) c.self.view_is) c.requires.lawful

pub settle-requires-clause-time : goal.settle-requires-clause-time
settle-requires-clause-time g c = λ k l.
    let T : Event → Type 0 = λ e. time_part e.key.stamp < 2 ^ 46 in
    subst T (sym c.get.ensures) c.requires.time

pub returns-in_default : goal.returns-in_default
returns-in_default g c =
    let P : KeptObject → Type 0 = λ o. IsSameObject c.args.self.now o in
    record {
      ok = tt;
      lawful = tt;
      err = subst P (sym c.self.view_is) (still c.args.self.now);
      back = refl;
      spare = spare-kept _ _ _ _ _ (no-less c.args.pool.now.events) refl (ap (λ (o : KeptObject). o.sent) c.self.view_is);
      entries = entry-kept _ _ (no-less c.args.pool.now.entries);
      entries_kept = no-less c.args.pool.now.entries;
      lent = tt;
      refused = refl;
    }

pub returns-in_default-room : goal.returns-in_default-room
returns-in_default-room g c =
    let made = c.make_room-room.ensures in
    let N : KeptObject → Type 0 = λ o. NoneFell o.cells.spare c.make_room-room.new.cells.spare in
    record {
      ok = tt;
      lawful = tt;
      err = record {
        object = ap (λ (o : KeptObject). o.object) c.self.view_is;
        contents = made.contents ∙ ap (λ (o : KeptObject). o.cells.contents) c.self.view_is;
        sent = ap (λ (o : KeptObject). o.sent) c.self.view_is;
        none_fell = subst N c.self.view_is made.none_fell;
      };
      back = refl;
      spare = spare-kept _ _ _ _ _ c.make_room-room.ensures.events_kept refl (ap (λ (o : KeptObject). o.sent) c.self.view_is);
      entries = entry-kept _ _ c.make_room-room.ensures.entries_kept;
      entries_kept = c.make_room-room.ensures.entries_kept;
      lent = tt;
      refused = c.in_default-room.ensures.refused;
    }

pub enter-requires-in-Goes : goal.enter-requires-in-Goes
enter-requires-in-Goes g c =
    let E : ℕ → Type 0 = λ n. 1 ≤ n in
    subst E (sym c.keep_effect-done.ensures.entries) c.in-Ok-room.ensures.entry

pub overflow_add-self : goal.overflow_add-self
overflow_add-self g c =
    let m : Meaning = g.M.Model.meaning c.args.model.now in
    let x = c.settle.new.sheet in
    let outcome = settled-here m c.args.self.now c.self.inside.cells.contents c.get.result.now c.args.event _ c.in-Ok.ensures c.get.ensures c.requires.dest (ap (λ (o : KeptObject). o.cells.contents) c.self.view_is) in
    let goes = ap (λ (n : Ending). outcome_by n x) (sym c.in-Goes.is) ∙ outcome in
    let laws = settled-laws m c.args.self.now.object c.args.self.now.cells.contents c.args.event x c.keeps_laws.ensures c.requires.object c.requires.lawful goes in
    let long = ap length c.keep_effect-done.ensures.sends ∙ length-emissions c.args.event.key.stamp c.args.event.key.dest c.self.inside.sent x.sends in
    let counted = c.len.ensures ∙ ap (λ (x : Done). length x.sends) c.done.view_is ∙ long in
    let F : ℕ → Type 0 = λ n. n ≤ 8 in
    sent-fits _ _ _ (ap (λ (o : KeptObject). o.sent) c.self.view_is) c.requires.sent (subst F (sym counted) laws.few_sends)

pub returns-in-Goes : goal.returns-in-Goes
returns-in-Goes g c =
    let long = ap length c.keep_effect-done.ensures.sends ∙ length-emissions c.args.event.key.stamp c.args.event.key.dest c.self.inside.sent c.settle.new.sheet.sends in
    let counted = c.len.ensures ∙ ap (λ (x : Done). length x.sends) c.done.view_is ∙ long in
    let L : ℕ → Type 0 = λ n. c.keep_effect-done.new.pool.events + n ≡ c.make_room-room.new.pool.events in
    let m : Meaning = g.M.Model.meaning c.args.model.now in
    let x = c.settle.new.sheet in
    let cells = ap (λ (o : KeptObject). o.cells.contents) c.self.view_is in
    let outcome = settled-here m c.args.self.now c.self.inside.cells.contents c.get.result.now c.args.event _ c.in-Ok.ensures c.get.ensures c.requires.dest cells in
    let goes = ap (λ (n : Ending). outcome_by n x) (sym c.in-Goes.is) ∙ outcome in
    let laws = settled-laws m c.args.self.now.object c.args.self.now.cells.contents c.args.event x c.keeps_laws.ensures c.requires.object c.requires.lawful goes in
    let made = c.make_room-room.ensures in
    let kept = c.keep_effect-done.ensures in
    let old = c.args.self.now in
    let e = c.args.event in
    let view = c.self.view_is in
    let mid = c.make_room-room.new.cells in
    let new : KeptObject = record { object = c.self.inside.number; cells = c.keep_effect-done.new.cells; sent = c.self.inside.sent + c.len.result } in
    let d = c.keep_effect-done.result.done in
    let sent = ap (λ (o : KeptObject). o.sent) view in
    let counts = c.len.ensures ∙ ap (λ (x : Done). length x.sends) c.done.view_is in
    let contents = made.contents ∙ ap (λ (o : KeptObject). o.cells.contents) view in
    let long_sends = ap length kept.sends ∙ length-emissions e.key.stamp e.key.dest c.self.inside.sent x.sends in
    let N : KeptObject → Type 0 = λ o. NoneFell o.cells.spare mid.spare in
    let P : Done → Type 0 = λ y. HasFired m old new e y in
    record {
      ok = subst P (sym c.enter-in-Goes.ensures.value)
          (fires-goes m old new e x d mid goes kept.event (ap (λ (o : KeptObject). o.object) view)
          (record {
            cells = kept.cells ∙ ap (cells_after_all x.changes) contents;
            sent = (λ i. sent i + counts i) ∙ ap (λ n. old.sent + n) long_sends;
            sends = kept.sends ∙ (λ i. emissions e.key.stamp (c.requires.dest i) (sent i) x.sends);
            undo = kept.undo ∙ ap (inverses_of x.changes) contents;
            verdict = kept.verdict;
          })
          contents (subst N view made.none_fell) kept.restores);
      lawful = lawful-at m _ _ _ _ (ap (λ (o : KeptObject). o.object) c.self.view_is) (c.keep_effect-done.ensures.cells ∙ ap (cells_after_all x.changes) (c.make_room-room.ensures.contents ∙ cells)) laws.lawful;
      err = tt;
      back = tt;
      spare = spare-sent _ _ _ _ _ _ _ c.make_room-room.ensures.events_kept (subst L (sym counted) c.keep_effect-done.ensures.events) c.enter-in-Goes.ensures.events (ap (λ (o : KeptObject). o.sent) c.self.view_is);
      entries = entry-taken _ _ _ _ c.make_room-room.ensures.entries_kept c.keep_effect-done.ensures.entries c.enter-in-Goes.ensures.entries;
      entries_kept = tt;
      lent = c.enter-in-Goes.ensures.lent ∙ c.keep_effect-done.ensures.lent ∙ c.in-Ok-room.ensures.lent;
      refused = tt;
    }

pub returns-in-Fails : goal.returns-in-Fails
returns-in-Fails g c =
    let m : Meaning = g.M.Model.meaning c.args.model.now in
    let made = c.make_room-room.ensures in
    let old = c.args.self.now in
    let e = c.args.event in
    let x = c.settle.new.sheet in
    let view = c.self.view_is in
    let mid = c.make_room-room.new.cells in
    let new : KeptObject = record { object = c.self.inside.number; cells = mid; sent = c.self.inside.sent } in
    let d : Done = record { event = e; undo = c.in-Ok-room.undo.items; sends = c.new.result; verdict = Failed c.in-Fails.code } in
    let no_undo = c.in-Ok-room.ensures.list ∙ c.changes_of-changes.ensures ∙ ap (λ (n : Ending). changes_of n x) c.in-Fails.is in
    let outcome = settled-here m old c.self.inside.cells.contents c.get.result.now e _ c.in-Ok.ensures c.get.ensures c.requires.dest (ap (λ (o : KeptObject). o.cells.contents) view) in
    let fails = ap (λ (n : Ending). outcome_by n x) (sym c.in-Fails.is) ∙ outcome in
    let N : KeptObject → Type 0 = λ o. NoneFell o.cells.spare mid.spare in
    let same : IsSameObject old new = record {
      object = ap (λ (o : KeptObject). o.object) view;
      contents = made.contents ∙ ap (λ (o : KeptObject). o.cells.contents) view;
      sent = ap (λ (o : KeptObject). o.sent) view;
      none_fell = subst N view made.none_fell;
    } in
    let P : Done → Type 0 = λ y. HasFired m old new e y in
    record {
      ok = subst P (sym c.enter.ensures.value) (fires-fails m old new e c.in-Fails.code d fails refl same no_undo c.new.ensures refl);
      lawful = lawful-at (g.M.Model.meaning c.args.model.now) _ _ _ _ (ap (λ (o : KeptObject). o.object) c.self.view_is) (c.make_room-room.ensures.contents ∙ ap (λ (o : KeptObject). o.cells.contents) c.self.view_is) c.requires.lawful;
      err = tt;
      back = tt;
      spare = spare-kept _ _ _ _ _ c.make_room-room.ensures.events_kept c.enter.ensures.events (ap (λ (o : KeptObject). o.sent) c.self.view_is);
      entries = entry-taken _ _ _ _ c.make_room-room.ensures.entries_kept refl c.enter.ensures.entries;
      entries_kept = tt;
      lent = c.enter.ensures.lent ∙ c.in-Ok-room.ensures.lent;
      refused = tt;
    }

pub invariant_of-result : goal.invariant_of-result
invariant_of-result g c = record { least_is = least-start c.enter.result.sends (ap (λ (d : Done). d.sends) c.enter.ensures.value ∙ c.new.ensures) }
