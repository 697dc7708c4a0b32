-- Each knows the least of those below it.
use Rattle.std.proofs.Common.{◌≡◌, [], refl, arith, take, ◌<◌, length, ap, ◌∙◌, subst}
use Rattle.std.proofs.Math.Seq.{map-set_same, take-length}
use Rattle.std.proofs.lemmas.List.{length-set}
use Rattle.event_key.specs.declared.stamp.TheConstants.{NO_STAMP}
use Rattle.object_log.specs.declared.entry.Entry.{Entry}
use Rattle.object_log.specs.Rows.{TellHeld}
use Rattle.object_log.proofs.PileLemmas.{told-none, told-next, least-nothing}
use Rattle.object_log.proofs.pile.tell_held.Goals as goal

pub loop-place-init : goal.loop-place-init
loop-place-init c = record { told = told-none _ [] refl; held = least-nothing [] refl; long = refl; same = refl }

pub loop-place-preserved : goal.loop-place-preserved
loop-place-preserved c =
    let es = c.loop-place.entries.items in
    let k = c.loop-place.place in
    let i = c.loop-place.invariant in
    let below : k < length es = omega arith in
    let more = told-next es k _ c.loop-place.held below i.told i.held c.min-held.ensures c.index_mut-entry.result.now.least_is in
    record {
      told = more.0;
      held = more.1;
      long = length-set es k _ ∙ i.long;
      same = map-set_same (λ (e : Entry). e.done) es k _ c.index_mut-entry.result.now (ap (λ (e : Entry). e.done) c.index_mut-entry.ensures.value) ∙ i.same;
    }

pub returns-clause-told : goal.returns-clause-told
returns-clause-told c =
    let es = c.loop-place.entries.items in
    let all : c.loop-place.place ≡ length es = omega arith in
    subst (TellHeld NO_STAMP) (ap (λ k. take k es) all ∙ take-length es) c.loop-place.invariant.told
