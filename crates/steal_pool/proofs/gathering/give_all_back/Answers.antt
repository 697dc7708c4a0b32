use Rattle.std.proofs.Common.{◌≡◌, ◌+◌, ◌-◌, ◌∙◌, ap, arith, length, map, subst, sym}
use Rattle.std.specs.Prelude.{sum_by}
use Rattle.std.proofs.lemmas.List.{length-map}
use Rattle.std.proofs.lemmas.List.Elements.{All-set}
use Rattle.steal_pool.specs.declared.worker.Worker.{Worker}
use Rattle.steal_pool.specs.Tallies.{WHOLE}
use Rattle.steal_pool.specs.Workers.{ArePasses, own_mark, taken_at}
use Rattle.steal_pool.proofs.GatherLemmas.{all-returned, half-marks, returning-more, returning-none}
use Rattle.steal_pool.proofs.gathering.give_all_back.Goals as goal

pub loop-place-init : goal.loop-place-init
loop-place-init g c = returning-none c.args.workers.now.items c.requires.passes c.requires.parts

pub give_back-requires-clause-to : goal.give_back-requires-clause-to
give_back-requires-clause-to g c κs within =
    let before = c.loop-place.invariant in
    let worker = c.index_mut.result.now in
    let marks = half-marks c.loop-place.place c.args.workers.now.items c.loop-place.workers.items c.loop-place.workers.items worker c.replace-victims.new.dest c.index_mut.ensures.value ∙ before.marks in
    subst (λ these. ArePasses these c.replace-victims.result.items) (sym marks)
    (subst (λ victims. ArePasses (map own_mark c.args.workers.now.items) victims) (sym (ap (λ v. v.items) c.replace-victims.ensures.value ∙ ap (λ each. each.victims.items) c.index_mut.ensures.value))
    (before.left c.loop-place.place worker (omega arith) (omega (arith, c.args.workers.now.ok.0))))

pub loop-place-preserved : goal.loop-place-preserved
loop-place-preserved g c =
    returning-more c.loop-place.place c.args.workers.now.items c.loop-place.workers.items c.give_back.new.workers.items c.index_mut.result.now c.replace-victims.new.dest
    c.loop-place.invariant (omega (arith, c.args.workers.now.ok.0)) c.index_mut.ensures.value (ap (λ v. v.items) c.replace-victims.ensures.after ∙ c.new.ensures.items) c.give_back.ensures.each
    (λ number. let same = ap (λ v. sum_by (taken_at number) v.items) c.replace-victims.ensures.value in let counted = c.give_back.ensures.counted number in omega arith)

pub returns-clause-counted : goal.returns-clause-counted
returns-clause-counted g c = all-returned c.args.workers.now.items c.loop-place.workers.items c.loop-place.place c.loop-place.invariant (omega (arith, c.args.workers.now.ok.0))

pub give_back-requires-clause-part : goal.give_back-requires-clause-part
give_back-requires-clause-part g c κs within =
    let before = c.loop-place.invariant in
    let worker = c.index_mut.result.now in
    let R : Worker _ → Type 0 = λ each. each.deque.knows.parts ≡ (WHOLE - length c.args.workers.now.items) + c.loop-place.place in
    let many : length c.loop-place.workers.items ≡ length c.args.workers.now.items =
    sym (length-map c.loop-place.workers.items own_mark) ∙ ap length before.marks ∙ length-map c.args.workers.now.items own_mark in
    let here : R worker = subst R (sym c.index_mut.ensures.value) (before.parts c.loop-place.place worker (omega (arith, c.args.workers.now.ok.0))) in
    let half = All-set R c.loop-place.workers.items c.loop-place.place (record worker { victims = c.replace-victims.new.dest }) here before.parts in
    λ k d inside. let parts = half k d inside in omega (arith, c.requires.few)

pub returns-clause-marks : goal.returns-clause-marks
returns-clause-marks g c = c.loop-place.invariant.marks

pub returns-clause-done : goal.returns-clause-done
returns-clause-done g c = c.loop-place.invariant.done

pub returns-clause-whole : goal.returns-clause-whole
returns-clause-whole g c k d inside = let parts = c.loop-place.invariant.parts k d inside in omega (arith, c.args.workers.now.ok.0, c.requires.few)
