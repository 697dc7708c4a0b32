use Rattle.std.proofs.Common.{All, ◌-◌, ◌≤◌, ◌∙◌, ap, arith, length, map, subst, sym}
use Rattle.std.specs.Prelude.{IfOk}
use Rattle.std.proofs.lemmas.List.{length-map, with_items_is}
use Rattle.steal_pool.specs.declared.worker.TheConstants.{MOST_WORKERS}
use Rattle.steal_pool.specs.Tallies.{WHOLE}
use Rattle.steal_pool.specs.Ends.{IsFresh, mark}
use Rattle.steal_pool.specs.Workers.{AreHired, AreNew}
use Rattle.steal_pool.proofs.hiring.hire.Goals as goal

pub all_passes-requires-clause-few : goal.all_passes-requires-clause-few
all_passes-requires-clause-few g c κs within = subst (λ ds. length ds ≤ MOST_WORKERS) (sym c.as_mut_slice.ensures.value) c.requires.few

pub all_passes-requires-clause-fresh : goal.all_passes-requires-clause-fresh
all_passes-requires-clause-fresh g c κs within = subst (All (IsFresh WHOLE)) (sym c.as_mut_slice.ensures.value) c.requires.fresh

pub seat-requires-clause-many : goal.seat-requires-clause-many
seat-requires-clause-many g c κs within =
    let over = with_items_is c.args.deques c.all_passes.new.deques (c.all_passes.auto.deques ∙ ap length c.as_mut_slice.ensures.value ∙ sym c.args.deques.ok.0) in
    c.in_ok-lists.ensures.many ∙ sym c.all_passes.auto.deques ∙ sym (ap length over)

pub seat-requires-clause-fresh : goal.seat-requires-clause-fresh
seat-requires-clause-fresh g c κs within =
    let over = with_items_is c.args.deques c.all_passes.new.deques (c.all_passes.auto.deques ∙ ap length c.as_mut_slice.ensures.value ∙ sym c.args.deques.ok.0) in
    subst (λ ds. All (IsFresh (WHOLE - length ds)) ds) (sym over) (subst (λ many. All (IsFresh (WHOLE - many)) c.all_passes.new.deques) (sym c.all_passes.auto.deques) c.in_ok-lists.ensures.left)

pub seat-requires-clause-passes : goal.seat-requires-clause-passes
seat-requires-clause-passes g c κs within =
    let over = with_items_is c.args.deques c.all_passes.new.deques (c.all_passes.auto.deques ∙ ap length c.as_mut_slice.ensures.value ∙ sym c.args.deques.ok.0) in
    subst (λ these. All (λ victims. AreNew these victims.items) c.in_ok-lists.lists.items) (sym (ap (map mark) over ∙ c.in_ok-lists.ensures.marks)) c.in_ok-lists.ensures.passes

pub returns : goal.returns
returns g c =
    let over = with_items_is c.args.deques c.all_passes.new.deques (c.all_passes.auto.deques ∙ ap length c.as_mut_slice.ensures.value ∙ sym c.args.deques.ok.0) in
    subst (λ these. IfOk c.seat.result (λ workers. AreHired these workers.items)) (ap (map mark) over ∙ c.in_ok-lists.ensures.marks ∙ ap (map mark) c.as_mut_slice.ensures.value) c.seat.ensures
