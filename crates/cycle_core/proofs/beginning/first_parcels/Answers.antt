use Rattle.std.proofs.Common.{◌≡◌, ◌++◌, ◌∷◌, ◌∙◌, [], ap, subst, arith}
use Rattle.std.proofs.lemmas.List.FromFn.{length-map-range_with_len}
use Rattle.sim_spec.specs.State.{start_event}
use Rattle.cycle_core.specs.Starts.{ArePartsOf, first_events}
use Rattle.cycle_core.proofs.StartLemmas.{first-more, no-parts}
use Rattle.cycle_core.proofs.beginning.first_parcels.Goals as goal

pub loop-i-init : goal.loop-i-init
loop-i-init g c = no-parts c.args.homes.now c.nodes.result c.in_ok-parcels.parcels.items c.in_ok-parcels.ensures c.nodes.ensures.value

pub put_home-requires-clause-parts : goal.put_home-requires-clause-parts
put_home-requires-clause-parts g c =
    let m = g.M.Model.meaning c.args.model.now in
    (first_events m c.loop-i.i, (let starts = c.requires.laws.starts in let count = c.starts-i-end.ensures in let long = length-map-range_with_len (start_event m) 0 c.loop-i.i in omega arith), c.loop-i.invariant)

pub loop-i-preserved : goal.loop-i-preserved
loop-i-preserved g c =
    let m = g.M.Model.meaning c.args.model.now in
    subst (λ es. ArePartsOf c.args.homes.now es c.put_home.new.parcels.items) (ap (λ e. first_events m c.loop-i.i ++ e ∷ []) c.first_event.ensures ∙ first-more m c.loop-i.i)
    (c.in_ok-put_home.ensures (first_events m c.loop-i.i) c.loop-i.invariant)

pub returns : goal.returns
returns g c =
    let m = g.M.Model.meaning c.args.model.now in
    let count = c.starts-i-end.ensures in
    let all : c.loop-i.i ≡ m.starts = omega arith in
    subst (λ n. ArePartsOf c.args.homes.now (first_events m n) c.loop-i.parcels.items) all c.loop-i.invariant
