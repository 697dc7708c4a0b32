use Rattle.std.proofs.Common.{subst, sym, take, arith}
use Rattle.std.proofs.lemmas.List.{length-take-le, take_all, take_more}
use Rattle.cycle_core.specs.Starts.{ArePartsOf}
use Rattle.cycle_core.proofs.StartLemmas.{no-parts}
use Rattle.cycle_core.proofs.beginning.parcels_of.Goals as goal

pub loop-event-init : goal.loop-event-init
loop-event-init c = no-parts c.args.homes.now c.nodes.result c.in_ok-parcels.parcels.items c.in_ok-parcels.ensures c.nodes.ensures.value

pub put_home-requires-clause-parts : goal.put_home-requires-clause-parts
put_home-requires-clause-parts c =
    let long = length-take-le c.loop-event.event-index c.args.events.now (omega arith) in
    (take c.loop-event.event-index c.args.events.now, omega (arith, c.requires.few), c.loop-event.invariant)

pub loop-event-preserved : goal.loop-event-preserved
loop-event-preserved c =
    subst (λ es. ArePartsOf c.args.homes.now es c.put_home.new.parcels.items) (sym (take_more c.args.events.now c.loop-event.event-index _ (omega arith)))
    (c.in_ok-put_home.ensures (take c.loop-event.event-index c.args.events.now) c.loop-event.invariant)

pub returns : goal.returns
returns c = subst (λ es. ArePartsOf c.args.homes.now es c.loop-event.parcels.items) (take_all c.loop-event.event-index c.args.events.now (omega arith)) c.loop-event.invariant
