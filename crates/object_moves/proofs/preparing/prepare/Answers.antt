-- One move more is prepared.
use Rattle.std.proofs.Common.{◌≡◌, List, sym, ap, ◌∙◌, subst}
use Rattle.std.specs.Arc.{arc_value}
use Rattle.std.specs.List.{AllByRecursion}
use Rattle.node_core.specs.Homes.{HomesView}
use Rattle.cycle_core.specs.Moving.{processed_in}
use Rattle.object_moves.specs.declared.step.Step.{Step}
use Rattle.object_moves.specs.Moves.{Exists, homes_after}
use Rattle.object_moves.specs.Steps.{AreSteps}
use Rattle.object_moves.proofs.PreparingLemmas.{after-none, drop-past, next-exists, next-prepared, steps-none}
use Rattle.object_moves.proofs.preparing.prepare.Goals as goal

pub loop-next-init : goal.loop-next-init
loop-next-init g c =
    let first = c.args.world.now.homes in
    let places = processed_in c.args.world.now.nodes in
    let same : arc_value c.in_ok-homes.homes ≡ first = c.in_ok-homes.ensures.cases ∙ c.homes.ensures in
    let P : List Step → Type 0 = λ ps. AreSteps places first ps first in
    let Q : HomesView → Type 0 = λ h. AreSteps places first c.in_ok-steps.steps.items h in
    let E : HomesView → Type 0 = λ h. AllByRecursion (Exists h) c.args.moves.now in
    record {
      steps = subst Q (sym same) (subst P (sym c.in_ok-steps.ensures.items) (steps-none places first));
      homes = ap (λ h. homes_after h c.args.moves.now) same;
      exist = subst E (sym same) c.requires.exist;
      places = c.processed-places.ensures;
    }

pub loop-next-preserved : goal.loop-next-preserved
loop-next-preserved g c =
    let inv = c.loop-next.invariant in
    let next = next-prepared (processed_in c.args.world.now.nodes) c.processed-places.result c.args.world.now.homes (arc_value c.loop-next.homes) (arc_value c.in_ok-after.after) (homes_after c.args.world.now.homes c.args.moves.now)
    c.args.moves.now c.loop-next.next-index _ c.loop-next.steps.items c.prepare_next.new.steps.items c.loop-next-test.true inv.places inv.steps inv.homes inv.exist c.in_ok-after.ensures.after c.in_ok-after.ensures.steps in
    record { steps = next.0; homes = next.1; exist = next.2; places = inv.places }

pub returns : goal.returns
returns g c =
    let rest = drop-past c.args.moves.now c.loop-next.next-index c.loop-next-test.false in
    let first = c.args.world.now.homes in
    let whole : arc_value c.loop-next.homes ≡ homes_after first c.args.moves.now =
    sym (after-none (arc_value c.loop-next.homes)) ∙ ap (homes_after (arc_value c.loop-next.homes)) (sym rest) ∙ c.loop-next.invariant.homes in
    let P : HomesView → Type 0 = λ h. AreSteps (processed_in c.args.world.now.nodes) first c.loop-next.steps.items h in
    subst P whole c.loop-next.invariant.steps

pub prepare_next-requires : goal.prepare_next-requires
prepare_next-requires g c = next-exists (arc_value c.loop-next.homes) c.args.moves.now c.loop-next.next-index _ c.loop-next-test.true c.loop-next.invariant.exist
