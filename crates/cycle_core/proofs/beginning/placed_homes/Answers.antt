-- Each object is on its node, as the homes that were made say.
use Rattle.std.proofs.Common.{◌≡◌, ◌<◌, ◌∙◌, ap, arith, length, subst, sym}
use Rattle.world_spec.specs.World.{home_by}
use Rattle.world_spec.proofs.WorldsLaw.{placement_law}
use Rattle.cycle_core.specs.Starts.{ArePlaced, ArePlacedBy}
use Rattle.cycle_core.proofs.beginning.placed_homes.Goals as goal

pub returns-clause-by : goal.returns-clause-by
returns-clause-by g c =
    let placement = c.args.placement in
    let homes = c.in_ok-homes.homes in
    let many = c.in_ok-homes.ensures.objects in
    let by : ArePlacedBy placement homes =
    λ object within. c.in_ok-homes.ensures.homes object (omega (arith, within, many))
    ∙ ap (λ objects. home_by placement objects c.args.nodes object) (sym many)
    ∙ ap (λ nodes. home_by placement (length homes.homes) nodes object) (sym c.in_ok-homes.ensures.nodes) in
    subst (ArePlacedBy placement) (sym c.in_ok-new.ensures.ok) by

pub returns-clause-nodes : goal.returns-clause-nodes
returns-clause-nodes g c = ap (λ h. h.nodes) c.in_ok-new.ensures.ok ∙ c.in_ok-homes.ensures.nodes

pub returns-clause-placed : goal.returns-clause-placed
returns-clause-placed g c =
    let m = g.M.Model.meaning c.args.model.now in
    let homes = c.in_ok-homes.homes in
    let nodes = c.args.nodes in
    let objects : length homes.homes ≡ m.objects = c.in_ok-homes.ensures.objects ∙ c.objects.ensures in
    let some : 0 < homes.nodes = omega (arith, c.in_ok-homes.ensures.nodes, c.requires.low) in
    let placed : ArePlaced m homes = record {
      objects = objects;
      nodes = λ object below.
          let within : object < c.objects.result = omega (arith, below, c.objects.ensures) in
          let by = c.in_ok-homes.ensures.homes object within in
          let lt = placement_law c.args.placement c.objects.result nodes object c.requires.low within in
          omega (arith, by, lt, c.in_ok-homes.ensures.nodes);
      some = some;
    } in
    subst (ArePlaced m) (sym c.in_ok-new.ensures.ok) placed
