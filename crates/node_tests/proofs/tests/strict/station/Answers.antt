-- The station is the only object, and sends to itself.
use Rattle.std.proofs.Common.{[], ◌∷◌, ◌∙◌, sym, subst}
use Rattle.queue_models.specs.Objects.{network_of}
use Rattle.queue_models.specs.Parts.{IsNetwork}
use Rattle.node_tests.proofs.LoneStation.{lone, strict_station}
use Rattle.node_tests.proofs.tests.strict.station.Goals as goal

pub make-requires : goal.make-requires
make-requires c =
    let name = c.new-name.result in
    let network = lone name (c.new-name.ensures ∙ c.in_ok-vec.ensures.items) in
    subst (λ jobs. IsNetwork (network_of 0 c.in_ok-vec-2.field-0.items jobs)) (sym c.new.ensures.items)
    (subst (λ objects. IsNetwork (network_of 0 objects [])) (sym c.in_ok-vec-2.ensures.items) network)
