use Rattle.std.proofs.Common.{ap, sym, ◌∙◌, subst}
use Rattle.queue_models.specs.Meaning.{network_meaning}
use Rattle.queue_models.specs.Parts.{IsNetwork}
use Rattle.queue_models.proofs.RingLemmas.{ring_is_network, are_ring_parts}
use Rattle.queue_models.proofs.rings.ring.Goals as goal

pub make-requires : goal.make-requires
make-requires c =
    subst IsNetwork (sym (are_ring_parts c.args.n c.from.result c.in_ok-objects.objects.items c.in_ok-jobs.jobs.items c.from.ensures c.in_ok-objects.ensures c.in_ok-jobs.ensures))
    (ring_is_network c.args.n c.requires.some c.requires.few)

pub returns-clause-network : goal.returns-clause-network
returns-clause-network c =
    c.in_ok-network.ensures.meaning
    ∙ ap network_meaning (are_ring_parts c.args.n c.from.result c.in_ok-objects.objects.items c.in_ok-jobs.jobs.items c.from.ensures c.in_ok-objects.ensures c.in_ok-jobs.ensures)
