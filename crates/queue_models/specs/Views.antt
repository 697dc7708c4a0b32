-- What the code keeps, in the words of the definitions.
use Rattle.queue_models.specs.declared.network.Network.{Network}
use Rattle.queue_models.specs.Objects.{NetworkParts, network_of}

-- the parts of a network
abbrev pub parts_of : Network → NetworkParts
parts_of network = network_of network.seed network.objects.items network.jobs.items
