use Rattle.model_text.proofs.network.network.Goals as goal

pub linked_network-requires-clause-found : goal.linked_network-requires-clause-found
linked_network-requires-clause-found c = c.in_ok-named.ensures.found
