use Rattle.model_text.proofs.circuits.circuit.Goals as goal

pub linked_circuit-requires-clause-found : goal.linked_circuit-requires-clause-found
linked_circuit-requires-clause-found c = c.in_ok-named.ensures.found
