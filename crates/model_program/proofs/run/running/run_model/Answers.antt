-- What was written of the simulation is handed on.
use Rattle.model_program.proofs.HandedLemmas.{simulated_on}
use Rattle.model_program.proofs.run.running.run_model.Goals as goal

pub returns-in-OneThread-clause-simulated : goal.returns-in-OneThread-clause-simulated
returns-in-OneThread-clause-simulated g c = simulated_on _ _ _ _ _ _ _ _ _ _ _ c.run_one_thread-outcome.ensures (c.hand_on.ensures.written _) c.hand_on.ensures.same
