-- The run stands at the start of the model.
use Rattle.sim_spec.specs.State.{initial_state}
use Rattle.model_program.proofs.run.running.tell_lines.Goals as goal

pub returns : goal.returns
returns g c totals = c.simulate_lines.ensures (initial_state (g.M.Model.meaning c.args.model.now)) totals c.requires.begins
