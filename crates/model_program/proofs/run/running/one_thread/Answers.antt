-- The model is the one that was given, so the run begins at its start.
use Rattle.std.proofs.Common.{◌≡◌, None, subst, ◌∙◌}
use Rattle.std.specs.Arc.{arc_value}
use Rattle.sim_spec.specs.Standing.{stands}
use Rattle.sim_spec.specs.State.{initial_state}
use Rattle.model_program.specs.RunStandings.{OneStandsAt}
use Rattle.model_program.proofs.run.running.one_thread.Goals as goal

pub returns-clause-begins : goal.returns-clause-begins
returns-clause-begins g c =
    let same : arc_value c.in_ok-clone.field-0 ≡ c.args.model = c.in_ok-clone.ensures.cases ∙ c.in_ok-model.ensures.ok in
    let Begins : g.row.M.Denot → Type 0 = λ x. OneStandsAt g.M.Model.meaning c.in_ok-run.run' (stands (initial_state (g.M.Model.meaning x)) None) in
    subst Begins same c.in_ok-run.ensures.begins
