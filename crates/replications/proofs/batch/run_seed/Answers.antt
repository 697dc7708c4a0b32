use Rattle.std.proofs.Common.{◌∙◌, ◌++◌, ap}
use Rattle.std.specs.Arc.{arc_value}
use Rattle.model_core.specs.Meaning.{Meaning}
use Rattle.sim_spec.specs.Run.{run}
use Rattle.sim_spec.specs.State.{initial_state}
use Rattle.replications.specs.Ends.{RowsOf, rows_of_run}
use Rattle.replications.proofs.batch.run_seed.Goals as goal

pub returns-clause-rows : goal.returns-clause-rows
returns-clause-rows g c =
    let s = c.args.study.now in
    let before = c.args.into.now.items in
    c.in_ok-stop.ensures.rows
    ∙ ap (λ (m : Meaning). before ++ rows_of_run (g.W.Rows.rows_of (arc_value c.in_ok-model.model)) m s.terms s.first_tick c.args.seed) c.in_ok-model.ensures.meaning
    ∙ ap (λ (rows : RowsOf). before ++ rows_of_run rows (g.S.Seeds.seeded s.models c.args.seed) s.terms s.first_tick c.args.seed) c.in_ok-model.ensures.rows

pub returns-clause-stop : goal.returns-clause-stop
returns-clause-stop g c = c.in_ok-stop.ensures.stop ∙ ap (λ (m : Meaning). (run m c.args.study.now.terms (initial_state m)).stop) c.in_ok-model.ensures.meaning
