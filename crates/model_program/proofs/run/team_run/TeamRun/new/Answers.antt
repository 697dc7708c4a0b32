-- The world stands at the start, and so does the run of it.
use Rattle.node_team.proofs.ForkLemmas.{if-ok}
use Rattle.model_program.proofs.run.team_run.TeamRun.new.Goals as goal

pub returns-clause-begins : goal.returns-clause-begins
returns-clause-begins g c = if-ok c.of.result (λ run told. told _ c.in_ok-world.ensures.stands) c.of.ensures.told
