-- Where a run stands in a simulation, and what it tells of that.
use Rattle.std.specs.Prelude.{◌≡◌, ℕ, List, Result}
use Rattle.delta_exchange.specs.declared.memory.OutOfMemory.{OutOfMemory}
use Rattle.model_core.specs.Meaning.{Meaning}
use Rattle.sim_spec.specs.declared.bucket.Bucket.{Bucket}
use Rattle.sim_spec.specs.declared.terms.Terms.{Terms}
use Rattle.sim_spec.specs.Standing.{Standing, ended, IsCountAt, DoesCycles}
use Rattle.sim_text.specs.LineStretches.{WritesStretch}
use Rattle.cycle_core.specs.Standings.{WorldStandsAt}
use Rattle.node_team.specs.Handings.{AreWorkers}
use Rattle.model_program.specs.declared.run.one_thread_run.OneThreadRun.{OneThreadRun}
use Rattle.model_program.specs.declared.run.team_run.TeamRun.{TeamRun}
use Rattle.model_program.specs.declared.run.told.Told.{Told}

-- why no cycle comes any more there, and how many events are done
pub record TellsOf (m : Meaning) (t : Terms) (at : Standing) (told : Told) : Type 0 where
  pub ended : told.ended ≡ ended m t at
  pub count : IsCountAt at told.count

module _ {M : Type 0} (meaning_of : M → Meaning) where
  -- the engine for one thread stands there, and the run tells it
  abbrev pub OneStandsAt : OneThreadRun M → Standing → Type 0
  OneStandsAt run at = (run.engine.standing ≡ at) × TellsOf (meaning_of run.engine.model) run.engine.terms at run.told

  abbrev pub OneCycles : OneThreadRun M → Result Bucket OutOfMemory → OneThreadRun M → Type 0
  OneCycles = DoesCycles (λ (run : OneThreadRun M). meaning_of run.engine.model) (λ (run : OneThreadRun M). run.engine.terms) OneStandsAt

  -- a stretch that writes the lines of its own events
  abbrev pub OneWrites : OneThreadRun M → Result (Unit {0}) OutOfMemory → OneThreadRun M → List ℕ → Type 0
  OneWrites = WritesStretch (λ (run : OneThreadRun M). meaning_of run.engine.model) (λ (run : OneThreadRun M). run.engine.terms) OneStandsAt

  -- so it is with the nodes of a team, of which there can be so many workers
  abbrev pub TeamStandsAt : TeamRun M → Standing → Type 0
  TeamStandsAt run at = WorldStandsAt meaning_of run.team.world at × TellsOf (meaning_of run.team.world.model) run.team.world.terms at run.told × AreWorkers run.workers

  abbrev pub TeamCycles : TeamRun M → Result Bucket OutOfMemory → TeamRun M → Type 0
  TeamCycles = DoesCycles (λ (run : TeamRun M). meaning_of run.team.world.model) (λ (run : TeamRun M). run.team.world.terms) TeamStandsAt
