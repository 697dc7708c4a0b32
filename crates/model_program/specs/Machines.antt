-- What runs a simulation.
use Rattle.std.specs.Prelude.{◌≡◌, ◌≤◌, None}
use Rattle.model_core.specs.declared.limits.TheConstants.{MOST_NODES}
use Rattle.cycle_core.specs.Starts.{ArePlacedBy}
use Rattle.node_team.specs.Handings.{AreWorkers}
use Rattle.sim_io.specs.declared.words.TheConstants.{DEFAULT_AHEAD, DEFAULT_NODES}
use Rattle.sim_spec.specs.declared.placement.Placement.{Placement}
use Rattle.model_program.specs.declared.run.machine.Machine.{Machine}
use Rattle.model_program.specs.declared.run.machine.Machine.TheVariants.{OneThread, Nodes}
use Rattle.model_program.specs.declared.run.machine.Spread.{Spread}
use Rattle.model_program.specs.declared.run.team_run.TeamRun.{TeamRun}

-- 1 to 64 nodes, and 1 to 64 workers if any
abbrev pub IsSpread : Spread → Type 0
IsSpread spread = (1 ≤ spread.nodes) × (spread.nodes ≤ MOST_NODES) × AreWorkers spread.workers

abbrev pub IsMachine : Machine → Type 0
IsMachine OneThread = Unit {0}
IsMachine (Nodes spread) = IsSpread spread

-- nodes if nothing is asked for: four of them, which work eight events ahead
abbrev pub default_spread : Spread
default_spread = record { nodes = DEFAULT_NODES; ahead = DEFAULT_AHEAD; placement = Placement.Round; workers = None; moves = None }

-- a run has as many nodes as are set, with the objects placed on them as is set, which work as far ahead; as many workers
-- take their turns, if any do; and what moves is what is set
pub record IsSpreadAs {M : Type 0} (run : TeamRun M) (spread : Spread) : Type 0 where
  pub nodes : run.team.world.homes.nodes ≡ spread.nodes
  pub placed : ArePlacedBy spread.placement run.team.world.homes
  pub ahead : run.team.ahead ≡ spread.ahead
  pub workers : run.workers ≡ spread.workers
  pub moves : run.moving ≡ record { moves = spread.moves; cycles = 0 }
