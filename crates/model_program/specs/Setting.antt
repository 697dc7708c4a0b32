-- What runs the simulation that the words ask for.
use Rattle.model_program.specs.declared.run.machine.Machine.{Machine}
use Rattle.model_program.specs.declared.run.machine.Spread.{Spread}
use Rattle.model_program.specs.Machines.{default_spread}
use Rattle.sim_io.specs.declared.words.Settings.{Settings}

-- how nodes are used: a run says it, and all others use them as by default
abbrev pub spread_of : Settings → Spread
spread_of (Settings.Run nodes ahead placement cycles workers moves) = record { nodes = nodes; ahead = ahead; placement = placement; workers = workers; moves = moves }
spread_of (Settings.One cycles) = default_spread
spread_of Settings.Totals = default_spread
spread_of (Settings.Demo n) = default_spread
spread_of (Settings.Save c) = default_spread
spread_of Settings.Resume = default_spread

-- `one` runs on one thread, and all others on nodes
abbrev pub machine_of : Settings → Machine
machine_of (Settings.Run nodes ahead placement cycles workers moves) = Machine.Nodes (spread_of (Settings.Run nodes ahead placement cycles workers moves))
machine_of (Settings.One cycles) = Machine.OneThread
machine_of Settings.Totals = Machine.Nodes default_spread
machine_of (Settings.Demo n) = Machine.Nodes default_spread
machine_of (Settings.Save c) = Machine.Nodes default_spread
machine_of Settings.Resume = Machine.Nodes default_spread
