-- Which objects move between the nodes before a cycle.
use Rattle.std.specs.Prelude.{◌≡◌, ◌≤◌, ℕ, ◌-◌, ◌%◌, ◌==◌, if◌then◌else◌, List, [], ◌∷◌, length, Option, Some, None}
use Rattle.cycle_core.specs.Worlds.{WorldView}
use Rattle.node_core.specs.Homes.{HomesView}
use Rattle.object_moves.specs.Loads.{IsPlanByLoad}
use Rattle.object_moves.specs.Moves.{homes_after}
use Rattle.object_moves.specs.declared.moves.Move.{Move}
use Rattle.sim_io.specs.declared.words.moves.Moves.{Moves}

-- the objects take turns, and so do the nodes: after so many cycles the one object goes to the one node whose turn it is
abbrev pub moves_by_turn : HomesView → ℕ → List Move
moves_by_turn homes cycles =
    if length homes.homes == 0 then [] else record { object = (cycles - 1) % length homes.homes; node = cycles % homes.nodes } ∷ []

module _ {M : Type 0} where
  abbrev pub IsPlan : Moves → ℕ → WorldView M → List Move → Type 0
  IsPlan Moves.Load cycles world plan = IsPlanByLoad world plan
  IsPlan Moves.Turn cycles world plan = plan ≡ moves_by_turn world.homes cycles

  -- nothing moves before the first cycle, and before each later one what is asked for
  pub record HasMoved (moves : Option Moves) (cycles : ℕ) (old new : WorldView M) : Type 0 where
    pub first : cycles ≡ 0 → new ≡ old
    pub none : moves ≡ None → new ≡ old
    pub some : (asked : Moves) → moves ≡ Some asked → 1 ≤ cycles → (plan : List Move) × IsPlan asked cycles old plan × (new.homes ≡ homes_after old.homes plan)
