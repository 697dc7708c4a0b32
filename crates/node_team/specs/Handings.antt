-- How the nodes of an advance are handed out to threads.
use Rattle.std.specs.Prelude.{◌<◌, ◌≤◌, ℕ, Option, IfSome}
use Rattle.steal_pool.specs.declared.worker.TheConstants.{MOST_WORKERS}
use Rattle.node_team.specs.declared.handing.Handing.{Handing}

-- where turns are stolen, 1 to MOST_WORKERS workers do so
abbrev pub AreWorkers : Option ℕ → Type 0
AreWorkers workers = IfSome workers (λ many. (1 ≤ many) × (many ≤ MOST_WORKERS))

-- a number of threads or workers that there can be
abbrev pub IsHanding : Handing → Type 0
IsHanding Handing.InTurn = Unit {0}
IsHanding (Handing.InParts threads) = 0 < threads
IsHanding (Handing.Stolen workers) = (1 ≤ workers) × (workers ≤ MOST_WORKERS)
