use Rattle.std.proofs.Common.{◌≡◌, ◌≤◌, ◌+◌, drop}
use Rattle.queue_models.specs.Loads.{load_after_all}
use Rattle.queue_models.specs.Stations.{busy_servers, waiting_jobs}
use Rattle.queue_models.proofs.telling.load_after.Given as goal

abbrev pub invariant-loop-change : goal.invariant-loop-change
invariant-loop-change l =
    record {
      counted : load_after_all (drop l.change-index l.changes) l.busy l.waiting ≡ load_after_all l.changes (busy_servers l.cells.contents) (waiting_jobs l.cells.contents);
      few : l.waiting ≤ 65536 + l.change-index;
    }
