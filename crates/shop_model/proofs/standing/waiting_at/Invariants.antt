use Rattle.std.proofs.Common.{◌≡◌, ◌≤◌, take}
use Rattle.std.specs.Prelude.{count_by, nat_lt}
use Rattle.delta_exchange.specs.Changes.{line_of}
use Rattle.shop_model.specs.declared.levels.TheConstants.{EMPTY}
use Rattle.shop_model.specs.Stations.{jobs_line}
use Rattle.shop_model.proofs.standing.waiting_at.Given as goal

abbrev pub invariant-loop-place : goal.invariant-loop-place
invariant-loop-place l = record {
  counted : l.waiting ≡ count_by (λ a. nat_lt a EMPTY) (take l.place (line_of l.cells.contents (jobs_line l.level)));
  few : l.waiting ≤ l.place;
}
