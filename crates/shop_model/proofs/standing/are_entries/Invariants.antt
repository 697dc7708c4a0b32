use Rattle.std.proofs.Common.{◌≡◌, ℕ, ◌<◌, true, get_or}
use Rattle.delta_exchange.specs.Changes.{line_of}
use Rattle.shop_model.specs.Stations.{is_entry}
use Rattle.shop_model.proofs.standing.are_entries.Given as goal

abbrev pub invariant-loop-place : goal.invariant-loop-place
invariant-loop-place l = (k : ℕ) → k < l.place → is_entry l.object l.routes (get_or (line_of l.cells.contents l.line) k 0) ≡ true
