use Rattle.std.proofs.Common.{◌≡◌, ℕ, ◌<◌, true, get_or}
use Rattle.std.specs.Prelude.{nat_lt}
use Rattle.delta_exchange.specs.Changes.{line_of}
use Rattle.shop_model.proofs.standing.are_below.Given as goal

abbrev pub invariant-loop-place : goal.invariant-loop-place
invariant-loop-place l = (k : ℕ) → k < l.place → nat_lt (get_or (line_of l.cells.contents l.line) k 0) l.bound ≡ true
