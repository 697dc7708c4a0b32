use Rattle.std.proofs.Common.{◌≡◌, ◌≤◌, ◌*◌, ◌^◌}
use Rattle.shop_model.specs.Lawful.{waiting_in}
use Rattle.shop_model.proofs.station.Station.waiting.Given as goal

abbrev pub invariant-loop-level : goal.invariant-loop-level
invariant-loop-level l = record {
  sum : l.waiting ≡ waiting_in l.cells.contents l.level;
  bounded : l.waiting ≤ l.level * 2 ^ 64;
}
