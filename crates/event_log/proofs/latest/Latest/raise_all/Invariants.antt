-- Those so far are within their bounds.
use Rattle.std.proofs.Common.{take}
use Rattle.event_log.specs.Items.{placed}
use Rattle.event_log.specs.Latest.{AreBounded}
use Rattle.event_log.proofs.LatestFacts.{AreNoLess}
use Rattle.event_log.proofs.latest.Latest.raise_all.Given as goal

abbrev pub invariant-loop-place : goal.invariant-loop-place
invariant-loop-place l = record {
  reached : AreBounded l.self (placed (take l.place l.items.items));
  kept : AreNoLess l.fn.self l.self;
}
