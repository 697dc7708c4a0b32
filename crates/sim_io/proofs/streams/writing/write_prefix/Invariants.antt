use Rattle.std.proofs.Common.{◌≡◌, length, take, ◌-◌, ◌≤◌}
use Rattle.sim_io.specs.Taken.{Appends}
use Rattle.sim_io.proofs.streams.writing.write_prefix.Given as goal

abbrev pub invariant-loop-at : goal.invariant-loop-at
invariant-loop-at g l =
    record {
      within : l.at ≤ length l.bytes;
      taken : Appends (g.K.Sink.told l.initial.sink) (g.K.Sink.told l.sink) (take l.at l.bytes);
      later : g.K.Sink.faults l.initial.sink ≤ g.K.Sink.faults l.sink;
      quiet : g.K.Sink.faults l.sink ≡ g.K.Sink.faults l.initial.sink;
    }

abbrev pub decreases-loop-at : goal.decreases-loop-at
decreases-loop-at g l = length l.bytes - l.at
