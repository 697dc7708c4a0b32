use Rattle.std.proofs.Common.{◌≡◌, ◌≤◌, ◌+◌, ◌-◌, vec_len}
use Rattle.std.specs.Io.KnownBytes.{Consumes}
use Rattle.sim_io.specs.Taken.{GivesMore}
use Rattle.sim_io.proofs.streams.reading.read_some.Given as goal

abbrev pub invariant-loop-source : goal.invariant-loop-source
invariant-loop-source g l =
    record {
      taken : Consumes (g.S.Source.left l.initial.source) (g.S.Source.left l.source) l.bytes.items;
      gave : GivesMore (g.S.Source.gave l.initial.source) (g.S.Source.gave l.source) l.bytes.items;
      short : vec_len l.bytes ≤ l.most + 1;
      later : g.S.Source.faults l.initial.source ≤ g.S.Source.faults l.source;
      quiet : g.S.Source.faults l.source ≡ g.S.Source.faults l.initial.source;
    }

abbrev pub decreases-loop-source : goal.decreases-loop-source
decreases-loop-source g l = l.most + 1 - vec_len l.bytes
