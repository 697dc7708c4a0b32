use Rattle.std.proofs.Common.{◌≡◌, ℕ, ◌-◌, ◌<◌, ◌≤◌}
use Rattle.random_streams.specs.Words.{words_from}
use Rattle.random_streams.proofs.Places.{moved}
use Rattle.random_streams.proofs.stream.Stream.trials.Given as goal

abbrev pub decreases-loop-read : goal.decreases-loop-read
decreases-loop-read l = l.tests - l.read

abbrev pub invariant-loop-read : goal.invariant-loop-read
invariant-loop-read l =
    record {
      moved : l.self ≡ moved l.initial.self l.read;
      within : l.read ≤ l.tests;
      misses : (k : ℕ) → k < l.read → l.p ≤ words_from l.initial.self.seed l.initial.self.object l.initial.self.place k;
    }
