use Rattle.std.proofs.Common.{◌≡◌, ℕ, ◌+◌, ◌≤◌, ◌++◌, List, take}
use Rattle.sim_stats.specs.Sums.{sums_of, IsWithin}
use Rattle.sim_stats.specs.Words.{TimedWord, words_at}
use Rattle.sim_stats.proofs.sums.Sums.add.Given as goal

abbrev pub invariant-loop-part : goal.invariant-loop-part
invariant-loop-part l = record {
  sums : (told : List TimedWord) → l.fn.self ≡ sums_of told → l.self ≡ sums_of (told ++ words_at l.time (take l.part-index l.parts));
  last : l.self.last ≤ l.time;
  within : (words : ℕ) → IsWithin words l.fn.self → IsWithin (words + l.part-index) l.self;
}
