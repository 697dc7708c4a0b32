use Rattle.std.proofs.Common.{rules}
use Rattle.sim_stats.specs.Occupancies.{after_words, intervals}
use Rattle.sim_stats.specs.Sums.{last_told, sums_of}
use Rattle.sim_stats.proofs.sums.Sums.none.Goals as goal

pub returns : goal.returns
unfolding sums_of after_words intervals last_told
returns c = search rules
