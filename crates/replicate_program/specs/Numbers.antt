-- The numbers of tables of replications that definitions cite by their names, as `law_numbers` of `btb_program` has those of `btb`.
use Rattle.std.specs.Prelude.{◌≡◌}
use Rattle.replications.specs.declared.words.TheConstants.{MOST_REPLICATIONS, LAST_SEED, MOST_WORKERS, DEFAULT_WORKERS}
use Rattle.steal_pool.specs.declared.worker.TheConstants.{MOST_WORKERS as MOST_OF_A_POOL}

pub record Numbers : Type 0 where
  pub most_replications : MOST_REPLICATIONS ≡ 100000
  -- the last seed is one below 2^63
  pub last_seed : LAST_SEED ≡ 9223372036854775807
  pub most_workers : MOST_WORKERS ≡ 64
  pub most_of_a_pool : MOST_OF_A_POOL ≡ 64
  pub default_workers : DEFAULT_WORKERS ≡ 4
