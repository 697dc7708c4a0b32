-- What words ask for lies within its bounds.
use Rattle.std.proofs.Common.{◌≤◌, sym, ◌∙◌, subst, arith}
use Rattle.event_key.specs.declared.stamp.TheConstants.{LAST_TICK}
use Rattle.replications.specs.declared.words.TheConstants.{MOST_WORKERS, DEFAULT_WORKERS}
use Rattle.replications.proofs.BoundLemmas.{or_else, walked-bounds}
use Rattle.replications.proofs.words.read_replicate_words.Goals as goal

pub returns-clause-bounds : goal.returns-clause-bounds
returns-clause-bounds c =
    let given = c.in_ok-given.given in
    let fine = walked-bounds c.args.start given _ _ (sym c.options.ensures ∙ c.in_ok-given.was) (record { first_seed = tt; first_tick = tt; workers = tt }) in
    let first_tick = or_else 0 LAST_TICK 0 given.first_tick fine.first_tick (omega arith) (omega arith) in
    let workers = or_else 1 MOST_WORKERS DEFAULT_WORKERS given.workers fine.workers (omega arith) (omega arith) in
    record {
      count = (c.in_ok-count.ensures.low, c.in_ok-count.ensures.high);
      first_seed = fine.first_seed;
      first_tick = subst (λ n. n ≤ LAST_TICK) (sym c.unwrap_or.ensures) first_tick.1;
      workers = subst (λ n. (1 ≤ n) × (n ≤ MOST_WORKERS)) (sym c.unwrap_or-2.ensures) workers;
    }
