-- Where none of all has faulted, none of those that are due has, and no more are due than there are.
use Rattle.std.proofs.Common.{◌≡◌, length, ap, rules, arith}
use Rattle.std.specs.Prelude.{None}
use Rattle.event_key.specs.declared.stamp.TheConstants.{NO_STAMP}
use Rattle.key_order.specs.Due.{is_due}
use Rattle.key_order.proofs.FilterLemmas.{length-filter_le}
use Rattle.object_log.specs.Logs.{fault_of}
use Rattle.object_log.proofs.FaultLemmas.{fault-filter}
use Rattle.measures.proofs.log.commit.Goals as goal

pub commit_front-requires-clause-went : goal.commit_front-requires-clause-went
commit_front-requires-clause-went c =
    fault-filter (λ d. is_due NO_STAMP None d.event.key) c.args.log.now.done (let none : fault_of c.args.log.now.done ≡ None = search rules in none)

pub commit_front-requires-clause-room : goal.commit_front-requires-clause-room
commit_front-requires-clause-room c =
    let fewer = length-filter_le (λ d. is_due NO_STAMP None d.event.key) c.args.log.now.done in
    let empty = ap length c.new-done.ensures in
    omega (arith, fewer, empty, c.tells.ensures.few)
