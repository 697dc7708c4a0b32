-- Where none of all has faulted, none of those that are due has.
use Rattle.std.proofs.Common.{◌≡◌, rules}
use Rattle.std.specs.Prelude.{None}
use Rattle.key_order.specs.Due.{is_due}
use Rattle.object_log.specs.Logs.{fault_of}
use Rattle.object_log.proofs.FaultLemmas.{fault-filter}
use Rattle.node_tests.proofs.tests.logs.assert_went.Goals as goal

pub returns : goal.returns
returns g c = fault-filter (λ d. is_due c.args.horizon c.args.cut d.event.key) c.args.log.now.done (let none : fault_of c.args.log.now.done ≡ None = search rules in none)
