-- No more are due than there are.
use Rattle.std.proofs.Common.{not, refl, arith}
use Rattle.std.proofs.lemmas.List.Filters.{length-filter_both}
use Rattle.key_order.specs.Due.{is_due}
use Rattle.node_tests.proofs.tests.logs.commit.Goals as goal

pub commit_front-requires-clause-room : goal.commit_front-requires-clause-room
commit_front-requires-clause-room g c =
    let parts = length-filter_both (λ d. is_due c.args.horizon c.args.cut d.event.key) (λ d. not (is_due c.args.horizon c.args.cut d.event.key)) (λ _. refl) c.args.log.now.done in
    omega (arith, parts, c.len.ensures, c.len-2.ensures)
