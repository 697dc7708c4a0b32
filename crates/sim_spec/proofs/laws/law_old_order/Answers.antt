-- Where the ranks are the same, the next field decides.
use Rattle.std.proofs.Common.{◌∙◌, ap}
use Rattle.std.specs.Prelude.{nat_lt}
use Rattle.event_key.proofs.Order.{key_lt-tests}
use Rattle.event_key.specs.Keys.{lt_then}
use Rattle.sim_spec.proofs.laws.law_old_order.Goals as goal

pub returns : goal.returns
returns c = λ a b a_old b_old.
    let more = lt_then a.dest b.dest (lt_then a.src b.src (nat_lt a.serial b.serial)) in
    key_lt-tests a b
    ∙ ap (λ rank. lt_then a.stamp b.stamp (lt_then rank b.rank more)) a_old
    ∙ ap (λ rank. lt_then a.stamp b.stamp (lt_then 0 rank more)) b_old
