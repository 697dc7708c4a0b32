use Rattle.std.proofs.Common.{ap, ◌∙◌, arith}
use Rattle.std.proofs.Common.{length}
use Rattle.random_streams.proofs.ShareLemmas.{shares_len, shares_total, last_sum}
use Rattle.random_streams.proofs.shares.Shares.new.Goals as goal

pub sums-requires : goal.sums-requires
sums-requires c =
    record { few = rw c.deref.ensures.value (shares_len c.args.weights.items c.requires).1 }

pub overflow_sub-len : goal.overflow_sub-len
overflow_sub-len c = omega (arith, (shares_len c.args.weights.items c.requires).0)

pub index-requires : goal.index-requires
index-requires c =
    omega (arith, (shares_len c.args.weights.items c.requires).0, c.in_ok-up_to.ensures.len, ap length c.deref.ensures.value)

pub new-total-requires-clause-some : goal.new-total-requires-clause-some
new-total-requires-clause-some c =
    let long = rw c.deref.ensures.value at c.in_ok-up_to.ensures.len in
    let each = rw c.deref.ensures.value at c.in_ok-up_to.ensures.each in
    let total = last_sum c.args.weights.items c.in_ok-up_to.up_to.items c.len.result c.index.result.now c.requires
    long each (omega arith) c.index.ensures in
    omega (arith, total, (shares_total c.args.weights.items c.requires).0)

pub new-total-requires-clause-fits : goal.new-total-requires-clause-fits
new-total-requires-clause-fits c =
    let long = rw c.deref.ensures.value at c.in_ok-up_to.ensures.len in
    let each = rw c.deref.ensures.value at c.in_ok-up_to.ensures.each in
    let total = last_sum c.args.weights.items c.in_ok-up_to.up_to.items c.len.result c.index.result.now c.requires
    long each (omega arith) c.index.ensures in
    omega (arith, total, (shares_total c.args.weights.items c.requires).1)

pub invariant_of-result : goal.invariant_of-result
invariant_of-result c =
    let long = rw c.deref.ensures.value at c.in_ok-up_to.ensures.len in
    let each = rw c.deref.ensures.value at c.in_ok-up_to.ensures.each in
    let total = last_sum c.args.weights.items c.in_ok-up_to.up_to.items c.len.result c.index.result.now c.requires
    long each (omega arith) c.index.ensures in
    (c.requires, long, each, c.new-total.ensures ∙ total)
