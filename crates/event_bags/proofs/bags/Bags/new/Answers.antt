use Rattle.std.proofs.Common.{[], replicate}
use Rattle.event_bags.proofs.Calls.{begun}
use Rattle.event_bags.proofs.ChainLemmas.{shows}
use Rattle.event_bags.proofs.bags.Bags.new.Goals as goal

pub invariant_of-result : goal.invariant_of-result
invariant_of-result g c =
    (replicate c.args.bags [], begun c.args.bags c.new.ensures.items c.new-2.ensures.items (c.in_ok-heads.ensures.items_if_clones_equal (λ y same. same)))

pub returns : goal.returns
returns g c =
    shows (begun c.args.bags c.new.ensures.items c.new-2.ensures.items (c.in_ok-heads.ensures.items_if_clones_equal (λ y same. same)))
