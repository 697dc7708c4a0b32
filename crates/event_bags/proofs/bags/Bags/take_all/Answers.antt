-- The values are appended one after another, and then the places of all of them go to the unused ones.
use Rattle.std.proofs.Common.{◌≡◌, ◌∷◌, [], ◌++◌, ◌-◌, arith, rules, length, length-append, append-nil, sym, ap, ◌∙◌}
use Rattle.std.proofs.Math.ListN.{set, length-set}
use Rattle.std.specs.Prelude.{slice_set, slice_index_or}
use Rattle.std.proofs.lemmas.List.{set-get_or}
use Rattle.event_bags.proofs.Calls.{there, sees, seen_empty}
use Rattle.event_bags.proofs.ChainLemmas.{shows}
use Rattle.event_bags.proofs.Walks.{walk_starts, walk_within, walk_short, walk_steps, walk_ends, spliced, spare_grows}
use Rattle.event_bags.proofs.bags.Bags.take_all.Goals as goal

pub returns-then-front-clause-taken : goal.returns-then-front-clause-taken
returns-then-front-clause-taken g c =
    let empty = seen_empty c.self.invariant.1 c.args.bag c.index-front.result.now c.self.view_is c.requires c.index-front.ensures c.if-front.true in
    sym (ap (λ w. c.args.into.now.items ++ w) empty ∙ append-nil c.args.into.now.items)

pub returns-then-front-clause-bags : goal.returns-then-front-clause-bags
returns-then-front-clause-bags g c =
    let empty = seen_empty c.self.invariant.1 c.args.bag c.index-front.result.now c.self.view_is c.requires c.index-front.ensures c.if-front.true in
    sym (set-get_or c.args.self.now.bags c.args.bag []) ∙ ap (slice_set c.args.self.now.bags c.args.bag) empty

pub returns-then-front-clause-spare : goal.returns-then-front-clause-spare
returns-then-front-clause-spare g c =
    let zero = ap length (seen_empty c.self.invariant.1 c.args.bag c.index-front.result.now c.self.view_is c.requires c.index-front.ensures c.if-front.true) in
    omega (arith, zero)

pub loop-into-init : goal.loop-into-init
loop-into-init g c =
    let within = there c.self.invariant.1 c.args.bag c.self.view_is c.requires in
    walk_starts c.self.invariant.1 c.args.bag c.args.into.now.items c.index-front.result.now within c.index-front.ensures c.if-front.false

pub index-requires : goal.index-requires
index-requires g c =
    omega (arith, (walk_within c.loop-into.invariant).0)

pub index-next-requires : goal.index-next-requires
index-next-requires g c =
    omega (arith, (walk_within c.loop-into.invariant).1)

pub loop-into-smaller : goal.loop-into-smaller
loop-into-smaller g c =
    let within = there c.self.invariant.1 c.args.bag c.self.view_is c.requires in
    let short = walk_short c.loop-into.invariant within in
    let grown = ap length (c.push_reserved.ensures.items ∙ ap (λ w. w ++ c.index.result.now ∷ []) c.in_ok-reserve.ensures.items) in
    let long = length-append c.loop-into.into.items (c.index.result.now ∷ []) in
    omega (arith, short, grown, long)

pub loop-into-preserved : goal.loop-into-preserved
loop-into-preserved g c =
    walk_steps c.loop-into.invariant c.index.result.now c.index-next.result.now c.push_reserved.new.self.items c.index.ensures c.index-next.ensures c.in_ok-reserve.ensures.items c.push_reserved.ensures.items c.if-next.false

pub index_mut-requires : goal.index_mut-requires
index_mut-requires g c =
    omega (arith, (walk_within c.loop-into.invariant).1)

pub overflow_sub-self : goal.overflow_sub-self
overflow_sub-self g c =
    let done = walk_ends c.loop-into.invariant c.index.result.now c.index-next.result.now c.push_reserved.new.self.items c.len-before.result c.len.result c.index.ensures c.index-next.ensures c.in_ok-reserve.ensures.items c.push_reserved.ensures.items c.if-next.true (search rules) (search rules) in
    done.grows

pub invariant_of-self : goal.invariant_of-self
invariant_of-self g c =
    let done = walk_ends c.loop-into.invariant c.index.result.now c.index-next.result.now c.push_reserved.new.self.items c.len-before.result c.len.result c.index.ensures c.index-next.ensures c.in_ok-reserve.ensures.items c.push_reserved.ensures.items c.if-next.true (search rules) (search rules) in
    (set done.ended.bags c.args.bag [], spliced done.ended (c.len.result - c.len-before.result) (there c.self.invariant.1 c.args.bag c.self.view_is c.requires) c.index-front.ensures c.if-front.false done.count)

pub returns-clause-taken : goal.returns-clause-taken
returns-clause-taken g c =
    let done = walk_ends c.loop-into.invariant c.index.result.now c.index-next.result.now c.push_reserved.new.self.items c.len-before.result c.len.result c.index.ensures c.index-next.ensures c.in_ok-reserve.ensures.items c.push_reserved.ensures.items c.if-next.true (search rules) (search rules) in
    rw (sees done.ended.held c.self.view_is) done.ended.got

pub returns-clause-bags : goal.returns-clause-bags
returns-clause-bags g c =
    let done = walk_ends c.loop-into.invariant c.index.result.now c.index-next.result.now c.push_reserved.new.self.items c.len-before.result c.len.result c.index.ensures c.index-next.ensures c.in_ok-reserve.ensures.items c.push_reserved.ensures.items c.if-next.true (search rules) (search rules) in
    rw (sees done.ended.held c.self.view_is) (shows (spliced done.ended (c.len.result - c.len-before.result) (there c.self.invariant.1 c.args.bag c.self.view_is c.requires) c.index-front.ensures c.if-front.false done.count))

pub returns-clause-spare : goal.returns-clause-spare
returns-clause-spare g c =
    let done = walk_ends c.loop-into.invariant c.index.result.now c.index-next.result.now c.push_reserved.new.self.items c.len-before.result c.len.result c.index.ensures c.index-next.ensures c.in_ok-reserve.ensures.items c.push_reserved.ensures.items c.if-next.true (search rules) (search rules) in
    let seen : c.len.result - c.len-before.result ≡ length (slice_index_or c.args.self.now.bags c.args.bag []) = rw (sees done.ended.held c.self.view_is) done.count in
    spare_grows _ _ _ _ _ (length (set c.self.inside.links.items c.loop-into.last c.self.inside.free)) (c.len.result - c.len-before.result) _ _ c.self.view_is
    (length-set c.self.inside.links.items c.loop-into.last c.self.inside.free) seen
