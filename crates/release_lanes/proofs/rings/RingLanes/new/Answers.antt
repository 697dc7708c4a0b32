use Rattle.release_lanes.proofs.RingEnds.{back_new, new_rest}
use Rattle.release_lanes.proofs.rings.RingLanes.new.Goals as goal

pub returns-clause-at_rest : goal.returns-clause-at_rest
returns-clause-at_rest c =
    let ends = c.in_ok-new_ends.field-0.items in
    (back_new c.args.nodes ends c.in_ok-new_ends.ensures.woven c.in_ok-new_ends.ensures.new, λ from to _ _. new_rest ends c.in_ok-new_ends.ensures.new from to)
