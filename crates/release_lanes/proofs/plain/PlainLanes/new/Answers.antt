use Rattle.std.proofs.Common.{List, subst, sym, ap}
use Rattle.release_lanes.specs.declared.plain.PlainEnd.{PlainEnd}
use Rattle.release_lanes.specs.Plain.{AreBack}
use Rattle.release_lanes.proofs.PlainLemmas.{team_back, empty_standing}
use Rattle.release_lanes.proofs.plain.PlainLanes.new.Goals as goal

pub returns-clause-at_rest : goal.returns-clause-at_rest
returns-clause-at_rest c =
    let ends = c.in_ok-ends.ends.items in
    let P : List PlainEnd → Type 0 = λ sent. AreBack c.args.nodes 0 0 sent ends in
    (subst P (sym (ap (λ v. v.items) c.of-sent.ensures)) (team_back c.args.nodes 0 ends c.in_ok-ends.ensures.team), λ from to _ _. empty_standing ends c.in_ok-ends.ensures.empty from to)
