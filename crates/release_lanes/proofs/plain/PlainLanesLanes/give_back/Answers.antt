use Rattle.std.proofs.Common.{ℕ, List, map, get_or, subst, sym, ap, ◌∙◌, refl}
use Rattle.release_lanes.specs.declared.plain.PlainEnd.{PlainEnd}
use Rattle.release_lanes.specs.Lanes.{list_at}
use Rattle.release_lanes.specs.Plain.{posted, standing, AreBack}
use Rattle.release_lanes.proofs.Rows.{row_at}
use Rattle.release_lanes.proofs.PlainLemmas.{team_at, team_back}
use Rattle.release_lanes.proofs.plain.PlainLanesLanes.give_back.Goals as goal

pub returns-clause-back : goal.returns-clause-back
returns-clause-back c =
    let ends = c.args.ends.items in
    let P : List PlainEnd → Type 0 = λ sent. AreBack c.args.self.now.nodes c.args.self.now.served 0 sent ends in
    subst P (sym (ap (λ v. v.items) c.of.ensures)) (team_back c.args.self.now.nodes c.args.self.now.served ends c.requires)

pub returns-clause-sent : goal.returns-clause-sent
returns-clause-sent c = λ k d within to.
    let ends = c.args.ends.items in
    let end = get_or ends k d in
    ap (λ s. standing s end.number to) (ap (λ v. v.items) c.of.ensures)
    ∙ ap (λ n. standing ends n to) (ap (λ (o : ℕ × ℕ). o.0) (team_at c.args.self.now.nodes ends k d c.requires within))
    ∙ ap (λ r. list_at r to) (row_at posted ends (map posted ends) k d within refl)
