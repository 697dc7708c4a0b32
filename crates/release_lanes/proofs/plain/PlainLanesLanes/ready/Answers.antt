use Rattle.std.proofs.Common.{◌≡◌, ℕ, ◌<◌, List, [], get_or, subst, sym, ap, ◌∙◌, arith}
use Rattle.std.proofs.lemmas.Option.{slice_get_within, get_or_from_slice_get}
use Rattle.release_lanes.specs.declared.plain.PlainEnd.{PlainEnd}
use Rattle.release_lanes.specs.Lanes.{list_at}
use Rattle.release_lanes.specs.Plain.{posted, standing, IsTeam}
use Rattle.release_lanes.proofs.PlainLemmas.{team_numbers, team_length, team_width, standing_at, free_slot}
use Rattle.release_lanes.proofs.plain.PlainLanesLanes.ready.Goals as goal
use Rattle.release_lanes.proofs.plain.PlainLanesLanes.ready.Goals.{After-replace}

-- the ends that were kept
kept : (c : After-replace) → c.replace.result.items ≡ c.args.self.now.ends.items
kept c = ap (λ v. v.items) c.replace.ensures.value

team : (c : After-replace) → IsTeam c.args.self.now.nodes c.replace.result.items
team c = let P : List PlainEnd → Type 0 = λ ends. IsTeam c.args.self.now.nodes ends in subst P (sym (kept c)) c.requires.0.team

rests : (c : After-replace) (from to : ℕ) → from < c.args.self.now.nodes → to < c.args.self.now.nodes → standing c.replace.result.items from to ≡ []
rests c from to first second = ap (λ ends. standing ends from to) (kept c) ∙ c.requires.1 from to first second

pub returns-clause-out : goal.returns-clause-out
returns-clause-out c = team c

pub returns-clause-numbers : goal.returns-clause-numbers
returns-clause-numbers c = team_numbers c.args.self.now.nodes c.replace.result.items (team c)

pub returns-clause-count : goal.returns-clause-count
returns-clause-count c = λ k d within. team_width c.args.self.now.nodes c.replace.result.items k d (team c) within

pub returns-clause-free : goal.returns-clause-free
returns-clause-free c = λ k d within to less.
    let ends = c.replace.result.items in
    let long = team_length c.args.self.now.nodes ends (team c) in
    let width = team_width c.args.self.now.nodes ends k d (team c) within in
    free_slot (get_or ends k d) to (omega arith) (sym (standing_at ends k to d within) ∙ rests c k to (omega arith) less)

pub returns-clause-received : goal.returns-clause-received
returns-clause-received c = λ from to sender receiver first second.
    let ends = c.replace.result.items in
    let long = team_length c.args.self.now.nodes ends (team c) in
    let inside = slice_get_within ends from sender first in
    let within = slice_get_within ends to receiver second in
    sym (ap (λ end. list_at (posted end) to) (sym (get_or_from_slice_get ends from sender sender first)) ∙ sym (standing_at ends from to sender inside) ∙ rests c from to (omega arith) (omega arith))
