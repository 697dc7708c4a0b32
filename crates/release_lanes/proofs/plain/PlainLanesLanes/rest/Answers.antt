use Rattle.std.proofs.Common.{length, get_or, ap, arith}
use Rattle.release_lanes.proofs.PlainLemmas.{team_width, search_gives}
use Rattle.release_lanes.proofs.plain.PlainLanesLanes.rest.Goals as goal

pub next_parcel-requires : goal.next_parcel-requires
next_parcel-requires c = λ k d within.
    let same = c.as_mut_slice.ensures.value in
    let long = ap length same in
    let here = ap (λ l. length (get_or l k d).slots.items) same in
    let wide = team_width c.serve.new.self.nodes c.serve.new.self.ends.items k d c.serve.ensures.back.team (omega arith) in
    let nodes = c.serve.ensures.same.0 in
    let less = c.requires.node in
    omega arith

pub returns-clause-back : goal.returns-clause-back
returns-clause-back c =
    let self = c.serve.new.self in
    let takes = search_gives self.nodes c.args.to self.next c.in-Some.from self.ends.len self.sent.value.items self.ends.items c.next_parcel.new.ends c.as_mut_slice.result.now c.in-Some.parcel
    c.serve.ensures.back c.as_mut_slice.ensures.value self.ends.ok.0 c.in-Some.ensures.outlines c.in-Some.ensures.some in
    rw (takes.0, c.serve.ensures.served) takes.1

pub returns-clause-some : goal.returns-clause-some
returns-clause-some c =
    let self = c.serve.new.self in
    let takes = search_gives self.nodes c.args.to self.next c.in-Some.from self.ends.len self.sent.value.items self.ends.items c.next_parcel.new.ends c.as_mut_slice.result.now c.in-Some.parcel
    c.serve.ensures.back c.as_mut_slice.ensures.value self.ends.ok.0 c.in-Some.ensures.outlines c.in-Some.ensures.some in
    rw (takes.0, ← c.serve.ensures.same.0, ← c.serve.ensures.same.1, ← c.serve.ensures.same.2) takes.2
