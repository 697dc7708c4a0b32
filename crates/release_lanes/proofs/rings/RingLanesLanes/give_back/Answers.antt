use Rattle.std.proofs.Common.{ℕ, List, length, map, get_or, subst, sym, ap, ◌∙◌, arith}
use Rattle.std.proofs.lemmas.List.{get_or_default}
use Rattle.release_lanes.specs.declared.rings.RingEnd.{RingEnd}
use Rattle.release_lanes.specs.Lanes.{lane_at}
use Rattle.release_lanes.specs.Rings.{outline, sent_row, received_row, AreBack, AreConnected, sent_on, received_on}
use Rattle.release_lanes.proofs.Rows.{same_length, lent_whole}
use Rattle.release_lanes.proofs.RingEnds.{woven_length, woven_number, connected_like, back_met, this_lane}
use Rattle.release_lanes.proofs.rings.RingLanesLanes.give_back.Goals as goal

pub returns-clause-back : goal.returns-clause-back
returns-clause-back c =
    let same = c.as_mut_slice.ensures.value in
    let later = c.meet_all.new.ends in
    let nodes = c.args.self.now.nodes in
    let outlines = c.meet_all.ensures.outlines ∙ ap (map outline) same in
    let long = same_length outline later c.args.ends.items outlines in
    let had = ap length same in
    let whole = lent_whole outline c.args.ends.items c.meet_all.new.ends c.args.ends.len c.args.ends.ok.0 (c.meet_all.ensures.outlines ∙ ap (map outline) c.as_mut_slice.ensures.value) in
    let P : List RingEnd → Type 0 = λ ends. AreBack nodes c.args.self.now.served 0 ends in
    subst P (sym whole)
    (back_met nodes c.args.self.now.served later (connected_like nodes c.args.ends.items later c.requires outlines) (λ from to first second. c.meet_all.ensures.met from to (omega arith) (omega arith)))

pub returns-clause-sent : goal.returns-clause-sent
returns-clause-sent c = λ k d within to.
    let ends = c.args.ends.items in
    let end = get_or ends k d in
    let whole = lent_whole outline c.args.ends.items c.meet_all.new.ends c.args.ends.len c.args.ends.ok.0 (c.meet_all.ensures.outlines ∙ ap (map outline) c.as_mut_slice.ensures.value) in
    ap (λ l. sent_on l end.number to) whole
    ∙ ap (λ rows. lane_at rows end.number to) (c.meet_all.ensures.sent ∙ ap (map sent_row) c.as_mut_slice.ensures.value)
    ∙ ap (λ n. sent_on ends n to) (woven_number c.args.self.now.nodes ends k d c.requires.woven within)
    ∙ this_lane sent_row ends k to end within (get_or_default ends k d end within)

pub returns-clause-received : goal.returns-clause-received
returns-clause-received c = λ k d within from.
    let ends = c.args.ends.items in
    let end = get_or ends k d in
    let whole = lent_whole outline c.args.ends.items c.meet_all.new.ends c.args.ends.len c.args.ends.ok.0 (c.meet_all.ensures.outlines ∙ ap (map outline) c.as_mut_slice.ensures.value) in
    ap (λ l. received_on l from end.number) whole
    ∙ ap (λ rows. lane_at rows end.number from) (c.meet_all.ensures.received ∙ ap (map received_row) c.as_mut_slice.ensures.value)
    ∙ ap (λ n. received_on ends from n) (woven_number c.args.self.now.nodes ends k d c.requires.woven within)
    ∙ this_lane received_row ends k from end within (get_or_default ends k d end within)

pub meet_all-requires : goal.meet_all-requires
meet_all-requires c =
    let long = woven_length c.args.self.now.nodes c.args.self.now.nodes c.args.ends.items c.requires.woven in
    let P : List RingEnd → Type 0 = λ ends. AreConnected (length ends) (map outline ends) in
    let N : ℕ → Type 0 = λ n. AreConnected n (map outline c.args.ends.items) in
    subst P (sym c.as_mut_slice.ensures.value) (subst N (sym long) c.requires)
