use Rattle.std.proofs.Common.{◌≡◌, ℕ, ◌<◌, [], List, map, length, get_or, slice_index, sym, ap, subst, ◌∙◌, arith}
use Rattle.std.proofs.lemmas.List.{get_or-map}
use Rattle.release_lanes.specs.declared.rings.RingEnd.{RingEnd}
use Rattle.release_lanes.specs.Rings.{outline, sent_row, received_row, free_row, sent_on, received_on, AreConnected}
use Rattle.release_lanes.proofs.Rows.{lent_whole}
use Rattle.release_lanes.proofs.RingEnds.{woven_length, woven_ins, woven_numbers, connected_like, back_rested, rested_ends}
use Rattle.release_lanes.proofs.rings.RingLanesLanes.ready.Goals as goal
use Rattle.release_lanes.proofs.rings.RingLanesLanes.ready.Goals.{After-replace}

-- the ends as they are handed out
handed : (c : After-replace) → c.replace.result.items ≡ c.free_all.new.ends
handed c =
    let outlines = c.free_all.ensures.outlines ∙ ap (map outline) c.as_mut_slice.ensures.value in
    ap (λ v. v.items) c.replace.ensures.value ∙ lent_whole outline c.args.self.now.ends.items c.free_all.new.ends c.args.self.now.ends.len c.args.self.now.ends.ok.0 outlines

connected : (c : After-replace) → AreConnected c.args.self.now.nodes (map outline c.replace.result.items)
connected c =
    connected_like c.args.self.now.nodes c.args.self.now.ends.items c.replace.result.items c.requires.0.connected
    (ap (map outline) (handed c) ∙ c.free_all.ensures.outlines ∙ ap (map outline) c.as_mut_slice.ensures.value)

pub free_all-requires-clause-connected : goal.free_all-requires-clause-connected
free_all-requires-clause-connected c =
    let long = woven_length c.args.self.now.nodes c.args.self.now.nodes c.args.self.now.ends.items c.requires.0.connected.woven in
    let P : List RingEnd → Type 0 = λ ends. AreConnected (length ends) (map outline ends) in
    let N : ℕ → Type 0 = λ n. AreConnected n (map outline c.args.self.now.ends.items) in
    subst P (sym c.as_mut_slice.ensures.value) (subst N (sym long) c.requires.0.connected)

pub free_all-requires-clause-rested : goal.free_all-requires-clause-rested
free_all-requires-clause-rested c = λ from to first second.
    let same = c.as_mut_slice.ensures.value in
    let had = ap length same in
    let long = woven_length c.args.self.now.nodes c.args.self.now.nodes c.args.self.now.ends.items c.requires.0.connected.woven in
    ap (λ ends. received_on ends from to) same
    ∙ back_rested c.args.self.now.nodes c.args.self.now.served c.args.self.now.next c.args.self.now.ends.items c.requires.0 c.requires.1 from to (omega arith) (omega arith)
    ∙ sym (ap (λ ends. sent_on ends from to) same)

pub returns-clause-out : goal.returns-clause-out
returns-clause-out c = connected c

pub returns-clause-numbers : goal.returns-clause-numbers
returns-clause-numbers c = woven_numbers c.args.self.now.nodes c.replace.result.items (connected c).woven

pub returns-clause-count : goal.returns-clause-count
returns-clause-count c = λ k d within. woven_ins c.args.self.now.nodes c.replace.result.items k d (connected c).woven within

pub returns-clause-free : goal.returns-clause-free
returns-clause-free c = λ k d within to less.
    let ends = c.replace.result.items in
    let long = woven_length c.args.self.now.nodes c.args.self.now.nodes ends (connected c).woven in
    let old_long = woven_length c.args.self.now.nodes c.args.self.now.nodes c.args.self.now.ends.items c.requires.0.connected.woven in
    let had = ap length c.as_mut_slice.ensures.value in
    let free = c.free_all.ensures.free k to (omega arith) (omega arith) in
    let P : List ℕ → Type 0 = λ r. 0 < slice_index r to in
    subst P (ap (λ l. get_or (map free_row l) k []) (sym (handed c)) ∙ get_or-map free_row ends k d [] within) free

pub returns-clause-received : goal.returns-clause-received
returns-clause-received c =
    let same = c.as_mut_slice.ensures.value in
    rested_ends c.args.self.now.nodes c.args.self.now.ends.items c.replace.result.items
    (woven_length c.args.self.now.nodes c.args.self.now.nodes c.replace.result.items (connected c).woven)
    (ap (map sent_row) (handed c) ∙ c.free_all.ensures.sent ∙ ap (map sent_row) same)
    (ap (map received_row) (handed c) ∙ c.free_all.ensures.received ∙ ap (map received_row) same)
    (back_rested c.args.self.now.nodes c.args.self.now.served c.args.self.now.next c.args.self.now.ends.items c.requires.0 c.requires.1)
