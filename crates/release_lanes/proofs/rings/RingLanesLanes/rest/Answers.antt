use Rattle.std.proofs.Common.{◌≡◌, ℕ, ◌<◌, List, [], ◌++◌, map, length, set, sym, ap, subst, ◌∙◌, arith}
use lib.Seq.{map-set_same}
use Rattle.release_lanes.specs.declared.parcel.Parcel.{Parcel}
use Rattle.release_lanes.specs.declared.rings.RingEnd.{RingEnd}
use Rattle.release_lanes.specs.Lanes.{list_at, lane_at}
use Rattle.release_lanes.specs.Rings.{outline, sent_row, received_row, known_row, AreBack}
use Rattle.release_lanes.proofs.RingEnds.{woven_length, this_lane, row_meets, back_after, takes_one}
use Rattle.release_lanes.proofs.rings.RingLanesLanes.rest.Goals as goal
use Rattle.release_lanes.proofs.rings.RingLanesLanes.rest.Goals.{After-next_parcel}

-- the ends that were served, with the one that searched
abbrev now : After-next_parcel → List RingEnd
now c = set c.serve.new.self.ends.items c.args.to c.next_parcel.new.self

-- what that end keeps of its rows, all keep
kept : (c : After-next_parcel) (row : RingEnd → List (List Parcel)) (i j : ℕ) → row c.next_parcel.new.self ≡ row c.index_mut.result.now → lane_at (map row (now c)) i j ≡ lane_at (map row c.args.self.now.ends.items) i j
kept c row i j same =
    ap (λ rows. lane_at rows i j) (map-set_same row c.serve.new.self.ends.items c.args.to c.next_parcel.new.self c.index_mut.result.now (same ∙ ap row c.index_mut.ensures.value))
    ∙ ap (λ v. lane_at (map row v.items) i j) c.serve.ensures.same.1

-- that end has searched up to a place
searched : (c : After-next_parcel) (next : ℕ) → outline c.next_parcel.new.self ≡ outline c.index_mut.result.now → sent_row c.next_parcel.new.self ≡ sent_row c.index_mut.result.now
    → ((i : ℕ) → list_at (received_row c.next_parcel.new.self) i ++ list_at (known_row c.next_parcel.new.self) i ≡ list_at (received_row c.index_mut.result.now) i ++ list_at (known_row c.index_mut.result.now) i)
    → ((i : ℕ) → i < next → list_at (known_row c.next_parcel.new.self) i ≡ []) → AreBack c.serve.new.self.nodes c.serve.new.self.served next (now c)
searched c next outlines sents moves none =
    let self = c.serve.new.self in
    let nodes = c.serve.ensures.same.0 in
    let less = c.requires.node in
    let P : ℕ → Type 0 = λ served. AreBack self.nodes served next (now c) in
    subst P (sym c.serve.ensures.served)
    (back_after self.nodes c.args.to self.next next self.ends.items c.index_mut.result.now c.next_parcel.new.self c.serve.ensures.back (omega arith) c.index_mut.ensures.value outlines sents moves none)

pub next_parcel-requires : goal.next_parcel-requires
next_parcel-requires c = λ k less.
    let self = c.serve.new.self in
    let long = woven_length self.nodes self.nodes self.ends.items c.serve.ensures.back.connected.woven in
    let nodes = c.serve.ensures.same.0 in
    let node = c.requires.node in
    let within : c.args.to < length self.ends.items = omega arith in
    sym (this_lane known_row self.ends.items c.args.to k c.index_mut.result.now within c.index_mut.ensures.value) ∙ c.serve.ensures.back.taken k less

pub returns-in_default-clause-back : goal.returns-in_default-clause-back
returns-in_default-clause-back c =
    let says = c.in_default.ensures in
    searched (goal.at.returns-in_default-clause-back c).After-next_parcel _ says.outline says.sent
    (λ i. ap (λ l. list_at l i ++ list_at (known_row c.next_parcel.new.self) i) says.same.0 ∙ ap (λ l. list_at (received_row c.index_mut.result.now) i ++ list_at l i) says.same.1)
    (λ i below. ap (λ l. list_at l i) says.same.1 ∙ says.none i)

pub returns-in_default-clause-sent : goal.returns-in_default-clause-sent
returns-in_default-clause-sent c = λ i j. kept (goal.at.returns-in_default-clause-sent c).After-next_parcel sent_row i j c.in_default.ensures.sent

pub returns-in_default-clause-same : goal.returns-in_default-clause-same
returns-in_default-clause-same c = λ i j. kept (goal.at.returns-in_default-clause-same c).After-next_parcel received_row j i c.in_default.ensures.same.0

pub returns-clause-back : goal.returns-clause-back
returns-clause-back c =
    let takes = c.in-Some.ensures.some in
    searched (goal.at.returns-clause-back c).After-next_parcel _ c.in-Some.ensures.outline c.in-Some.ensures.sent
    (row_meets c.index_mut.result.now c.next_parcel.new.self c.in-Some.from c.in-Some.parcel takes)
    (λ i below. takes.others i (λ e. absurd (omega arith)) ∙ takes.none_before i below)

pub returns-clause-sent : goal.returns-clause-sent
returns-clause-sent c = λ i j. kept (goal.at.returns-clause-sent c).After-next_parcel sent_row i j c.in-Some.ensures.sent

pub returns-clause-some : goal.returns-clause-some
returns-clause-some c =
    let self = c.serve.new.self in
    let nodes = c.serve.ensures.same.0 in
    let less = c.requires.node in
    rw (← c.serve.ensures.same.0, ← c.serve.ensures.same.1)
    (takes_one self.nodes c.args.to c.in-Some.from self.ends.items c.index_mut.result.now c.next_parcel.new.self c.in-Some.parcel c.serve.ensures.back.connected.woven (omega arith)
    c.index_mut.ensures.value c.in-Some.ensures.some)
