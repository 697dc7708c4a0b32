use Rattle.std.proofs.Common.{◌≡◌, ◌^◌, ◌<◌, ℕ, List, [], ◌++◌, length, sym, ap, subst, ◌∙◌, arith}
use Rattle.std.specs.Prelude.{IsPermutation}
use Rattle.std.proofs.lemmas.List.{append-nil}
use Rattle.model_core.specs.declared.event.Event.{Event}
use Rattle.release_lanes.proofs.Numbers.{rest_kept}
use Rattle.parcel_exchange.specs.Mail.{events_in, from_each}
use Rattle.parcel_exchange.proofs.Gathering.{from_each-same, from_each-none}
use Rattle.parcel_exchange.proofs.Fetching.{Fetched, fetched, arrives, few_arrive}
use Rattle.parcel_exchange.proofs.inbox.Inbox.fetch.Given.{Over}
use Rattle.parcel_exchange.proofs.inbox.Inbox.fetch.Goals as goal
use Rattle.parcel_exchange.proofs.inbox.Inbox.fetch.Goals.{In-Some, In_default}

-- a parcel is fetched
fetches : (g : Over) (c : In-Some g) → Fetched (g.L.Lanes.nodes c.args.lanes.now) c.args.to (g.L.Lanes.rest c.loop-parcel.lanes) (g.L.Lanes.rest c.rest.new.self) c.in-Some.parcel
fetches g c =
    let old = c.loop-parcel.lanes in
    let new = c.rest.new.self in
    let inv = c.loop-parcel.invariant in
    let many = inv.nodes in
    let now = c.in-Some.ensures.nodes in
    fetched (g.L.Lanes.nodes c.args.lanes.now) (g.L.Lanes.nodes old) c.args.to (g.L.Lanes.received old) (g.L.Lanes.rest old) (g.L.Lanes.sent old) (g.L.Lanes.received new) (g.L.Lanes.rest new) (g.L.Lanes.sent new)
    c.in-Some.parcel inv.nodes c.requires.node
    (λ i j first second. g.met.L.Lanes.lane old inv.back i j (omega arith) (omega arith)) (λ i j first second. g.met.L.Lanes.lane new c.in-Some.ensures.back i j (omega arith) (omega arith))
    c.in-Some.ensures.sent c.in-Some.ensures.some

pub append-requires : goal.append-requires
append-requires g c =
    let one = fetches g (goal.at.append-requires g c).In-Some in
    let old = c.loop-parcel.lanes in
    let new = c.rest.new.self in
    let inv = c.loop-parcel.invariant in
    let nodes = g.L.Lanes.nodes c.args.lanes.now in
    few_arrive (c.args.self.now.arrived ++ from_each nodes (λ from. events_in (g.L.Lanes.rest c.args.lanes.now from c.args.to))) c.loop-parcel.self.arrived
    (from_each nodes (λ from. events_in (g.L.Lanes.rest old from c.args.to))) (from_each nodes (λ from. events_in (g.L.Lanes.rest new from c.args.to))) c.in-Some.parcel.events (2 ^ 60)
    inv.moved one.events c.requires.few

pub loop-parcel-smaller : goal.loop-parcel-smaller
loop-parcel-smaller g c =
    let inv = c.loop-parcel.invariant in
    let fewer = (fetches g (goal.at.loop-parcel-smaller g c).In-Some).fewer in
    let same_old = ap (λ n. length (from_each n (λ k. g.L.Lanes.rest c.loop-parcel.lanes k c.args.to))) inv.nodes in
    let same_new = ap (λ n. length (from_each n (λ k. g.L.Lanes.rest c.rest.new.self k c.args.to))) (c.in-Some.ensures.nodes ∙ inv.nodes) in
    omega arith

pub loop-parcel-preserved : goal.loop-parcel-preserved
loop-parcel-preserved g c =
    let inv = c.loop-parcel.invariant in
    let one = fetches g (goal.at.loop-parcel-preserved g c).In-Some in
    let nodes = g.L.Lanes.nodes c.args.lanes.now in
    let first = c.args.self.now.arrived ++ from_each nodes (λ from. events_in (g.L.Lanes.rest c.args.lanes.now from c.args.to)) in
    let rests = from_each nodes (λ from. events_in (g.L.Lanes.rest c.rest.new.self from c.args.to)) in
    let P : List Event → Type 0 = λ l. IsPermutation first (l ++ rests) in record {
      back = c.in-Some.ensures.back;
      nodes = c.in-Some.ensures.nodes ∙ inv.nodes;
      others = λ i j low high ne. one.others i j low high ne ∙ inv.others i j low high ne;
      moved = subst P (sym c.append.ensures)
          (arrives first c.loop-parcel.self.arrived (from_each nodes (λ from. events_in (g.L.Lanes.rest c.loop-parcel.lanes from c.args.to))) rests c.in-Some.parcel.events inv.moved one.events);
      early = inv.early;
    }

-- where none is fetched, what rests stays
keeps : (g : Over) (c : In_default g) (i j : ℕ) → i < g.L.Lanes.nodes c.args.lanes.now → j < g.L.Lanes.nodes c.args.lanes.now → g.L.Lanes.rest c.rest.new.self i j ≡ g.L.Lanes.rest c.loop-parcel.lanes i j
keeps g c i j first second =
    let old = c.loop-parcel.lanes in
    let new = c.rest.new.self in
    let many = c.loop-parcel.invariant.nodes in
    let now = c.in_default.ensures.nodes in
    rest_kept (g.L.Lanes.received old i j) (g.L.Lanes.sent old i j) (g.L.Lanes.rest old i j) (g.L.Lanes.received new i j) (g.L.Lanes.sent new i j) (g.L.Lanes.rest new i j)
    (c.in_default.ensures.same i j) (c.in_default.ensures.sent i j)
    (g.met.L.Lanes.lane old c.loop-parcel.invariant.back i j (omega arith) (omega arith)) (g.met.L.Lanes.lane new c.in_default.ensures.back i j (omega arith) (omega arith))

pub returns-clause-others : goal.returns-clause-others
returns-clause-others g c = λ i j first second ne. keeps g (goal.at.returns-clause-others g c).In_default i j first second ∙ c.loop-parcel.invariant.others i j first second ne

pub returns-clause-rest : goal.returns-clause-rest
returns-clause-rest g c = λ i first.
    let many = c.loop-parcel.invariant.nodes in
    keeps g (goal.at.returns-clause-rest g c).In_default i c.args.to first c.requires.node ∙ c.in_default.ensures.none i (omega arith)

pub returns-clause-arrived : goal.returns-clause-arrived
returns-clause-arrived g c =
    let old = c.loop-parcel.lanes in
    let inv = c.loop-parcel.invariant in
    let many = inv.nodes in
    let nodes = g.L.Lanes.nodes c.args.lanes.now in
    let first = c.args.self.now.arrived ++ from_each nodes (λ from. events_in (g.L.Lanes.rest c.args.lanes.now from c.args.to)) in
    let none : from_each nodes (λ from. events_in (g.L.Lanes.rest old from c.args.to)) ≡ [] =
    from_each-same nodes (λ from. events_in (g.L.Lanes.rest old from c.args.to)) (λ _. []) (λ k less. ap events_in (c.in_default.ensures.none k (omega arith))) ∙ from_each-none nodes in
    let P : List Event → Type 0 = λ l. IsPermutation first l in
    subst P (ap (λ l. c.loop-parcel.self.arrived ++ l) none ∙ append-nil c.loop-parcel.self.arrived) inv.moved
