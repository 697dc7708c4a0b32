use Rattle.std.proofs.Common.{◌+◌, ◌<◌, List, length, subst, sym, ap, refl, ◌∙◌, arith}
use Rattle.release_lanes.specs.declared.parcel.Parcel.{Parcel}
use Rattle.parcel_exchange.specs.Exchange.{HasTaken}
use Rattle.parcel_exchange.proofs.Gathering.{takes_none, takes_same, takes_more}
use Rattle.parcel_exchange.proofs.inbox.Inbox.take_early.Goals as goal

pub loop-init : goal.loop-init
loop-init g c =
    let met = g.met.E.NodeEnd g.world.𝓛 g.world.𝓜 g.world.𝓡 ((λ s x. x), (λ x. x), (λ x. x), λ x. x) in
    let end = c.args.end.now in
    let P : List Parcel → Type 0 = λ parcels. HasTaken (g.E.NodeEnd.nodes end) (g.E.NodeEnd.received end) (g.E.NodeEnd.received end) parcels in record {
      same = met.same_first end;
      sent_same = λ to. refl;
      taken = subst P (sym c.requires) (takes_none (g.E.NodeEnd.nodes end) (g.E.NodeEnd.received end) (g.E.NodeEnd.received end) (λ from. refl));
      count = let none = ap length c.requires in let ok = c.args.self.now.early.ok.0 in omega arith;
      room = refl;
      arrived = refl;
    }

pub returns-in_default-clause-end : goal.returns-in_default-clause-end
returns-in_default-clause-end g c =
    let met = g.met.E.NodeEnd g.world.𝓛 g.world.𝓜 g.world.𝓡 ((λ s x. x), (λ x. x), (λ x. x), λ x. x) in
    met.same_then c.args.end.now c.loop.end c.early.new.self c.loop.invariant.same c.in_default.ensures.end

pub returns-in_default-clause-sent : goal.returns-in_default-clause-sent
returns-in_default-clause-sent g c = λ to. c.in_default.ensures.sent to ∙ c.loop.invariant.sent_same to

pub returns-in_default-clause-taken : goal.returns-in_default-clause-taken
returns-in_default-clause-taken g c =
    takes_same (g.E.NodeEnd.nodes c.args.end.now) (g.E.NodeEnd.received c.args.end.now) (g.E.NodeEnd.received c.loop.end) (g.E.NodeEnd.received c.early.new.self) c.loop.self.early.items
    c.loop.invariant.taken c.in_default.ensures.waits

pub loop-preserved : goal.loop-preserved
loop-preserved g c =
    let met = g.met.E.NodeEnd g.world.𝓛 g.world.𝓜 g.world.𝓡 ((λ s x. x), (λ x. x), (λ x. x), λ x. x) in
    let inv = c.loop.invariant in
    let says = c.in-Some.ensures in
    let nodes = g.E.NodeEnd.nodes c.args.end.now in
    let received = g.E.NodeEnd.received in
    let alike = met.same_nodes c.args.end.now c.loop.end inv.same in
    let from = says.some.from in
    let within : from < nodes = let less = says.some.within in omega arith in
    let P : List Parcel → Type 0 = λ parcels. HasTaken nodes (received c.args.end.now) (received c.early.new.self) parcels in
    let more = takes_more nodes from (received c.args.end.now) (received c.loop.end) (received c.early.new.self) c.loop.self.early.items c.in-Some.parcel inv.taken within says.some.last in record {
      same = met.same_then c.args.end.now c.loop.end c.early.new.self inv.same says.end;
      sent_same = λ to. says.sent to ∙ inv.sent_same to;
      taken = subst P (sym c.push_reserved.ensures.items) more;
      count = c.push_reserved.ensures.len ∙ ap (λ n. n + 1) inv.count;
      room = c.push_reserved.ensures.capacity ∙ inv.room;
      arrived = inv.arrived;
    }
