use Rattle.std.proofs.Common.{◌∙◌, arith}
use Rattle.release_lanes.proofs.Numbers.{rest_kept}
use Rattle.measures.proofs.lanes.take_rest.Goals as goal

pub returns-in_default-clause-others : goal.returns-in_default-clause-others
returns-in_default-clause-others g c = λ i j first second ne.
    let inv = c.loop-count.invariant in
    let had = inv.nodes in
    let has = c.rest.ensures.nodes in
    let old = c.loop-count.lanes in
    let new = c.rest.new.self in
    rest_kept (g.L.Lanes.received old i j) (g.L.Lanes.sent old i j) (g.L.Lanes.rest old i j) (g.L.Lanes.received new i j) (g.L.Lanes.sent new i j) (g.L.Lanes.rest new i j)
    (c.in_default.ensures.same i j) (c.rest.ensures.sent i j)
    (g.met.L.Lanes.lane old inv.back i j (omega arith) (omega arith)) (g.met.L.Lanes.lane new c.rest.ensures.back i j (omega arith) (omega arith))
    ∙ inv.others i j first second ne

pub returns-in_default-clause-rest : goal.returns-in_default-clause-rest
returns-in_default-clause-rest g c = λ i first.
    let inv = c.loop-count.invariant in
    let had = inv.nodes in
    let has = c.rest.ensures.nodes in
    let second = c.requires.node in
    let j = c.args.to in
    let old = c.loop-count.lanes in
    let new = c.rest.new.self in
    rest_kept (g.L.Lanes.received old i j) (g.L.Lanes.sent old i j) (g.L.Lanes.rest old i j) (g.L.Lanes.received new i j) (g.L.Lanes.sent new i j) (g.L.Lanes.rest new i j)
    (c.in_default.ensures.same i j) (c.rest.ensures.sent i j)
    (g.met.L.Lanes.lane old inv.back i j (omega arith) (omega arith)) (g.met.L.Lanes.lane new c.rest.ensures.back i j (omega arith) (omega arith))
    ∙ c.in_default.ensures.none i (omega arith)

pub loop-count-preserved : goal.loop-count-preserved
loop-count-preserved g c =
    let inv = c.loop-count.invariant in
    let had = inv.nodes in
    let has = c.rest.ensures.nodes in
    let old = c.loop-count.lanes in
    let new = c.rest.new.self in record {
      back = c.rest.ensures.back;
      nodes = c.rest.ensures.nodes ∙ inv.nodes;
      others = λ i j first second ne.
          rest_kept (g.L.Lanes.received old i j) (g.L.Lanes.sent old i j) (g.L.Lanes.rest old i j) (g.L.Lanes.received new i j) (g.L.Lanes.sent new i j) (g.L.Lanes.rest new i j)
          (c.in-Some.ensures.some.last.2 i j ne) (c.rest.ensures.sent i j)
          (g.met.L.Lanes.lane old inv.back i j (omega arith) (omega arith)) (g.met.L.Lanes.lane new c.rest.ensures.back i j (omega arith) (omega arith))
          ∙ inv.others i j first second ne;
    }
