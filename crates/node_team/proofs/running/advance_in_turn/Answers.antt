use Rattle.std.proofs.Common.{rules, ◌≡◌, sym, ◌∙◌, arith, add-one}
use Rattle.std.proofs.lemmas.Option.{slice_get-get_or}
use Rattle.cycle_core.proofs.PlaceLemmas.{upto-more, upto-all}
use Rattle.node_team.specs.Forks.{HasRun}
use Rattle.node_team.proofs.SeatingLemmas.{popped}
use Rattle.node_team.proofs.running.advance_in_turn.Goals as goal

pub advance-requires-clause-seat : goal.advance-requires-clause-seat
advance-requires-clause-seat g c lifetimes outlives =
    let can = c.requires.can in
    let same = (popped (λ each. each ≡ can.seat) c.loop-node.seats.items c.pop.new.self.items c.pop.result c.in-Some.seat c.pop.ensures.items c.in-Some.is (c.loop-node.invariant.2 can.seat can.alike)).0 in
    let at = slice_get-get_or c.loop-node.nodes c.loop-node.node-index c.node-item.result (omega arith) in
    let here = can.can c.loop-node.node-index _ (sym (c.loop-node.invariant.0.rest c.loop-node.node-index (omega arith)) ∙ at) in
    rw same here.seat_of

pub advance-requires-clause-can : goal.advance-requires-clause-can
advance-requires-clause-can g c lifetimes outlives =
    let can = c.requires.can in
    let same = (popped (λ each. each ≡ can.seat) c.loop-node.seats.items c.pop.new.self.items c.pop.result c.in-Some.seat c.pop.ensures.items c.in-Some.is (c.loop-node.invariant.2 can.seat can.alike)).0 in
    let at = slice_get-get_or c.loop-node.nodes c.loop-node.node-index c.node-item.result (omega arith) in
    let here = can.can c.loop-node.node-index _ (sym (c.loop-node.invariant.0.rest c.loop-node.node-index (omega arith)) ∙ at) in
    rw same here.can

pub loop-node-preserved : goal.loop-node-preserved
loop-node-preserved g c =
    let before = c.loop-node.invariant in
    let at = slice_get-get_or c.loop-node.nodes c.loop-node.node-index c.node-item.result (omega arith) in (
      rw add-one
          (upto-more (λ old new. HasRun (g.M.Model.meaning old.model) c.args.setting.now.ahead old new) c.loop-node.node-index c.args.nodes.now c.loop-node.nodes _ c.advance.new.node before.0 at
          (record { works = c.advance.ensures.works; deep = c.in_ok-advance.ensures.deep })),
      search rules,
      λ seat alike. (popped (λ each. each ≡ seat) c.loop-node.seats.items c.pop.new.self.items c.pop.result c.in-Some.seat c.pop.ensures.items c.in-Some.is (before.2 seat alike)).1,
    )

pub returns : goal.returns
returns g c =
    let before = c.loop-node.invariant.0 in
    let many = before.many in
    upto-all (λ old new. HasRun (g.M.Model.meaning old.model) c.args.setting.now.ahead old new) c.loop-node.node-index c.args.nodes.now c.loop-node.nodes (omega arith) before
