use Rattle.std.proofs.Common.{rules, ◌≡◌, ◌∷◌, ◌++◌, [], ap, sym, ◌∙◌, append_assoc}
use Rattle.std.proofs.lemmas.List.{map-append}
use Rattle.std.proofs.lemmas.List.Elements.{All-push}
use Rattle.node_team.specs.Turns.{node_in}
use Rattle.node_team.proofs.SeatingLemmas.{nothing-left, popped}
use Rattle.node_team.proofs.seating.seat_all.Goals as goal

pub loop-node-preserved : goal.loop-node-preserved
loop-node-preserved g c =
    let before = c.loop-node.invariant in (
      rw c.in_ok-push.ensures.items (map-append node_in c.loop-node.all.items _ ∙ ap (λ l. l ++ c.in-Some.node ∷ []) before.0),
      append_assoc c.loop-node.yielded (c.in-Some.node ∷ []) c.next.new.self.rest.items ∙ ap (λ l. c.loop-node.yielded ++ l) (sym c.in-Some.ensures.steps.0) ∙ before.1,
      search rules,
      λ seat alike.
          let left = before.3 seat alike in
          let here = popped (λ each. each ≡ seat) c.loop-node.seats.items c.pop.new.self.items c.pop.result c.in-Some-pop.seat c.pop.ensures.items c.in-Some-pop.is left.0 in
          (here.1, rw c.in_ok-push.ensures.items (All-push (λ seated. seated.seat ≡ seat) c.loop-node.all.items _ left.1 here.0)),
    )

pub returns-clause-nodes : goal.returns-clause-nodes
returns-clause-nodes g c =
    let rest = c.loop-node.node-iterator.rest in
    let before = c.loop-node.invariant in
    before.0 ∙ nothing-left c.loop-node.yielded rest.items c.args.nodes.items rest.len before.1 rest.ok.0 c.in-None.ensures.steps.0

pub returns-clause-seats : goal.returns-clause-seats
returns-clause-seats g c seat alike = (c.loop-node.invariant.3 seat alike).1
