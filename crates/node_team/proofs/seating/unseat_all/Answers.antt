use Rattle.std.proofs.Common.{◌∷◌, ◌++◌, [], length, map, ap, sym, ◌∙◌, subst, append_assoc, arith}
use Rattle.std.proofs.lemmas.List.{map-append}
use Rattle.node_team.specs.Turns.{node_in, AllAnswered}
use Rattle.node_team.proofs.SeatingLemmas.{nothing-left}
use Rattle.node_team.proofs.seating.unseat_all.Goals as goal

pub loop-seated-preserved : goal.loop-seated-preserved
loop-seated-preserved g c =
    let before = c.loop-seated.invariant in
    let next = ap length c.in-Some.ensures.steps.0 in
    record {
      nodes = rw c.push_reserved.ensures.items (ap (λ l. l ++ c.in-Some.seated.node ∷ []) before.nodes ∙ sym (map-append node_in c.loop-seated.yielded _));
      whole = append_assoc c.loop-seated.yielded (c.in-Some.seated ∷ []) c.next.new.self.rest.items ∙ ap (λ l. c.loop-seated.yielded ++ l) (sym c.in-Some.ensures.steps.0) ∙ before.whole;
      room = (let room = before.room in let pushed = c.push_reserved.ensures.len in let kept = c.push_reserved.ensures.capacity in omega arith);
    }

pub returns-clause-nodes : goal.returns-clause-nodes
returns-clause-nodes g c =
    let rest = c.loop-seated.seated-iterator.rest in
    let before = c.loop-seated.invariant in
    before.nodes ∙ ap (map node_in) (nothing-left c.loop-seated.yielded rest.items c.args.all.items rest.len before.whole rest.ok.0 c.in-None.ensures.steps.0)

pub returns-clause-answers : goal.returns-clause-answers
returns-clause-answers g c = subst AllAnswered c.deref.ensures.value c.in_ok-answer_of.ensures
