use Rattle.std.proofs.Common.{All, ◌-◌, ◌∷◌, ◌++◌, [], ◌∙◌, ap, append_assoc, arith, length, map, subst, sym}
use Rattle.std.proofs.lemmas.List.{length-append, length-map, map-append}
use Rattle.std.proofs.lemmas.List.Elements.{All-head, All-pop, All-push}
use Rattle.std.proofs.lemmas.Option.{MatchOption-at_some}
use Rattle.std.specs.Bool.{⊤}
use Rattle.steal_pool.specs.Tallies.{WHOLE}
use Rattle.steal_pool.specs.Ends.{IsFresh, mark}
use Rattle.steal_pool.specs.Workers.{AreNew, IsHired, own_mark}
use Rattle.steal_pool.proofs.RuleLemmas.{last-part}
use Rattle.steal_pool.proofs.OrderLemmas.{nothing-left}
use Rattle.steal_pool.proofs.hiring.seat.Goals as goal

pub loop-deque-preserved : goal.loop-deque-preserved
loop-deque-preserved g c =
    let before = c.loop-deque.invariant in
    let deque = c.in-Some.deque in
    let marks = map mark c.args.deques.items in
    let steps = c.in-Some.ensures.steps in
    let whole = ap (λ l. c.loop-deque.yielded ++ l) (sym steps.0) ∙ before.whole in
    let fresh = All-head (IsFresh (WHOLE - length c.args.deques.items)) deque c.next.new.self.rest.items
    (last-part (IsFresh (WHOLE - length c.args.deques.items)) c.loop-deque.yielded (deque ∷ c.next.new.self.rest.items) (subst (All (IsFresh (WHOLE - length c.args.deques.items))) (sym whole) c.requires.fresh)) in
    let popped = All-pop (λ victims. AreNew marks victims.items) c.loop-deque.lists.items c.pop.new.self.items c.pop.result c.pop.ensures.items before.passes in
    let passes = MatchOption-at_some ⊤ (λ victims. AreNew marks victims.items) c.in-Some-pop.victims c.in-Some-pop.is popped.1 in record {
      whole = append_assoc c.loop-deque.yielded (deque ∷ []) c.next.new.self.rest.items ∙ whole;
      marks = ap (map own_mark) c.push_reserved.ensures.items ∙ map-append own_mark c.loop-deque.workers.items _ ∙ ap (λ l. l ++ mark deque ∷ []) before.marks ∙ sym (map-append mark c.loop-deque.yielded (deque ∷ []));
      passes = popped.0;
      many = (let one = c.in-Some-pop.ensures.cases in let left = ap length steps.0 in omega (arith, before.many, c.pop.new.self.ok.0, c.loop-deque.lists.ok.0));
      room = (let left = ap length steps.0 in let pushed = c.push_reserved.ensures.len in let kept = c.push_reserved.ensures.capacity in omega (arith, before.room));
      each = subst (All (IsHired marks)) (sym c.push_reserved.ensures.items)
          (All-push (IsHired marks) c.loop-deque.workers.items _ before.each
          (record {
            place = (let long = ap length before.marks in let all = ap length whole in omega (arith, length-map c.loop-deque.workers.items own_mark, length-map c.loop-deque.yielded mark, length-map c.args.deques.items mark, length-append c.loop-deque.yielded (deque ∷ c.next.new.self.rest.items), c.loop-deque.workers.ok.0));
            owner = subst (λ many. IsFresh (WHOLE - many) deque) (sym (length-map c.args.deques.items mark)) fresh;
            thief = passes;
            nothing = c.new.ensures.items;
          }));
    }

pub returns : goal.returns
returns g c =
    let before = c.loop-deque.invariant in
    let none = c.in-None.ensures.steps.0 in
    let whole = nothing-left c.loop-deque.yielded c.loop-deque.deque-iterator.rest.items c.args.deques.items before.whole (omega (arith, c.loop-deque.deque-iterator.rest.ok.0)) in
    record { marks_are = before.marks ∙ ap (map mark) whole; each = before.each }
