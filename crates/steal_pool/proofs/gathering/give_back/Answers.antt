use Rattle.std.proofs.Common.{◌≡◌, ◌<◌, ◌∙◌, All, [], refl, add-one, ap, arith, get_or, length, map, subst, sym}
use Rattle.std.specs.Prelude.{sum_by}
use Rattle.std.proofs.lemmas.List.{length-drop, length-map}
use Rattle.std.proofs.lemmas.List.Elements.{All-head, All-tail}
use Rattle.std.proofs.lemmas.List.Sums.{sum_by-cons}
use Rattle.steal_pool.specs.Ends.{Mark, mark, parts}
use Rattle.steal_pool.specs.Workers.{HasGotBack, own_mark, taken_at}
use Rattle.steal_pool.proofs.PlaceLemmas.{upto-length, upto-more, upto-all}
use Rattle.steal_pool.proofs.OrderLemmas.{nothing-left}
use Rattle.steal_pool.proofs.GatherLemmas.{comes-next, got-back, its-owner, sum-back}
use Rattle.steal_pool.proofs.gathering.give_back.Given.{Over}
use Rattle.steal_pool.proofs.gathering.give_back.Goals as goal
use Rattle.steal_pool.proofs.gathering.give_back.Goals.{After-index_mut}

-- the worker that the pass comes back to, as it was
its : (g : Over) (c : After-index_mut g) → (c.index_mut.result.now ≡ get_or c.args.workers.now.items c.loop-place.place-iterator.count c.index_mut.result.now) × (mark c.in-Some.victim ≡ own_mark c.index_mut.result.now)
its g c =
    let before = c.loop-place.invariant in
    its-owner c.args.workers.now.items c.loop-place.workers.items c.loop-place.place-iterator.count c.index_mut.result.now c.in-Some.victim c.next.new.self.iter.rest.items before.upto
    (sym (ap (map mark) c.in-Some.ensures.steps.0.0) ∙ before.to)
    (subst (λ i. c.index_mut.result.now ≡ get_or c.loop-place.workers.items i c.index_mut.result.now) c.in-Some.ensures.steps.1 c.index_mut.ensures.value)

pub index_mut-requires : goal.index_mut-requires
index_mut-requires g c =
    let before = c.loop-place.invariant in
    let next = comes-next c.args.workers.now.items c.loop-place.workers.items c.loop-place.place-iterator.count c.in-Some.victim c.next.new.self.iter.rest.items before.upto
    (sym (ap (map mark) c.in-Some.ensures.steps.0.0) ∙ before.to) in
    let place = c.in-Some.ensures.steps.1 in
    omega arith

pub take_back-requires-clause-part : goal.take_back-requires-clause-part
take_back-requires-clause-part g c κs within =
    let before = c.loop-place.invariant in
    let next = comes-next c.args.workers.now.items c.loop-place.workers.items c.loop-place.place-iterator.count c.in-Some.victim c.next.new.self.iter.rest.items before.upto
    (sym (ap (map mark) c.in-Some.ensures.steps.0.0) ∙ before.to) in
    subst (λ worker. 0 < worker.deque.knows.parts) (sym (its g (goal.at.take_back-requires-clause-part g c).After-index_mut).0)
    (c.requires.part c.loop-place.place-iterator.count c.index_mut.result.now (omega (arith, upto-length HasGotBack c.loop-place.place-iterator.count c.args.workers.now.items c.loop-place.workers.items before.upto)))

pub take_back-requires-clause-deque : goal.take_back-requires-clause-deque
take_back-requires-clause-deque g c κs within = ap (λ (one : Mark _). one.deque) (its g (goal.at.take_back-requires-clause-deque g c).After-index_mut).1

pub loop-place-preserved : goal.loop-place-preserved
loop-place-preserved g c =
    let before = c.loop-place.invariant in
    let left = c.in-Some.ensures.steps.0.0 in
    let place = c.in-Some.ensures.steps.1 in
    let count = c.in-Some.ensures.steps.2 in
    let next = comes-next c.args.workers.now.items c.loop-place.workers.items c.loop-place.place-iterator.count c.in-Some.victim c.next.new.self.iter.rest.items before.upto (sym (ap (map mark) left) ∙ before.to) in
    let ones = subst (λ victims. All (λ many. many ≡ 1) (map parts victims)) left before.one in
    let one = All-head (λ many. many ≡ 1) (parts c.in-Some.victim) (map parts c.next.new.self.iter.rest.items) ones in
    let worker = c.index_mut.result.now in
    let deque = c.take_back.new.self in record {
      upto = rw (count, place, add-one)
          (upto-more HasGotBack c.loop-place.place-iterator.count c.args.workers.now.items c.loop-place.workers.items worker _ before.upto next.0
          (subst (λ i. HasGotBack (get_or c.loop-place.workers.items i worker) (record worker { deque = deque })) place
          (subst (λ old. HasGotBack old (record worker { deque = deque })) c.index_mut.ensures.value (got-back worker c.in-Some.victim deque c.take_back.ensures one))));
      to = rw count next.1;
      one = All-tail (λ many. many ≡ 1) (parts c.in-Some.victim) (map parts c.next.new.self.iter.rest.items) ones;
      counted = λ number.
          let sum = sum-back number c.loop-place.workers.items c.in-Some.place worker c.in-Some.victim deque (omega arith) c.index_mut.ensures.value c.take_back.ensures in
          let rest = ap (sum_by (taken_at number)) left ∙ sum_by-cons (taken_at number) c.in-Some.victim c.next.new.self.iter.rest.items in
          let counted = before.counted number in
          omega arith;
    }

pub returns-clause-each : goal.returns-clause-each
returns-clause-each g c =
    let before = c.loop-place.invariant in
    let rest = c.loop-place.place-iterator.iter.rest in
    let none = c.in-None.ensures.steps.0.0 in
    let many = ap length before.to in
    upto-all HasGotBack c.loop-place.place-iterator.count c.args.workers.now.items c.loop-place.workers.items
    (omega (arith, rest.ok.0, length-map rest.items mark, length-map c.args.workers.now.items own_mark, length-drop c.loop-place.place-iterator.count (map own_mark c.args.workers.now.items))) before.upto

pub returns-clause-counted : goal.returns-clause-counted
returns-clause-counted g c number =
    let rest = c.loop-place.place-iterator.iter.rest in
    let none = c.in-None.ensures.steps.0.0 in
    let empty = nothing-left [] rest.items rest.items refl (omega (arith, rest.ok.0)) in
    let gone = ap (sum_by (taken_at number)) empty in
    let counted = c.loop-place.invariant.counted number in
    omega arith
