use Rattle.std.proofs.Common.{◌≡◌, ◌<◌, ◌%◌, ◌∙◌, ap, arith, drop, length, set, subst, sym}
use Rattle.std.specs.Prelude.{Some, nat_lt, if◌then◌else◌}
use Rattle.std.proofs.lemmas.List.{length-drop, length-set}
use Rattle.std.proofs.lemmas.Option.{slice_get-get_or}
use Rattle.steal_pool.proofs.PlaceLemmas.{from-place}
use Rattle.steal_pool.proofs.DealLemmas.{Dealing, dealing-none, dealing-more, round-none, round-more}
use Rattle.steal_pool.proofs.dealing.deal.Goals as goal

pub loop-number-init : goal.loop-number-init
loop-number-init g c =
    let gives = c.into_iter-number-iterator.ensures.into_iter_gives in
    let none = ap (λ e. e.count) gives ∙ c.enumerate-number-items.ensures.count in record {
      left = ap (λ e. e.iter.rest.items) gives ∙ ap (λ e. e.rest.items) c.enumerate-number-items.ensures.source ∙ c.into_iter.ensures.rest ∙ sym (ap (λ k. drop k c.args.turns.items) none);
      within = omega (arith, none);
      many = c.in_ok-deques.ensures.many;
      dealing = subst (λ i. Dealing c.args.turns.items i c.in_ok-deques.deques.items) (sym none) (dealing-none c.args.turns.items c.in_ok-deques.deques.items c.in_ok-deques.ensures.empty);
      round = round-none c.args.workers c.in_ok-deques.deques.items c.in_ok-deques.ensures.empty;
    }

pub loop-number-preserved : goal.loop-number-preserved
loop-number-preserved g c =
    let before = c.loop-number.invariant in
    let steps = c.in-Some.ensures.steps in
    let here = from-place c.args.turns.items c.loop-number.number-iterator.count c.in-Some.turn c.next.new.self.iter.rest.items (sym steps.0.0 ∙ before.left) in
    let place = c.in-Some.number % c.args.workers in
    let inside : place < length c.loop-number.deques.items = omega (arith, c.requires, before.many) in record {
      left = here.1 ∙ ap (λ k. drop k c.args.turns.items) (sym steps.2);
      within = omega arith;
      many = length-set c.loop-number.deques.items place c.put.new.self ∙ before.many;
      dealing = subst (λ i. Dealing c.args.turns.items i (set c.loop-number.deques.items place c.put.new.self)) (sym steps.2)
          (dealing-more c.args.turns.items c.loop-number.number-iterator.count c.loop-number.deques.items place c.index_mut.result.now c.put.new.self _ before.dealing inside c.index_mut.ensures.value steps.1
          (slice_get-get_or c.args.turns.items c.loop-number.number-iterator.count c.in-Some.turn here.0 ∙ ap (λ turn. Some turn) here.2) c.in_ok-put.ensures);
      round = round-more c.args.workers c.loop-number.number-iterator.count c.loop-number.deques.items place c.index_mut.result.now c.put.new.self _ before.round inside
          c.index_mut.ensures.value steps.1 (ap (λ n. n % c.args.workers) (sym steps.1)) c.in_ok-put.ensures;
    }

pub returns-clause-once : goal.returns-clause-once
returns-clause-once g c number =
    let before = c.loop-number.invariant in
    let left = ap length before.left in
    let all : c.loop-number.number-iterator.count ≡ length c.args.turns.items =
    omega (arith, before.within, c.in-None.ensures.steps.0.0, c.loop-number.number-iterator.iter.rest.ok.0, length-drop c.loop-number.number-iterator.count c.args.turns.items) in
    before.dealing.once number ∙ ap (λ n. if nat_lt number n then 1 else 0) all
