use Rattle.std.proofs.Common.{All, ◌≡◌, ◌<◌, ap, add-one, arith, map, refl, rules, subst, sym, ◌∙◌}
use Rattle.std.proofs.Math.Seq.{map-set_same}
use Rattle.std.proofs.lemmas.List.{length-map, take_all}
use Rattle.std.proofs.lemmas.List.Elements.{All-push, AllZip-get_or}
use Rattle.steal_pool.specs.Ends.{End, IsFresh, mark, without_part}
use Rattle.steal_pool.proofs.PlaceLemmas.{more-taken, upto-length, upto-more, upto-next, upto-all}
use Rattle.steal_pool.proofs.hiring.passes.Goals as goal

pub loop-deque-init : goal.loop-deque-init
loop-deque-init g c = record { upto = refl; marks = refl; to = search rules; fresh = search rules; many = search rules; room = c.in_ok-victims.ensures.capacity }

pub victim-requires-after_bounds : goal.victim-requires-after_bounds
victim-requires-after_bounds g c κs within =
    let same = upto-next (λ old new. new ≡ without_part old) c.loop-deque.deque-index c.args.deques.now c.loop-deque.deques c.deque-item.result c.loop-deque.invariant.upto in
    subst (λ deque. 1 < deque.knows.parts) (sym same) (c.requires c.loop-deque.deque-index c.deque-item.result (omega arith))

pub returns-in_err-victim-clause-marks : goal.returns-in_err-victim-clause-marks
returns-in_err-victim-clause-marks g c =
    map-set_same mark c.loop-deque.deques c.loop-deque.deque-index c.victim.new.self c.deque-item.result c.victim.ensures.mark ∙ c.loop-deque.invariant.marks

pub loop-deque-preserved : goal.loop-deque-preserved
loop-deque-preserved g c =
    let before = c.loop-deque.invariant in
    let same = upto-next (λ old new. new ≡ without_part old) c.loop-deque.deque-index c.args.deques.now c.loop-deque.deques c.deque-item.result before.upto in
    let marked = c.in_ok-victim.ensures.made.0 ∙ ap mark same in record {
      upto = rw add-one (upto-more (λ old new. new ≡ without_part old) c.loop-deque.deque-index c.args.deques.now c.loop-deque.deques c.deque-item.result c.victim.new.self before.upto (omega arith) c.in_ok-victim.ensures.left);
      marks = map-set_same mark c.loop-deque.deques c.loop-deque.deque-index c.victim.new.self c.deque-item.result c.victim.ensures.mark ∙ before.marks;
      to = more-taken mark c.args.deques.now c.loop-deque.deque-index c.deque-item.result c.loop-deque.victims.items c.push_reserved.new.self.items c.in_ok-victim.field-0 (omega arith) before.to marked c.push_reserved.ensures.items;
      fresh = subst (All (IsFresh 1)) (sym c.push_reserved.ensures.items) (All-push (IsFresh 1) c.loop-deque.victims.items c.in_ok-victim.field-0 before.fresh c.in_ok-victim.ensures.made.1);
      many = (let pushed = c.push_reserved.ensures.len in omega arith);
      room = (let kept = c.push_reserved.ensures.capacity in let long = upto-length _ _ _ _ before.upto in omega arith);
    }

pub returns-clause-marks : goal.returns-clause-marks
returns-clause-marks g c = c.loop-deque.invariant.marks

pub returns-clause-passes : goal.returns-clause-passes
returns-clause-passes g c = record { to = c.loop-deque.invariant.to ∙ take_all c.loop-deque.deque-index (map mark c.args.deques.now) (omega (arith, length-map c.args.deques.now mark)); fresh = c.loop-deque.invariant.fresh }

pub returns-clause-left : goal.returns-clause-left
returns-clause-left g c many before k d inside =
    let R = λ (old new : End _). new ≡ without_part old in
    let zip = upto-all R c.loop-deque.deque-index c.args.deques.now c.loop-deque.deques (omega arith) c.loop-deque.invariant.upto in
    let long = upto-length R c.loop-deque.deque-index c.args.deques.now c.loop-deque.deques c.loop-deque.invariant.upto in
    let here = AllZip-get_or R c.args.deques.now c.loop-deque.deques k d d zip (omega arith) in
    let old = before k d (omega arith) in
    subst (IsFresh many) (sym here) (omega arith, old.1)
