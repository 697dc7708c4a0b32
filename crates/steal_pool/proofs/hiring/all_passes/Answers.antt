use Rattle.std.proofs.Common.{All, ◌≡◌, ◌+◌, ◌-◌, arith, map, rules, subst, sym, ◌∙◌}
use Rattle.std.proofs.lemmas.List.Elements.{All-push}
use Rattle.steal_pool.specs.Tallies.{WHOLE}
use Rattle.steal_pool.specs.Ends.{IsFresh, mark}
use Rattle.steal_pool.specs.Workers.{AreNew}
use Rattle.steal_pool.proofs.hiring.all_passes.Goals as goal

pub loop-preserved : goal.loop-preserved
loop-preserved g c =
    let before = c.loop.invariant in
    let same : WHOLE - c.loop.counter ≡ WHOLE - (c.loop.counter + 1) + 1 = omega (arith, c.requires.few) in record {
      marks = c.passes.ensures.marks ∙ before.marks;
      many = (let pushed = c.push_reserved.ensures.len in omega arith);
      room = (let kept = c.push_reserved.ensures.capacity in omega arith);
      passes = subst (All (λ victims. AreNew (map mark c.args.deques.now) victims.items)) (sym c.push_reserved.ensures.items)
          (All-push (λ victims. AreNew (map mark c.args.deques.now) victims.items) c.loop.lists.items c.in_ok-passes.field-0 before.passes
          (subst (λ marks. AreNew marks c.in_ok-passes.field-0.items) before.marks c.in_ok-passes.ensures.passes));
      left = c.in_ok-passes.ensures.left (WHOLE - (c.loop.counter + 1)) (subst (λ many. All (IsFresh many) c.loop.deques) same before.left);
    }
