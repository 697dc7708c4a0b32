-- What is mended goes one place towards the front.
use Rattle.std.proofs.Common.{◌≡◌, ◌-◌, length, min, length-set, sym, ap, ◌∙◌, subst, arith}
use Rattle.event_log.specs.Items.{AreHeldBut, Item, item_least, placed}
use Rattle.object_log.proofs.CarriedLemmas.{same-read}
use Rattle.event_log.proofs.ItemLemmas.{mend-ends, mend-goes, mend-stays, placed-set}
use Rattle.event_log.proofs.carried.mend.Goals as goal

pub returns-then-held-entry-clause-held : goal.returns-then-held-entry-clause-held
returns-then-held-entry-clause-held c =
    let a = c.at-entry.ensures in
    mend-stays c.loop-place.place a.0 c.loop-place.items.items (omega arith) c.loop-place.invariant.inside c.loop-place.invariant.but a.1
    (sym a.2.held_is ∙ sym c.if-held-entry.true ∙ c.min-held.ensures ∙ (λ i. min (a.2.least_is i) (c.held_from-held.ensures i)))

pub loop-place-preserved : goal.loop-place-preserved
loop-place-preserved c =
    let l = c.loop-place in
    let es = l.items.items in
    let a = c.at-entry.ensures in
    let s = c.set.ensures.items in
    let same : a.0 ≡ s.0 = same-read es (l.place - 1) a.0 s.0 (omega (arith, l.invariant.inside)) a.1 s.1 in
    let put : Item = record { done = s.0.done; place = c.at-entry.result.place; held = c.min-held.result } in
    let long = ap length s.2 in
    let kept = length-set es (l.place - 1) put in
    let inside = l.invariant.inside in
    record {
      inside = omega arith;
      but = subst (AreHeldBut (l.place - 1)) (sym s.2) (mend-goes l.place put es (omega arith) inside l.invariant.but
          (c.min-held.ensures ∙ (λ i. min ((a.2.least_is ∙ ap item_least same) i) (c.held_from-held.ensures i))));
      same = ap placed s.2
          ∙ placed-set (l.place - 1) put s.0 es s.1 (ap (λ at. record { done = s.0.done; place = at }) (a.2.place_is ∙ ap (λ (i : Item). i.place) same)) (omega arith)
          ∙ l.invariant.same;
      capacity = c.set.ensures.capacity ∙ l.invariant.capacity;
    }

pub returns-clause-held : goal.returns-clause-held
returns-clause-held c = mend-ends c.loop-place.place c.loop-place.items.items (omega arith) c.loop-place.invariant.but
