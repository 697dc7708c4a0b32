-- The place is before all that come after the event, and behind all others.
use Rattle.std.proofs.Common.{◌≡◌, ◌-◌, List, drop, sym, ap, ◌∙◌, subst, arith}
use Rattle.std.specs.Prelude.{insert}
use Rattle.model_core.specs.declared.event.Event.{Event}
use Rattle.key_order.specs.Ascending.{IsAscending}
use Rattle.key_order.specs.Keys.{IsNewKey}
use Rattle.key_order.specs.Pending.{enqueue}
use Rattle.tick_queue.specs.Order.{shown}
use Rattle.tick_queue.proofs.NearLemmas.{inserted, inserted-first, length-shown, as_inserted, placed_insert, read_as, shown_inserted}
use Rattle.tick_queue.proofs.near.Near.insert.Goals as goal
use Rattle.tick_queue.proofs.near.Near.insert.Goals.{then-loop-i-test+else-is_before, else-loop-i-test}

pub invariant_of-self-2 : goal.invariant_of-self-2
invariant_of-self-2 c =
    let put = as_inserted c.in_ok-reserve.ensures.items c.push_reserved.ensures.items (omega (arith, c.len.ensures, c.in_ok-reserve.ensures.len)) c.in_ok-insert.ensures.items in
    let long = length-shown c.self.inside.events.items c.self.inside.places.items in
    let upto = c.loop-i.invariant.upto in
    placed_insert c.self.invariant put (omega (arith, upto, long))

pub returns-clause-ok : goal.returns-clause-ok
returns-clause-ok c =
    let es = shown c.self.inside.events.items c.self.inside.places.items in
    let at = c.self.inside.at in
    let A : List Event → Type 0 = IsAscending in
    let N : List Event → Type 0 = IsNewKey c.args.event.key in
    let placed : drop at (insert es c.loop-i.i c.args.event) ≡ enqueue c.args.event (drop at es) =
    elim c.loop-i-test.branch [
      | then-loop-i-test+else-is_before w ↦
          let upto = c.loop-i.invariant.upto in
          let some = w.loop-i-test.true in
          inserted es at c.loop-i.i c.args.event w.event_of.result.now c.loop-i.invariant some (read_as es (c.loop-i.i - 1) w.event_of.result.now (omega (arith, upto, some)) w.event_of.ensures)
          (sym w.is_before.ensures ∙ w.if-is_before.false) (subst A (sym c.self.view_is) c.requires.up) (subst N (sym c.self.view_is) c.requires.new_key)
      | else-loop-i-test w ↦ inserted-first es at c.loop-i.i c.args.event c.loop-i.invariant w.loop-i-test.false
    ] in
    let put = as_inserted c.in_ok-reserve.ensures.items c.push_reserved.ensures.items (omega (arith, c.len.ensures, c.in_ok-reserve.ensures.len)) c.in_ok-insert.ensures.items in
    ap (drop at) (shown_inserted c.self.invariant put) ∙ placed ∙ ap (enqueue c.args.event) c.self.view_is
