use Rattle.std.proofs.Common.{sym, ◌∙◌, ap, arith, Some, subst}
use Rattle.std.specs.Prelude.{Option, Vec}
use Rattle.std.specs.declared.alloc.Global.{Global}
use Rattle.model_core.specs.declared.event.Event.{Event}
use Rattle.key_order.specs.Pending.{enqueue_all, in_order}
use Rattle.speedes_queue.specs.Fresh.{FreshView, events_of, HaveRoom}
use Rattle.speedes_queue.proofs.FreshLemmas.{fresh_none}
use Rattle.speedes_queue.proofs.fresh.Fresh.take_sorted.Goals as goal

pub invariant_of-self : goal.invariant_of-self
invariant_of-self c = fresh_none c.self.inside.cells _ (ap events_of c.in_default.is) c.self.invariant.has_room

pub returns-in_default-clause-chain : goal.returns-in_default-clause-chain
unfolding enqueue_all
returns-in_default-clause-chain c =
    c.new.ensures
    ∙ sym (ap in_order (sym (ap (λ (v : FreshView). v.events) c.self.view_is) ∙ ap events_of c.in_default.is))

pub invariant_of-self-2 : goal.invariant_of-self-2
invariant_of-self-2 c =
    let P : Option (Vec Event Global) → Type 0 = λ cells. HaveRoom cells c.self.inside.spare in
    let room : HaveRoom (Some c.in-Some.cells) c.self.inside.spare = subst P c.in-Some.is c.self.invariant.has_room in
    fresh_none _ _ c.linked.ensures.items
    (omega (arith, room, c.len.ensures, c.linked.ensures.len, c.linked.ensures.capacity, c.sort_cells.ensures.capacity))
