-- Node by node the events that wait are read, and sorted in the end.
use Rattle.std.proofs.Common.{◌∙◌, add-one, arith, rules, subst, sym}
use Rattle.std.specs.Prelude.{IsPermutation}
use Rattle.std.proofs.lemmas.List.Sorted.{answers_always}
use Rattle.std.proofs.lemmas.Option.{slice_get-get_or}
use Rattle.event_key.specs.Keys.{key_lt, key_cmp}
use Rattle.model_core.specs.declared.event.Event.{Event}
use Rattle.key_order.proofs.InOrder.{in_order_by_sort}
use Rattle.node_core.specs.Nodes.{IsAsBefore}
use Rattle.cycle_core.specs.Snapshots.{waiting_in}
use Rattle.cycle_core.proofs.PlaceLemmas.{upto-more, upto-rest, upto-all}
use Rattle.cycle_core.proofs.SnapshotLemmas.{waiting-all, waiting-more}
use Rattle.cycle_core.proofs.WorkLemmas.{as_before}
use Rattle.cycle_core.proofs.saving.pending_of.Goals as goal

pub returns-in_err-put_pending-clause-same : goal.returns-in_err-put_pending-clause-same
returns-in_err-put_pending-clause-same g c =
    let at = slice_get-get_or c.loop-node.nodes c.loop-node.node-index c.node-item.result (omega arith) in
    upto-rest IsAsBefore _ c.args.nodes.now _ (λ place x at. as_before x)
    (upto-more IsAsBefore c.loop-node.node-index c.args.nodes.now c.loop-node.nodes _ c.put_pending.new.self c.loop-node.invariant.same at c.put_pending.ensures.same)

pub loop-node-preserved : goal.loop-node-preserved
loop-node-preserved g c =
    let at = slice_get-get_or c.loop-node.nodes c.loop-node.node-index c.node-item.result (omega arith) in
    let old = sym (c.loop-node.invariant.same.rest c.loop-node.node-index (omega arith)) ∙ at in
    record {
      same = rw add-one (upto-more IsAsBefore c.loop-node.node-index c.args.nodes.now c.loop-node.nodes _ c.put_pending.new.self c.loop-node.invariant.same at c.put_pending.ensures.same);
      read = rw add-one (waiting-more c.loop-node.node-index c.args.nodes.now _ c.loop-node.pending.items c.put_pending.new.into.items old c.in_ok-put_pending.ensures.ok c.loop-node.invariant.read);
    }

pub returns-clause-pending : goal.returns-clause-pending
unfolding key_lt key_cmp
returns-clause-pending g c =
    let all = waiting-all c.loop-node.node-index c.args.nodes.now c.loop-node.pending.items (omega arith) c.loop-node.invariant.read in
    in_order_by_sort (waiting_in c.args.nodes.now) c.sort_by_key.new.self.items c.requires (subst (λ es. IsPermutation es c.sort_by_key.new.self.items) all c.in_ok-sort_by_key.ensures.permutation)
    (c.in_ok-sort_by_key.ensures.sorted (λ (e : Event). e.key) (answers_always _ _ _ (λ f a r g h. search rules)))

pub returns-in_err-sort_by_key-clause-same : goal.returns-in_err-sort_by_key-clause-same
returns-in_err-sort_by_key-clause-same g c = upto-all IsAsBefore c.loop-node.node-index c.args.nodes.now c.loop-node.nodes (let far = c.loop-node.invariant.same.many in omega arith) c.loop-node.invariant.same

pub returns-clause-same : goal.returns-clause-same
returns-clause-same g c = upto-all IsAsBefore c.loop-node.node-index c.args.nodes.now c.loop-node.nodes (let far = c.loop-node.invariant.same.many in omega arith) c.loop-node.invariant.same
