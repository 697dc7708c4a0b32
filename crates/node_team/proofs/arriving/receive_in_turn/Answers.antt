use Rattle.std.proofs.Common.{◌∙◌, ap, sym, arith, map, refl}
use Rattle.std.proofs.lemmas.Option.{slice_get-get_or, slice_get_within}
use Rattle.std.specs.Prelude.{Some}
use Rattle.cycle_core.proofs.EndingLemmas.{receive-none, receive-more}
use Rattle.node_team.specs.Releases.{arrived_in}
use Rattle.node_team.proofs.ReceiptLemmas.{received-all}
use Rattle.node_team.proofs.ReleaseLemmas.{at-mapped, taken-none, taken-more}
use Rattle.node_team.proofs.arriving.receive_in_turn.Goals as goal

pub loop-i-init : goal.loop-i-init
loop-i-init g c = (receive-none (g.M.Model.meaning) (map arrived_in c.args.inboxes.now) c.args.nodes.now, taken-none c.args.inboxes.now (λ number inbox at. c.requires.early number inbox at))

pub receive-requires-after_bounds : goal.receive-requires-after_bounds
receive-requires-after_bounds g c lifetimes outlives =
    let place = c.loop-i.i in
    let many = c.requires.many in
    let boxes = c.loop-i.invariant.1.many in
    let at = slice_get-get_or c.loop-i.nodes place c.index-nodes-i.result (omega arith) in
    let box = slice_get-get_or c.loop-i.inboxes place c.index-inboxes-i.result (omega arith) in
    let parcel = at-mapped arrived_in c.args.inboxes.now place _ (sym (c.loop-i.invariant.1.rest place (omega arith)) ∙ box) in
    c.requires.can place _ c.replace-events.result (sym (c.loop-i.invariant.0.rest place (omega arith)) ∙ at) (parcel ∙ ap (λ es. Some es) (sym c.replace-events.ensures.value))

pub loop-i-preserved : goal.loop-i-preserved
loop-i-preserved g c =
    let place = c.loop-i.i in
    let many = c.requires.many in
    let boxes = c.loop-i.invariant.1.many in
    let at = slice_get-get_or c.loop-i.nodes place c.index-nodes-i.result (omega arith) in
    let box = slice_get-get_or c.loop-i.inboxes place c.index-inboxes-i.result (omega arith) in
    let parcel = at-mapped arrived_in c.args.inboxes.now place _ (sym (c.loop-i.invariant.1.rest place (omega arith)) ∙ box) in (
      receive-more (g.M.Model.meaning) place (map arrived_in c.args.inboxes.now) c.args.nodes.now c.loop-i.nodes c.replace-events.result _ _ c.loop-i.invariant.0 at
          (parcel ∙ ap (λ es. Some es) (sym c.replace-events.ensures.value)) c.in_ok-receive.ensures,
      taken-more place c.args.inboxes.now c.loop-i.inboxes _ _ c.loop-i.invariant.1 box refl (c.replace-events.ensures.after ∙ c.new.ensures),
    )

pub returns : goal.returns
returns g c =
    let taken = c.loop-i.invariant.1 in
    let nodes = c.loop-i.invariant.0 in
    let many = c.requires.many in
    record {
      received = received-all (g.M.Model.meaning) c.loop-i.i (map arrived_in c.args.inboxes.now) c.args.nodes.now c.loop-i.nodes (let same = nodes.many in omega arith) nodes;
      clear = record {
        many = taken.many ∙ c.requires.many;
        early = taken.early;
        arrived = λ place inbox at. taken.taken place inbox (let lt = slice_get_within c.loop-i.inboxes place inbox at in let boxes = taken.many in let same = nodes.many in omega arith) at;
      };
    }
