use Rattle.std.proofs.Common.{List, length, map, sym, ap, subst, ◌∙◌}
use Rattle.std.specs.Prelude.{IsPermutation}
use Rattle.std.specs.List.{AllByRecursion}
use Rattle.std.specs.Vec.{with_items}
use Rattle.std.proofs.lemmas.List.{length-map, with_items_is}
use Rattle.parcel_exchange.specs.declared.inbox.Inbox.{Inbox}
use Rattle.node_core.specs.declared.committed.Committed.{Committed}
use Rattle.cycle_core.specs.Blank.{AreBlank}
use Rattle.cycle_core.specs.Ends.{ReceiveUpto, told_by}
use Rattle.cycle_core.specs.Records.{AreInOrder, RecordsDiffer, HaveGiven}
use Rattle.cycle_core.proofs.CyclingLemmas.{sends-to}
use Rattle.cycle_core.proofs.GivenLemmas.{blank-again, ordered-sent, told-sent}
use Rattle.cycle_core.proofs.RecordLemmas.{parts-ordered}
use Rattle.node_team.specs.Receipts.{CanReceiveAll}
use Rattle.node_team.specs.Releases.{arrived_in, AreClear}
use Rattle.node_team.proofs.ending.end_nodes.Goals as goal

pub receive_arrived-requires-clause-can : goal.receive_arrived-requires-clause-can
receive_arrived-requires-clause-can g c κs within =
    let come = c.in_ok-release_all.ensures.come in
    let left = c.release_all.new in
    let boxes = left.kept.inboxes.items in
    subst (CanReceiveAll g.M.Model.meaning left.nodes) (sym c.as_mut_slice-2.ensures.value) (record {
      can = c.requires.can.arrives left.nodes come.handed (map arrived_in boxes) come.committed (length-map boxes arrived_in ∙ come.many) come.comes (λ place x at. c.know_all.ensures place x at);
      many = come.many ∙ sym c.release_all.auto.nodes;
      early = λ place x at. come.early place x at;
    })

pub merge-requires-clause-ordered : goal.merge-requires-clause-ordered
merge-requires-clause-ordered g c =
    let come = c.in_ok-release_all.ensures.come in
    let left = c.release_all.new in
    let slice = c.as_mut_slice.ensures.value in
    let over = c.as_mut_slice-3.ensures.value ∙ with_items_is c.args.lists.now.committed left.committed (c.release_all.auto.committed ∙ ap length slice ∙ sym c.args.lists.now.committed.ok.0) in
    let P : List Committed → Type 0 = λ l. AllByRecursion (λ (d : Committed). AreInOrder d.done.items) l in
    subst P (sym over) (ordered-sent come.handed left.committed come.sent (parts-ordered g.M.Model.meaning c.args.due.now.bound c.args.due.now.below c.args.nodes.now left.nodes come.handed come.committed))

pub merge-requires-clause-differ : goal.merge-requires-clause-differ
merge-requires-clause-differ g c =
    let come = c.in_ok-release_all.ensures.come in
    let left = c.release_all.new in
    let slice = c.as_mut_slice.ensures.value in
    let over = c.as_mut_slice-3.ensures.value ∙ with_items_is c.args.lists.now.committed left.committed (c.release_all.auto.committed ∙ ap length slice ∙ sym c.args.lists.now.committed.ok.0) in
    let P : List Committed → Type 0 = λ l. RecordsDiffer (told_by l) in
    subst P (sym over) (subst RecordsDiffer (sym (told-sent come.handed left.committed come.sent)) (c.requires.can.told left.nodes come.handed come.committed))

pub returns-clause-ended : goal.returns-clause-ended
returns-clause-ended g c =
    let come = c.in_ok-release_all.ensures.come in
    let left = c.release_all.new in
    let boxes = left.kept.inboxes.items in
    let slice = c.as_mut_slice.ensures.value in
    let over = c.as_mut_slice-3.ensures.value ∙ with_items_is c.args.lists.now.committed left.committed (c.release_all.auto.committed ∙ ap length slice ∙ sym c.args.lists.now.committed.ok.0) in
    let told = ap told_by over ∙ told-sent come.handed left.committed come.sent in
    let new = c.receive_arrived.new.nodes in
    let R : List Inbox → Type 0 = λ l. ReceiveUpto g.M.Model.meaning (length left.nodes) (map arrived_in l) left.nodes new in
    let records = c.in_ok-records.records in
    record {
      mids = left.nodes;
      all = come.handed;
      commits = come.committed;
      parcels = map arrived_in boxes;
      long = length-map boxes arrived_in ∙ come.many;
      sorted = come.comes;
      known = λ place x at. c.know_all.ensures place x at;
      receives = subst R c.as_mut_slice-2.ensures.value c.in_ok-receive_arrived.ensures.received;
      permutes = subst (λ ts. IsPermutation ts records.items) told c.in_ok-records.ensures.permutes;
      ordered = c.in_ok-records.ensures.ordered;
    }

pub returns-clause-ready : goal.returns-clause-ready
returns-clause-ready g c =
    let left = c.release_all.new in
    let now = c.receive_arrived.new.inboxes in
    let over = with_items_is left.kept.inboxes now (c.receive_arrived.auto.inboxes ∙ ap length c.as_mut_slice-2.ensures.value ∙ sym left.kept.inboxes.ok.0) in
    let clear = subst (λ n. AreClear n now) c.release_all.auto.nodes c.in_ok-receive_arrived.ensures.clear in
    record {
      wide = c.in_ok-release_all.ensures.wide;
      rest = c.in_ok-release_all.ensures.rest;
      clear = subst (AreClear (length c.args.nodes.now)) (sym over) clear;
    }

pub returns-clause-blank : goal.returns-clause-blank
returns-clause-blank g c =
    let nodes = length c.args.nodes.now in
    let come = c.in_ok-release_all.ensures.come in
    let left = c.release_all.new in
    let long = c.release_all.auto.committed ∙ ap length c.as_mut_slice.ensures.value ∙ sym c.args.lists.now.committed.ok.0 in
    let over = c.as_mut_slice-3.ensures.value ∙ with_items_is c.args.lists.now.committed left.committed long in
    let sends = sends-to g.M.Model.meaning c.args.due.now.bound c.args.due.now.below c.args.nodes.now left.nodes come.handed c.requires.can.wide come.committed in
    let G : List Committed → Type 0 = λ l. HaveGiven l c.merge.new.committed in
    let blank = blank-again nodes come.handed left.committed c.merge.new.committed come.committed.count sends come.sent (subst G over c.in_ok-records.ensures.given) in
    record {
      committed = subst (AreBlank nodes) (sym (with_items_is (with_items c.args.lists.now.committed left.committed) c.merge.new.committed (c.merge.auto.committed ∙ ap length over ∙ long))) blank;
      parcels = c.requires.blank.parcels;
      spare = c.in_ok-records.ensures.spare;
    }
