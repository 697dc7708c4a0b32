use Rattle.std.proofs.Common.{◌∙◌, sym}
use Rattle.node_team.specs.Desks.{desks_of}
use Rattle.node_team.proofs.DeskLemmas.{AreHalves, both-served, can-halves}
use Rattle.node_team.proofs.ForkLemmas.{on-ok-both}
use Rattle.node_team.proofs.releasing.+halves.Goals as goal

pub release_in_parts-release_both-requires-clause-low : goal.release_in_parts-release_both-requires-clause-low
release_in_parts-release_both-requires-clause-low g t c lifetimes outlives =
    let n = c.split_at_mut-n1 in
    let e = c.split_at_mut-e1 in
    let d = c.split_at_mut-c1 in
    let i = c.split_at_mut-i1 in
    let all = desks_of c.args.nodes.now c.args.ends.now c.args.committed.now c.args.inboxes.now in
    let low = desks_of n.result.0.now e.result.0.now d.result.0.now i.result.0.now in
    let high = desks_of n.result.1.now e.result.1.now d.result.1.now i.result.1.now in
    let halves : AreHalves all low high = record {
      nodes = n.ensures.value;
      ends = e.ensures.value;
      committed = d.ensures.value;
      inboxes = i.ensures.value;
      many = record { ends = e.ensures.front_len ∙ sym n.ensures.front_len; committed = d.ensures.front_len ∙ sym n.ensures.front_len; inboxes = i.ensures.front_len ∙ sym n.ensures.front_len };
    } in
    (can-halves g.E.NodeEnd g.M.Model.meaning c.args.due.now all low high halves c.requires.can).0

pub release_in_parts-release_both-requires-clause-high : goal.release_in_parts-release_both-requires-clause-high
release_in_parts-release_both-requires-clause-high g t c lifetimes outlives =
    let n = c.split_at_mut-n1 in
    let e = c.split_at_mut-e1 in
    let d = c.split_at_mut-c1 in
    let i = c.split_at_mut-i1 in
    let all = desks_of c.args.nodes.now c.args.ends.now c.args.committed.now c.args.inboxes.now in
    let low = desks_of n.result.0.now e.result.0.now d.result.0.now i.result.0.now in
    let high = desks_of n.result.1.now e.result.1.now d.result.1.now i.result.1.now in
    let halves : AreHalves all low high = record {
      nodes = n.ensures.value;
      ends = e.ensures.value;
      committed = d.ensures.value;
      inboxes = i.ensures.value;
      many = record { ends = e.ensures.front_len ∙ sym n.ensures.front_len; committed = d.ensures.front_len ∙ sym n.ensures.front_len; inboxes = i.ensures.front_len ∙ sym n.ensures.front_len };
    } in
    (can-halves g.E.NodeEnd g.M.Model.meaning c.args.due.now all low high halves c.requires.can).1

pub release_in_parts-returns : goal.release_in_parts-returns
release_in_parts-returns g t c =
    let n = c.split_at_mut-n1 in
    let e = c.split_at_mut-e1 in
    let d = c.split_at_mut-c1 in
    let i = c.split_at_mut-i1 in
    let all = desks_of c.args.nodes.now c.args.ends.now c.args.committed.now c.args.inboxes.now in
    let low = desks_of n.result.0.now e.result.0.now d.result.0.now i.result.0.now in
    let high = desks_of n.result.1.now e.result.1.now d.result.1.now i.result.1.now in
    let halves : AreHalves all low high = record {
      nodes = n.ensures.value;
      ends = e.ensures.value;
      committed = d.ensures.value;
      inboxes = i.ensures.value;
      many = record { ends = e.ensures.front_len ∙ sym n.ensures.front_len; committed = d.ensures.front_len ∙ sym n.ensures.front_len; inboxes = i.ensures.front_len ∙ sym n.ensures.front_len };
    } in
    let both = c.release_both.ensures in
    let left = c.release_both.new in
    let low_left = desks_of left.low.0 left.low.1.0 left.low.1.1.0 left.low.1.1.1.0 in
    let high_left = desks_of left.high.0 left.high.1.0 left.high.1.1.0 left.high.1.1.1.0 in
    on-ok-both c.release_both.result (both-served g.E.NodeEnd g.M.Model.meaning c.args.due.now all low high low_left high_left halves) both.low both.high
