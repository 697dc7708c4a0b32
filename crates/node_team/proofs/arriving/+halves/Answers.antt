use Rattle.std.proofs.Common.{of_calls, ◌∙◌, sym}
use Rattle.node_team.proofs.ForkLemmas.{and-first, and-second, on-ok-both}
use Rattle.node_team.proofs.ReceiptLemmas.{AreRows, both-can, both-received}
use Rattle.node_team.proofs.arriving.+halves.Goals as goal

pub receive_arrived-receive_both-requires-clause-low : goal.receive_arrived-receive_both-requires-clause-low
receive_arrived-receive_both-requires-clause-low g t c lifetimes outlives =
    let n = c.split_at_mut-n1 in
    let i = c.split_at_mut-i1 in
    let rows : AreRows g.M.Model.meaning c.args.nodes.now n.result.0.now n.result.1.now c.args.inboxes.now i.result.0.now i.result.1.now =
    record { all_nodes = n.ensures.value; all_inboxes = i.ensures.value; many = i.ensures.front_len ∙ sym n.ensures.front_len } in
    (both-can g.M.Model.meaning c.args.nodes.now n.result.0.now n.result.1.now c.args.inboxes.now i.result.0.now i.result.1.now rows c.requires.can).0

pub receive_arrived-receive_both-requires-clause-high : goal.receive_arrived-receive_both-requires-clause-high
receive_arrived-receive_both-requires-clause-high g t c lifetimes outlives =
    let n = c.split_at_mut-n1 in
    let i = c.split_at_mut-i1 in
    let rows : AreRows g.M.Model.meaning c.args.nodes.now n.result.0.now n.result.1.now c.args.inboxes.now i.result.0.now i.result.1.now =
    record { all_nodes = n.ensures.value; all_inboxes = i.ensures.value; many = i.ensures.front_len ∙ sym n.ensures.front_len } in
    (both-can g.M.Model.meaning c.args.nodes.now n.result.0.now n.result.1.now c.args.inboxes.now i.result.0.now i.result.1.now rows c.requires.can).1

pub receive_arrived-returns : goal.receive_arrived-returns
receive_arrived-returns g t c =
    let n = c.split_at_mut-n1 in
    let i = c.split_at_mut-i1 in
    let rows : AreRows g.M.Model.meaning c.args.nodes.now n.result.0.now n.result.1.now c.args.inboxes.now i.result.0.now i.result.1.now =
    record { all_nodes = n.ensures.value; all_inboxes = i.ensures.value; many = i.ensures.front_len ∙ sym n.ensures.front_len } in
    let both = c.receive_both.ensures in
    let left = c.receive_both.new in
    on-ok-both c.receive_both.result (both-received g.M.Model.meaning c.args.nodes.now n.result.0.now n.result.1.now c.args.inboxes.now i.result.0.now i.result.1.now rows left.n1 left.n2 left.i1 left.i2) both.low both.high

pub receive_both-returns-clause-low : goal.receive_both-returns-clause-low
receive_both-returns-clause-low g t c = and-first _ c.join_mut-front.result.0 c.join_mut-front.result.1 c.and.result c.and.ensures (search of_calls)

pub receive_both-returns-clause-high : goal.receive_both-returns-clause-high
receive_both-returns-clause-high g t c = and-second _ c.join_mut-front.result.0 c.join_mut-front.result.1 c.and.result c.and.ensures (search of_calls)
