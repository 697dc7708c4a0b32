use Rattle.std.proofs.Common.{◌+◌, List, sym, ◌∙◌, subst, arith, add-one}
use Rattle.std.proofs.lemmas.Option.{slice_get-get_or}
use Rattle.cycle_core.proofs.PlaceLemmas.{IsUpto, upto-more}
use Rattle.node_team.specs.Desks.{Desk, desk_of, desks_of, zip_desks, CanRelease, HasReleased}
use Rattle.node_team.proofs.DeskLemmas.{each-at, served-all, zip-at, zip-set}
use Rattle.node_team.proofs.releasing.release_in_turn.Goals as goal

pub release-requires-after_bounds : goal.release-requires-after_bounds
release-requires-after_bounds g c lifetimes outlives =
    let i = c.loop-i.i in
    let many = c.requires.many in
    let at_node = slice_get-get_or c.loop-i.nodes i c.index-nodes-i.result (omega arith) in
    let at_end = slice_get-get_or c.loop-i.ends i c.index-ends-i.result (omega arith) in
    let at_commit = slice_get-get_or c.loop-i.committed i c.index-committed-i.result (omega arith) in
    let at_inbox = slice_get-get_or c.loop-i.inboxes i c.index-inboxes-i.result (omega arith) in
    let here = zip-at c.loop-i.nodes c.loop-i.ends c.loop-i.committed c.loop-i.inboxes i _ _ _ _ at_node at_end at_commit at_inbox in
    each-at (CanRelease g.E.NodeEnd g.M.Model.meaning c.args.due.now) _ c.requires.each i _ (sym (c.loop-i.invariant.rest i (omega arith)) ∙ here)

pub loop-i-preserved : goal.loop-i-preserved
loop-i-preserved g c =
    let i = c.loop-i.i in
    let many = c.requires.many in
    let at_node = slice_get-get_or c.loop-i.nodes i c.index-nodes-i.result (omega arith) in
    let at_end = slice_get-get_or c.loop-i.ends i c.index-ends-i.result (omega arith) in
    let at_commit = slice_get-get_or c.loop-i.committed i c.index-committed-i.result (omega arith) in
    let at_inbox = slice_get-get_or c.loop-i.inboxes i c.index-inboxes-i.result (omega arith) in
    let here = zip-at c.loop-i.nodes c.loop-i.ends c.loop-i.committed c.loop-i.inboxes i _ _ _ _ at_node at_end at_commit at_inbox in
    let R : Desk _ _ → Desk _ _ → Type 0 = HasReleased g.E.NodeEnd g.M.Model.meaning c.args.due.now in
    let old = zip_desks c.args.nodes.now c.args.ends.now c.args.committed.now c.args.inboxes.now in
    let P : List (Desk _ _) → Type 0 = λ l. IsUpto R (i + 1) old l in
    let more = upto-more R i old (zip_desks c.loop-i.nodes c.loop-i.ends c.loop-i.committed c.loop-i.inboxes) _ (desk_of c.release.new.node c.release.new.end c.release.new.commit c.release.new.inbox) c.loop-i.invariant here c.in_ok-release.ensures in
    subst P (sym (zip-set c.loop-i.nodes c.loop-i.ends c.loop-i.committed c.loop-i.inboxes (omega arith) (omega arith) (omega arith) i _ _ _ _)) (rw add-one more)

pub returns : goal.returns
returns g c =
    let many = c.requires.many in
    served-all g.E.NodeEnd g.M.Model.meaning c.args.due.now c.loop-i.i (desks_of c.args.nodes.now c.args.ends.now c.args.committed.now c.args.inboxes.now)
    (desks_of c.loop-i.nodes c.loop-i.ends c.loop-i.committed c.loop-i.inboxes) c.requires.many (record { ends = omega arith; committed = omega arith; inboxes = omega arith }) (omega arith) c.loop-i.invariant
