use Rattle.std.proofs.Common.{arith, subst}
use Rattle.node_team.specs.Releases.{AreClear}
use Rattle.node_team.proofs.ReceiptLemmas.{clear-more}
use Rattle.node_team.proofs.kept.Kept.new.Goals as goal

pub loop-preserved : goal.loop-preserved
loop-preserved g c =
    let more = clear-more c.loop.counter c.loop.inboxes.items c.in_ok-inbox.inbox c.loop.invariant c.in_ok-inbox.ensures.early c.in_ok-inbox.ensures.arrived in
    rw c.in_ok-push.ensures.items more

pub returns : goal.returns
returns g c = record { wide = c.requires.wide; rest = c.requires.rest; clear = subst (λ n. AreClear n c.loop.inboxes.items) (omega arith) c.loop.invariant }
