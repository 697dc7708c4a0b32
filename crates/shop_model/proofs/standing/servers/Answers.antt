use Rattle.std.proofs.Common.{arith}
use Rattle.model_core.proofs.Numbers.{numbers-more}
use Rattle.shop_model.proofs.standing.servers.Goals as goal

pub loop-server-preserved : goal.loop-server-preserved
loop-server-preserved c =
    let more = numbers-more 0 c.loop-server.server c.loop-server.server (omega arith) in
    cc (more, c.in_ok-push.ensures.items, c.loop-server.invariant, c.from.ensures)
