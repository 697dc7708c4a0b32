use Rattle.std.proofs.Common.{subst}
use Rattle.node_core.specs.Calls.{HasReceived}
use Rattle.cycle_core.proofs.ending.receive.Goals as goal

pub returns : goal.returns
returns g c =
    record {
      roomy = c.room.new.self;
      room = c.in_ok-room.ensures.same;
      count = c.receive.result;
      receives = subst (λ v. HasReceived (g.M.Model.meaning v) c.args.events c.room.new.self c.receive.new.self c.receive.result) c.in_ok-room.ensures.same.same.model c.receive.ensures;
    }
