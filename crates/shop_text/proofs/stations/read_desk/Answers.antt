use Rattle.std.proofs.Common.{refl}
use Rattle.shop_text.specs.StationTexts.{desk}
use Rattle.shop_text.proofs.stations.read_desk.Goals as goal

pub returns-clause-read : goal.returns-clause-read
unfolding desk
returns-clause-read c =
    let servers = rw c.from-most.ensures at c.in_ok-servers.ensures.read in
    let line = rw c.from-most-2.ensures at c.in_ok-line.ensures.read in
    rw (servers, line, c.in_ok-order.ensures) refl
