use Rattle.std.proofs.Common.{◌≡◌, length, rules}
use Rattle.event_bags.proofs.Calls.{sees, counted}
use Rattle.event_bags.proofs.bags.Bags.len.Goals as goal

pub returns : goal.returns
returns g c =
    let size : c.len.result ≡ length c.self.inside.links.items = search rules in
    let both = counted c.self.invariant.1 c.len.result size in
    rw (sees c.self.invariant.1 c.self.view_is) both.1
