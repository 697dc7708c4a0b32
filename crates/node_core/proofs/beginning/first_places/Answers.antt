use Rattle.std.proofs.Common.{List, ℕ, sym, subst}
use Rattle.node_core.specs.NewLogs.{AreFirst}
use Rattle.node_core.proofs.beginning.first_places.Goals as goal

pub put_first-requires-clause-known : goal.put_first-requires-clause-known
put_first-requires-clause-known g c κs lives = c.requires.known

pub put_first-requires-clause-none : goal.put_first-requires-clause-none
put_first-requires-clause-none g c κs lives =
    let P : List ℕ → Type 0 = λ places. AreFirst (g.M.Model.meaning c.args.model.now) c.args.homes.now c.args.number 0 c.args.log.now places 0 in
    subst P (sym c.in_ok-places.ensures.items) c.requires.none

pub returns : goal.returns
returns g c = c.in_ok-put_first.ensures
