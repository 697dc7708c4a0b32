use Rattle.std.proofs.Common.{◌≡◌, ℕ, sym, subst}
use Rattle.world_tests.specs.declared.tests.forks.watched.WatchedEnd.{WatchedEnd}
use Rattle.world_tests.proofs.WatchedLemmas.{all-inner}
use Rattle.world_tests.proofs.tests.forks.watched.WatchedLanesLanes.give_back.Goals as goal

pub returns-clause-sent : goal.returns-clause-sent
returns-clause-sent g c = all-inner (λ (w : WatchedEnd _). w.end) (λ end. (to : ℕ) → g.L.Lanes.sent c.give_back.new.self (g.L.End.NodeEnd.number end) to ≡ g.L.End.NodeEnd.sent end to)
    c.args.ends.items c.ends_of.new.room.items (sym c.ends_of.ensures) (λ k d below. c.give_back.ensures.sent k d below)

pub returns-clause-received : goal.returns-clause-received
returns-clause-received g c = all-inner (λ (w : WatchedEnd _). w.end) (λ end. (from : ℕ) → g.L.Lanes.received c.give_back.new.self from (g.L.End.NodeEnd.number end) ≡ g.L.End.NodeEnd.received end from)
    c.args.ends.items c.ends_of.new.room.items (sym c.ends_of.ensures) (λ k d below. c.give_back.ensures.received k d below)
