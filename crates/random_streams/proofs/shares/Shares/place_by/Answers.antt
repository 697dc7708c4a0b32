use Rattle.std.proofs.Common.{refl}
use Rattle.random_streams.specs.Shares.{place_by}
use Rattle.random_streams.proofs.DelayBounds.{place_by_lt}
use Rattle.random_streams.proofs.shares.Shares.place_by.Goals as goal

pub returns-clause-place : goal.returns-clause-place
unfolding place_by
returns-clause-place c = rw (c.place_at.ensures, c.remainder.ensures, c.self.invariant.3, c.self.view_is) refl

pub returns-clause-within : goal.returns-clause-within
unfolding place_by
returns-clause-within c =
    rw (c.place_at.ensures, c.remainder.ensures, c.self.invariant.3, ← c.self.view_is)
    (place_by_lt c.self.inside.weights.items c.args.word c.self.invariant.0)
