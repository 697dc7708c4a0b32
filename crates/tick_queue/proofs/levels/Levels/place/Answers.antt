use Rattle.std.proofs.Common.{◌∷◌, subst}
use Rattle.std.specs.Prelude.{IsPermutation}
use Rattle.key_order.specs.Joined.{joined}
use Rattle.tick_queue.specs.Levels.{LevelsView}
use Rattle.tick_queue.proofs.LevelLemmas.{placed, placed_events}
use Rattle.tick_queue.proofs.levels.Levels.place.Goals as goal

pub invariant_of-self : goal.invariant_of-self
invariant_of-self c = placed c.self.inside.tick c.self.inside.slots.slots c.place.new.slots.slots c.args.event c.self.invariant c.place.ensures.puts

pub returns-clause-events : goal.returns-clause-events
returns-clause-events c =
    let P : LevelsView → Type 0 = λ v. IsPermutation (c.args.event ∷ v.events) (joined c.place.new.slots.slots) in
    subst P c.self.view_is (placed_events c.self.inside.tick c.self.inside.slots.slots c.place.new.slots.slots c.args.event c.place.ensures.puts)
