use Rattle.std.proofs.Common.{◌≤◌, subst}
use Rattle.std.specs.List.{AllByRecursion as Each}
use Rattle.event_key.specs.Stamps.{time_part}
use Rattle.model_core.specs.declared.event.Event.{Event}
use Rattle.tick_queue.specs.Levels.{LevelsView}
use Rattle.tick_queue.proofs.LevelLemmas.{all_from}
use Rattle.tick_queue.proofs.levels.Levels.tick.Goals as goal

pub returns-clause-from : goal.returns-clause-from
returns-clause-from c =
    let P : LevelsView → Type 0 = λ v. Each (λ (e : Event). v.tick ≤ time_part e.key.stamp) v.events in
    subst P c.self.view_is (all_from c.self.inside.tick c.self.inside.slots.slots c.self.invariant)
