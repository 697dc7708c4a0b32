use Rattle.tick_queue.proofs.SlotLemmas.{none_joined}
use Rattle.tick_queue.proofs.levels.Levels.new.Goals as goal

pub returns-clause-none : goal.returns-clause-none
returns-clause-none c = none_joined c.in_ok-new.field-0.slots c.in_ok-new.ensures
