use Rattle.release_lanes.proofs.Rows.{slot_held, slot_emptied}
use Rattle.release_lanes.proofs.plain.PlainEnd.take.Goals as goal

pub returns-clause-some : goal.returns-clause-some
returns-clause-some c = slot_held c.args.self.now.slots.items c.args.to c.take.result c.index_mut.result.now c.requires c.index_mut.ensures.value c.take.ensures.value

pub returns-clause-emptied : goal.returns-clause-emptied
returns-clause-emptied c = slot_emptied c.args.self.now.slots.items c.args.to c.take.new.self c.take.ensures.after
