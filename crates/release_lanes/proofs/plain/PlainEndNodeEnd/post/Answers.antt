use Rattle.std.proofs.Common.{Some, ◌∙◌}
use Rattle.release_lanes.proofs.Rows.{slot_filled, slice_get_set_other}
use Rattle.release_lanes.proofs.plain.PlainEndNodeEnd.post.Goals as goal

pub returns-clause-sent : goal.returns-clause-sent
returns-clause-sent c = slot_filled c.args.self.now.slots.items c.args.to c.args.parcel c.requires.free

pub returns-clause-free : goal.returns-clause-free
returns-clause-free c = λ other ne free. slice_get_set_other c.args.self.now.slots.items c.args.to other (Some c.args.parcel) ne ∙ free
