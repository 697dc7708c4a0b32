use Rattle.std.proofs.Common.{◌/◌, ◌<◌, length, arith}
use Rattle.tick_queue.proofs.MarkLemmas.{marked-same, marked-other}
use Rattle.tick_queue.proofs.marks.mark.Goals as goal

pub returns-clause-same : goal.returns-clause-same
returns-clause-same c = let lt : c.args.slot / 64 < length c.args.words.now = omega arith in marked-same c.args.words.now c.args.slot lt

pub returns-clause-others : goal.returns-clause-others
returns-clause-others c = let lt : c.args.slot / 64 < length c.args.words.now = omega arith in marked-other c.args.words.now c.args.slot lt
