use Rattle.std.proofs.Common.{◌/◌, ◌<◌, length, arith}
use Rattle.tick_queue.proofs.MarkLemmas.{unmarked-same, unmarked-other}
use Rattle.tick_queue.proofs.marks.unmark.Goals as goal

pub returns-clause-same : goal.returns-clause-same
returns-clause-same c = let lt : c.args.slot / 64 < length c.args.words.now = omega arith in unmarked-same c.args.words.now c.args.slot lt

pub returns-clause-others : goal.returns-clause-others
returns-clause-others c = let lt : c.args.slot / 64 < length c.args.words.now = omega arith in unmarked-other c.args.words.now c.args.slot lt
