-- The last row knows it.
use Rattle.std.proofs.Common.{◌-◌, length, sym, arith}
use Rattle.std.proofs.lemmas.Option.{slice_get_within}
use Rattle.event_key.specs.declared.stamp.TheConstants.{NO_STAMP}
use Rattle.event_log.proofs.ReadFacts.{least-last}
use Rattle.event_log.proofs.news.least_in.Goals as goal

pub returns-in-Some : goal.returns-in-Some
returns-in-Some c =
    let rows = c.args.rows.now in
    let last = c.in-Some.last.now in
    let at = sym c.in-Some.ensures.value in
    let within = slice_get_within rows (length rows - 1) last at in
    least-last NO_STAMP rows (length rows - 1) last (omega arith) at
