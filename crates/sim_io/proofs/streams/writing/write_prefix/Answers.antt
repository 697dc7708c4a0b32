-- A write goes on from where the last one stopped.
use Rattle.std.proofs.Common.{rules, arith}
use Rattle.std.proofs.Math.Seq.{take-add}
use Rattle.sim_io.proofs.TakenLemmas.{Appends-trans}
use Rattle.sim_io.proofs.streams.writing.write_prefix.Goals as goal

pub loop-at-preserved : goal.loop-at-preserved
loop-at-preserved g c =
    record {
      within = search rules;
      taken = rw take-add (Appends-trans _ _ _ _ _ c.loop-at.invariant.taken (rw c.split_at.ensures.back at c.in-Ok.ensures.taken));
      later = omega (arith, c.loop-at.invariant.later, c.in-Ok.ensures.cause.later);
      quiet = search rules;
    }
