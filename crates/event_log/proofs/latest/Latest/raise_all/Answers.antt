-- One more is looked at.
use Rattle.std.proofs.Common.{◌≤◌, subst, arith}
use Rattle.event_key.specs.declared.key.Key.{Key}
use Rattle.event_log.specs.Items.{Item}
use Rattle.event_log.specs.Latest.{bound_of}
use Rattle.event_log.proofs.LatestFacts.{bounded-next}
use Rattle.event_log.proofs.latest.Latest.raise_all.Goals as goal

pub loop-place-preserved : goal.loop-place-preserved
loop-place-preserved c =
    let x : Item = c.at.ensures.0 in
    let K : Key → Type 0 = λ k. k.stamp ≤ bound_of c.raise.new.self k.dest in
    record {
      reached = bounded-next c.loop-place.self c.raise.new.self c.args.items.now.items c.loop-place.place x (omega arith) c.at.ensures.1 c.raise.ensures.kept (subst K c.at.ensures.2.key_is c.raise.ensures.reached) c.loop-place.invariant.reached;
      kept = λ object. (let was = c.loop-place.invariant.kept object in let now = c.raise.ensures.kept object in omega arith);
    }
