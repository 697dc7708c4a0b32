-- Each event is one of the type.
use Rattle.std.proofs.Common.{sym, arith}
use Rattle.std.proofs.Transfers.{starts_with_trans}
use Rattle.std.proofs.lemmas.Grind.{common_steps}
use Rattle.std.proofs.lemmas.List.{take_all}
use Rattle.std.proofs.lemmas.List.Elements.{All-more, All-same, recursion_from_All}
use Rattle.run_save.specs.SavedLaws.{FitsEvent}
use Rattle.run_save.proofs.writing_lines.put_events.Goals as goal

pub loop-event-preserved : goal.loop-event-preserved
loop-event-preserved c = record {
  text = grind (arith, common_steps);
  prefix = starts_with_trans _ _ _ c.in_ok-put_event.ensures.prefix c.loop-event.invariant.prefix;
  fits = All-more FitsEvent c.args.events.now c.loop-event.event-index _ c.loop-event-test.true c.loop-event.invariant.fits c.in_ok-put_event.ensures.fits;
}

pub returns-clause-fits : goal.returns-clause-fits
returns-clause-fits c =
    recursion_from_All FitsEvent c.args.events.now
    (All-same FitsEvent c.args.events.now _ (sym (take_all c.loop-event.event-index c.args.events.now (omega arith))) c.loop-event.invariant.fits)
