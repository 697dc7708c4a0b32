-- The key and the body.
use Rattle.run_save.proofs.ResultLemmas.{event_fits}
use Rattle.run_save.proofs.writing_lines.put_event.Goals as goal

pub returns-clause-fits : goal.returns-clause-fits
returns-clause-fits c = event_fits _ c.args.event.now c.in_ok-put_key.ensures.fits c.put_body.ensures.kind c.put_body.ensures.a c.put_body.ensures.b
