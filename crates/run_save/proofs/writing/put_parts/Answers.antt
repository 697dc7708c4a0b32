-- Each part is one of its type.
use Rattle.run_save.proofs.ResultLemmas.{types_fit}
use Rattle.run_save.proofs.writing.put_parts.Goals as goal

pub returns-clause-fits : goal.returns-clause-fits
returns-clause-fits c =
    types_fit _ (record { objects = c.args.objects.now; pending = c.args.pending.now; count = c.args.count })
    c.put_head.ensures.fits c.in_ok-put_objects.ensures.fits c.in_ok-put_events.ensures.few c.in_ok-put_events.ensures.fits
