-- Each object is one of the type.
use Rattle.std.proofs.Common.{subst, below_more, arith}
use Rattle.std.proofs.Transfers.{starts_with_trans}
use Rattle.std.proofs.lemmas.List.{get_or_read}
use Rattle.std.proofs.lemmas.Grind.{common_steps}
use Rattle.std.proofs.lemmas.List.Elements.{All-from_get_or, recursion_from_All}
use Rattle.sim_spec.specs.Firing.{ObjectState}
use Rattle.sim_spec.specs.State.{no_object}
use Rattle.run_save.specs.SavedLaws.{FitsObject}
use Rattle.run_save.proofs.writing_lines.put_objects.Goals as goal

pub loop-object-preserved : goal.loop-object-preserved
loop-object-preserved c =
    let o = c.object-item.result in
    let at = get_or_read c.args.objects.now c.loop-object.object-index o c.loop-object-test.true c.object-item.is no_object in
    record {
      text = grind (arith, common_steps);
      prefix = starts_with_trans _ _ _ c.in_ok-put_object.ensures.prefix c.loop-object.invariant.prefix;
      fits = below_more _ _ c.loop-object.invariant.fits (subst (λ (s : ObjectState). FitsObject s) at c.in_ok-put_object.ensures.fits);
    }

pub returns-clause-fits : goal.returns-clause-fits
returns-clause-fits c =
    recursion_from_All FitsObject c.args.objects.now
    (All-from_get_or FitsObject c.args.objects.now no_object (λ k within. c.loop-object.invariant.fits k (omega (arith, within))))
