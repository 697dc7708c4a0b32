-- What is left of the streams is what the adapters tell.
use Rattle.std.proofs.Common.{refl, sym, ap, ◌∙◌}
use Rattle.program_answers.proofs.std_streams.StdStreams.end.Goals as goal

pub returns : goal.returns
returns g c = record {
  same_status = refl;
  stand = record {
    left = sym c.into_inner.ensures;
    handed = sym (c.into_inner-3.ensures ∙ ap (λ s. g.O.Write.contents s.writer) c.into_inner-2.ensures);
    told = sym c.into_inner-4.ensures;
  };
  read_faults = c.faults.ensures;
  write_faults = c.faults-2.ensures ∙ ap (λ s. s.faults) c.inner.ensures;
  note_faults = c.faults-3.ensures;
}
