-- What the adapters tell is what the streams do.
use Rattle.std.proofs.Common.{ap, ◌∙◌}
use Rattle.std.specs.Io.KnownBytes.{append_known}
use Rattle.program_answers.proofs.ProcessLemmas.{append_known-none, nothing_gathered}
use Rattle.program_answers.proofs.std_streams.StdStreams.new.Goals as goal

pub returns : goal.returns
returns g c = record {
  stand = record {
    left = c.new.ensures.left;
    handed = ap (λ s. g.O.Write.contents s.writer) c.new-3.ensures.inner ∙ c.new-2.ensures.handed;
    told = c.new-4.ensures.told;
  };
  told =
      ap (λ s. append_known (g.O.Write.contents s.writer) c.new-3.result.gathered) c.new-3.ensures.inner
      ∙ ap (λ xs. append_known (g.O.Write.contents c.new-2.result.writer) xs) c.new-3.ensures.empty
      ∙ append_known-none _
      ∙ c.new-2.ensures.told;
  nothing_kept = record {
    known = nothing_gathered (g.O.Write.contents c.new-3.result.inner.writer) c.new-3.result.gathered c.new-3.ensures.empty;
    holds = λ bytes held. tt;
  };
  no_read_faults = c.new.ensures.faults;
  no_write_faults = ap (λ s. s.faults) c.new-3.ensures.inner ∙ c.new-2.ensures.faults;
  no_note_faults = c.new-4.ensures.faults;
}
