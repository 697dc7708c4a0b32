use Rattle.std.proofs.Common.{ℕ, ◌+◌, ◌^◌, ◌∙◌, ◌++◌, take, ap, arith}
use Rattle.model_core.specs.declared.note.Part.{Part}
use Rattle.run_tally.proofs.ToldLemmas.{told-further}
use Rattle.replications.specs.Parts.{TimedPart, parts_at}
use Rattle.replications.specs.Windows.{window_of}
use Rattle.replications.proofs.WindowLemmas.{IsWithin-more}
use Rattle.replications.proofs.window.Window.add.Goals as goal

abbrev timed_at : ℕ → Part → TimedPart
timed_at time part = record { time = time; part = part }

pub add_part-requires-clause-room : goal.add_part-requires-clause-room
add_part-requires-clause-room c = IsWithin-more (2 ^ 32 + c.loop-part.part-index) (2 ^ 33) c.loop-part.self (omega arith) (c.loop-part.invariant.within (2 ^ 32) c.requires.room)

pub loop-part-preserved : goal.loop-part-preserved
loop-part-preserved c =
    let i = c.loop-part.part-index in
    record {
      sums = λ told summed.
          c.add_part.ensures.sums (told ++ parts_at c.args.time (take i c.args.parts.now)) (c.loop-part.invariant.sums told summed)
          ∙ ap (window_of c.args.first_tick) (told-further (timed_at c.args.time) told c.args.parts.now i _ c.loop-part-test.true);
      within = λ parts within. IsWithin-more (parts + i + 1) (parts + (i + 1)) c.add_part.new.self (omega arith) (c.add_part.ensures.within (parts + i) (c.loop-part.invariant.within parts within));
    }

pub returns-clause-within : goal.returns-clause-within
returns-clause-within c parts within = IsWithin-more (parts + c.loop-part.part-index) (parts + 4) c.loop-part.self (omega arith) (c.loop-part.invariant.within parts within)
