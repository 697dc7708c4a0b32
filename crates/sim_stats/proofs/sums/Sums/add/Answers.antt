use Rattle.std.proofs.Common.{ℕ, ◌+◌, ◌^◌, ◌∙◌, ◌++◌, List, take, ap, arith}
use Rattle.sim_stats.specs.Sums.{sums_of}
use Rattle.sim_stats.specs.Words.{TimedWord, words_at}
use Rattle.run_tally.proofs.ToldLemmas.{told-further}
use Rattle.model_core.specs.declared.note.Part.{Part}
use Rattle.sim_stats.proofs.SumsLemmas.{IsWithin-more}
use Rattle.sim_stats.proofs.sums.Sums.add.Goals as goal

abbrev timed_at : ℕ → Part → TimedWord
timed_at time part = record { time = time; word = part.word }

pub add_word-requires-clause-room : goal.add_word-requires-clause-room
add_word-requires-clause-room c =
    IsWithin-more (2 ^ 32 + c.loop-part.part-index) (2 ^ 33) c.loop-part.self (omega arith) (c.loop-part.invariant.within (2 ^ 32) c.requires.room)

pub loop-part-preserved : goal.loop-part-preserved
loop-part-preserved c =
    let i = c.loop-part.part-index in
    record {
      sums = λ told summed.
          c.add_word.ensures.sums (told ++ words_at c.args.time (take i c.args.parts.now)) (c.loop-part.invariant.sums told summed)
          ∙ ap (λ (words : List TimedWord). sums_of words) (told-further (timed_at c.args.time) told c.args.parts.now i _ c.loop-part-test.true);
      last = omega arith;
      within = λ words within. IsWithin-more (words + i + 1) (words + (i + 1)) c.add_word.new.self (omega arith) (c.add_word.ensures.within (words + i) (c.loop-part.invariant.within words within));
    }

pub returns-clause-within : goal.returns-clause-within
returns-clause-within c words within =
    IsWithin-more (words + c.loop-part.part-index) (words + 4) c.loop-part.self (omega arith) (c.loop-part.invariant.within words within)
