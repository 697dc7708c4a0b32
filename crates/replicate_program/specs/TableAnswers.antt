-- What the words of the program `replicate` ask for.
use Rattle.std.specs.Prelude.{List, String}
use Rattle.std.specs.declared.alloc.Global.{Global}
use Rattle.sim_io.specs.Words.{texts_of}
use Rattle.program_answers.specs.Answer.{Asked}
use Rattle.table_program.specs.TableAnswers as tables
use Rattle.replicate_program.specs.ReplicateTexts.{replicate_texts}

abbrev pub table_asked_by : List (String Global) → Asked
table_asked_by words = tables.table_asked_by replicate_texts (texts_of words)
