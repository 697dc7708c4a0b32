-- What the program writes, what it notes, and the status with which it ends.
use Rattle.std.specs.Prelude.{ℕ, Bool, true, List, String}
use Rattle.std.specs.declared.alloc.Global.{Global}
use Rattle.model_reader.specs.Readings.{ModelOf}
use Rattle.model_text.specs.ModelTexts.{model_with}
use Rattle.model_text.specs.Readers.{model_texts}
use Rattle.queue_models.specs.Meaning.{network_meaning}
use Rattle.queue_models.specs.Rings.{ring_parts, ring_terms}
use Rattle.sim_io.specs.declared.words.Settings.{Settings}
use Rattle.sim_io.specs.Words.{settings, texts_of}
use Rattle.program_answers.specs.Answer.{Answer, Asked}
use Rattle.model_program.specs.Answer as models

-- a demo makes its model from its number
abbrev pub demo_model : ℕ → ModelOf
demo_model n = model_with (network_meaning (ring_parts n)) ring_terms

abbrev pub demo_answer : ℕ → Answer
demo_answer n = models.answer_of_run (Settings.Demo n) (demo_model n)

-- the answer of a command to the bytes of the input, which play no part in a demo
abbrev pub answer_of_command : Settings → List ℕ → Answer
answer_of_command (Settings.Demo n) bytes = demo_answer n
answer_of_command chosen bytes = models.answer_of_command model_texts chosen bytes

-- the input is what the command asks for: a model or a saved state, or anything for a demo
abbrev pub accepts_input : Settings → List ℕ → Bool
accepts_input (Settings.Demo n) bytes = true
accepts_input chosen bytes = models.accepts_input model_texts chosen bytes

-- the answer to words and to the bytes of the input
abbrev pub answer : List (List ℕ) → List ℕ → Answer
answer words = models.answered answer_of_command (settings words)

-- what words ask for
abbrev pub asked_by : List (String Global) → Asked
asked_by words = models.asked accepts_input answer_of_command (settings (texts_of words))
