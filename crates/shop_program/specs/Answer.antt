-- What the program `shop` writes, what it notes, and the status with which it ends.
use Rattle.std.specs.Prelude.{List, [], ◌∷◌, ℕ, Option, Some, None, if◌then◌else◌, codes, String}
use Rattle.std.specs.Str.{bytes_eq}
use Rattle.std.specs.declared.alloc.Global.{Global}
use Rattle.model_program.specs.Answer as models
use Rattle.program_answers.specs.Answer.{Asked}
use Rattle.shop_text.specs.Readers.{shop_texts}
use Rattle.sim_io.specs.Words.{model_settings, texts_of}
use Rattle.table_program.specs.TableAnswers.{table_asked_by}
use Rattle.shop_program.specs.ShopFamilies.{shop_tables}

-- the words that follow `replicate` as the first one
unfoldable pub after_replicate : List (List ℕ) → Option (List (List ℕ))
after_replicate [] = None
after_replicate (word ∷ rest) = if bytes_eq word (codes "replicate") then Some rest else None

-- they ask for a table, and other words for what any program over a reader of models does
abbrev pub asked_with : List (List ℕ) → Option (List (List ℕ)) → Asked
asked_with words (Some rest) = table_asked_by shop_tables rest
asked_with words None = models.asked (models.accepts_input shop_texts) (models.answer_of_command shop_texts) (model_settings words)

abbrev pub asked_by : List (String Global) → Asked
asked_by words = asked_with (texts_of words) (after_replicate (texts_of words))
