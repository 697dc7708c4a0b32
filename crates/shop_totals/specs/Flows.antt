-- What came of the jobs that came, by the words that are told.
use Rattle.std.specs.Prelude.{ℕ, ◌+◌, ◌≤◌, Bool, ◌==◌, ◌||◌, List, count_by}
use Rattle.std.specs.Int.{from_bool}
use Rattle.model_core.specs.declared.words.TheConstants.{TAKEN_WORD, WAITING_WORD, LOST_WORD, DONE_WORD, CALLED_WORD, FREED_WORD, RENEGED_WORD}
use Rattle.shop_totals.specs.declared.flow.Flow.{Flow}
use Rattle.shop_totals.specs.Told.{TimedPart}

-- a job comes: it is taken, waits, or finds no place
abbrev pub is_coming : ℕ → Bool
is_coming word = word == TAKEN_WORD || word == WAITING_WORD || word == LOST_WORD

-- each beginning is one of these: without a wait, or from the line
abbrev pub is_beginning : ℕ → Bool
is_beginning word = word == TAKEN_WORD || word == CALLED_WORD

abbrev pub is_end : ℕ → Bool
is_end word = word == DONE_WORD || word == FREED_WORD

abbrev pub is_loss : ℕ → Bool
is_loss word = word == LOST_WORD

abbrev pub is_reneging : ℕ → Bool
is_reneging word = word == RENEGED_WORD

abbrev pub count_told : (ℕ → Bool) → List TimedPart → ℕ
count_told is_one told = count_by (λ (one : TimedPart). is_one one.part.word) told

unfoldable pub flow_of : List TimedPart → Flow
flow_of told = record {
  came = count_told is_coming told;
  begun = count_told is_beginning told;
  done = count_told is_end told;
  lost = count_told is_loss told;
  reneged = count_told is_reneging told;
}

-- the same with a word more
abbrev pub flow_more : Flow → ℕ → Flow
flow_more flow word = record {
  came = flow.came + from_bool (is_coming word);
  begun = flow.begun + from_bool (is_beginning word);
  done = flow.done + from_bool (is_end word);
  lost = flow.lost + from_bool (is_loss word);
  reneged = flow.reneged + from_bool (is_reneging word);
}

-- so many words were told at most
pub record IsFlowWithin (words : ℕ) (flow : Flow) : Type 0 where
  pub came : flow.came ≤ words
  pub begun : flow.begun ≤ words
  pub done : flow.done ≤ words
  pub lost : flow.lost ≤ words
  pub reneged : flow.reneged ≤ words
