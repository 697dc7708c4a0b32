-- What was read answers for the whole input.
use Rattle.std.proofs.Common.{◌≡◌, ℕ, ◌+◌, Bool, true, false, List, length, take, Option, Some, None, Ok, Err, leb, sym, refl, ap, ◌∙◌, arith}
use Rattle.std.specs.Prelude.{IfSome}
use Rattle.std.proofs.lemmas.Bool.{leb-true, leb-false, lt-leb}
use Rattle.std.proofs.lemmas.List.{take_all, length-take}
use Rattle.model_reader.specs.Checks.{Checked}
use Rattle.model_reader.specs.Readings.{ModelOf, Reading, ReadingLaws}
use Rattle.sim_io.specs.declared.words.Settings.{Settings}
use Rattle.sim_io.specs.Transfers.{TakesUpTo}
use Rattle.run_save.specs.Checks as states
use Rattle.run_save.specs.SavedStates.{SavedState, state_of}
use Rattle.run_save.specs.declared.reading.TheConstants.{MOST_STATE_BYTES}
use Rattle.model_program.specs.Answer.{answer_to_model, answer_to_state}
use Rattle.sim_io.specs.declared.streams.reading.TheConstants.{ENOUGH_BYTES}

module _ (reading : Reading) (laws : ReadingLaws reading.read) where
  -- a model that is refused has the same answer whatever its bytes
  refused-alike : (chosen : Settings) (one other : List ℕ) (read : Checked ModelOf) → ((model : ModelOf) → read ≡ Ok model → one ≡ other) → answer_to_model reading chosen one read ≡ answer_to_model reading chosen other read
  unfolding answer_to_model
  refused-alike chosen one other (Err refused) same = refl
  refused-alike chosen one other (Ok model) same = ap (λ xs. answer_to_model reading chosen xs (Ok model)) (same model refl)

  -- what comes after the first 1,048,577 bytes of a text does not matter to the answer
  answer-take : (chosen : Settings) (bytes : List ℕ)
      → answer_to_model reading chosen (take ENOUGH_BYTES bytes) (reading.read (take ENOUGH_BYTES bytes)) ≡ answer_to_model reading chosen bytes (reading.read bytes)
  answer-take chosen bytes =
      refused-alike chosen _ bytes (reading.read (take ENOUGH_BYTES bytes)) (λ model reads.
      take_all ENOUGH_BYTES bytes (omega (arith, laws.few_bytes bytes model (sym (laws.first_bytes bytes) ∙ reads))))
      ∙ ap (answer_to_model reading chosen bytes) (laws.first_bytes bytes)

  -- a state text that is too long is so by its first 67,108,865 bytes
  state_of-take : (bytes : List ℕ) → state_of reading.read (take (MOST_STATE_BYTES + 1) bytes) ≡ state_of reading.read bytes
  unfolding state_of
  state_of-take bytes = by_length (leb (length bytes) MOST_STATE_BYTES) refl
    where
      long : leb (length bytes) MOST_STATE_BYTES ≡ false → leb (length (take (MOST_STATE_BYTES + 1) bytes)) MOST_STATE_BYTES ≡ false
      long h = lt-leb _ _ (omega (arith, leb-false _ _ h, length-take (MOST_STATE_BYTES + 1) bytes))

      by_length : (b : Bool) → leb (length bytes) MOST_STATE_BYTES ≡ b → state_of reading.read (take (MOST_STATE_BYTES + 1) bytes) ≡ state_of reading.read bytes
      by_length true h = ap (state_of reading.read) (take_all (MOST_STATE_BYTES + 1) bytes (omega (arith, leb-true _ _ h)))
      by_length false h = rw (long h, h) refl

  module _ (taken slice : List ℕ) where
    -- the answer to the model that was read is the one to what was taken
    pub slice_answers : (chosen : Settings) (read : Checked ModelOf) → slice ≡ taken → reading.read slice ≡ read → answer_to_model reading chosen slice read ≡ answer_to_model reading chosen taken (reading.read taken)
    slice_answers chosen read is_slice is_read = ap (answer_to_model reading chosen slice) (sym is_read) ∙ ap (λ xs. answer_to_model reading chosen xs (reading.read xs)) is_slice

    -- so it is with a saved state
    pub slice_state_answers : (read : states.Checked SavedState) → slice ≡ taken → state_of reading.read slice ≡ read → answer_to_state read ≡ answer_to_state (state_of reading.read taken)
    slice_state_answers read is_slice is_read = ap answer_to_state (sym is_read ∙ ap (state_of reading.read) is_slice)

  module _ (old new : Option (List ℕ)) (taken slice : List ℕ) where
    -- the answer to the model that was read is the one to the whole input
    pub model_answers : (chosen : Settings) (read : Checked ModelOf) → TakesUpTo ENOUGH_BYTES old new taken → slice ≡ taken → reading.read slice ≡ read
        → IfSome old (λ bytes. answer_to_model reading chosen slice read ≡ answer_to_model reading chosen bytes (reading.read bytes))
    model_answers chosen read took is_slice is_read = by_left old new took
      where
        by_left : (left rest : Option (List ℕ)) → TakesUpTo ENOUGH_BYTES left rest taken → IfSome left (λ bytes. answer_to_model reading chosen slice read ≡ answer_to_model reading chosen bytes (reading.read bytes))
        by_left None rest took = tt
        by_left (Some bytes) None took = absurd took
        by_left (Some bytes) (Some rest) took =
            ap (answer_to_model reading chosen slice) (sym is_read) ∙ ap (λ xs. answer_to_model reading chosen xs (reading.read xs)) (is_slice ∙ took.0) ∙ answer-take chosen bytes

    -- so it is with a saved state
    pub state_answers : (read : states.Checked SavedState) → TakesUpTo (MOST_STATE_BYTES + 1) old new taken → slice ≡ taken → state_of reading.read slice ≡ read
        → IfSome old (λ bytes. answer_to_state read ≡ answer_to_state (state_of reading.read bytes))
    state_answers read took is_slice is_read = by_left old new took
      where
        by_left : (left rest : Option (List ℕ)) → TakesUpTo (MOST_STATE_BYTES + 1) left rest taken → IfSome left (λ bytes. answer_to_state read ≡ answer_to_state (state_of reading.read bytes))
        by_left None rest took = tt
        by_left (Some bytes) None took = absurd took
        by_left (Some bytes) (Some rest) took = ap answer_to_state (sym is_read ∙ ap (state_of reading.read) (is_slice ∙ took.0) ∙ state_of-take bytes)
