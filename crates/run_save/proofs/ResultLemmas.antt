-- What a call that reads a text has given.
use Rattle.std.proofs.Common.{◌≡◌, ℕ, ◌<◌, ◌^◌, List, length, Result, Ok, Err, ap, ◌∙◌, subst}
use Rattle.std.specs.Prelude.{IfOk, OnOk}
use Rattle.std.specs.List.{AllByRecursion}
use Rattle.delta_exchange.specs.declared.memory.OutOfMemory.{OutOfMemory}
use Rattle.delta_exchange.specs.Changes.{CellData}
use Rattle.event_key.specs.declared.key.Key.{Key}
use Rattle.model_core.specs.declared.event.Event.{Event}
use Rattle.model_core.specs.Meaning.{Meaning}
use Rattle.model_reader.specs.Checks as models
use Rattle.model_reader.specs.Readings.{ModelOf}
use Rattle.run_tally.specs.Tallies.{TotalsOf}
use Rattle.sim_spec.specs.declared.terms.Terms.{Terms}
use Rattle.sim_spec.specs.State.{State, Lawful}
use Rattle.run_save.specs.declared.refusal.StateRefusal.{StateRefusal}
use Rattle.run_save.specs.declared.saved.Saved.{Saved}
use Rattle.run_save.specs.Checks.{Checked, Gives}
use Rattle.run_save.specs.SavedLaws.{FitsCells, FitsEvent, FitsKey, FitsObject, FitsTypes, IsLine, IsSavable, IsTextOf, saved_with}
use Rattle.run_save.specs.SavedStates.{SavedState, state_of}
use Rattle.run_save.specs.StateTexts.{state_text}
use Rattle.run_save.specs.Views.{saved_of}
use Rattle.run_save.proofs.ReadLaw.{read_is_written}
use Rattle.run_save.proofs.WrittenLaw.{written_is_read}

module _ {M : Type 0} (meaning_of : M → Meaning) (lines_of : M → Terms → TotalsOf) (model_of : List ℕ → models.Checked ModelOf) where
  pub is_text : (bytes : List ℕ) (r : Result (Saved M) StateRefusal) → Gives (saved_of meaning_of lines_of) r (state_of model_of bytes) → IfOk r (λ saved. IsTextOf model_of bytes (saved_of meaning_of lines_of saved))
  is_text bytes (Ok saved) gives = read_is_written model_of bytes (saved_of meaning_of lines_of saved) gives
  is_text bytes (Err refusal) gives = tt

  pub is_lawful : (bytes : List ℕ) (r : Result (Saved M) StateRefusal) → Gives (saved_of meaning_of lines_of) r (state_of model_of bytes) → IfOk r (λ saved. Lawful (meaning_of saved.model) saved.terms saved.state)
  is_lawful bytes (Ok saved) gives = (read_is_written model_of bytes (saved_of meaning_of lines_of saved) gives).savable.lawful
  is_lawful bytes (Err refusal) gives = tt

  pub is_again : (bytes : List ℕ) (r : Result (Saved M) StateRefusal) (s : State) (model : List ℕ) (read : ModelOf) → IsSavable model_of s model read → bytes ≡ state_text s model
      → Gives (saved_of meaning_of lines_of) r (state_of model_of bytes) → Gives (saved_of meaning_of lines_of) r (Ok (saved_with read s))
  is_again bytes r s model read savable text gives =
      subst (λ (check : Checked SavedState). Gives (saved_of meaning_of lines_of) r check) (ap (state_of model_of) text ∙ written_is_read model_of s model read savable) gives

-- cells fit where their words and their lines do
pub both_fit : (r : Result (Unit {0}) OutOfMemory) (cells : CellData) → IsLine cells.words → OnOk r (length cells.lines < 2 ^ 64) → OnOk r (AllByRecursion IsLine cells.lines) → OnOk r (FitsCells cells)
both_fit (Ok done) cells words many lines = record { words = words; many = many; lines = lines }
both_fit (Err refused) cells words many lines = tt

pub event_fits : (r : Result (Unit {0}) OutOfMemory) (e : Event) → FitsKey e.key → OnOk r (e.kind < 2 ^ 32) → OnOk r (e.a < 2 ^ 64) → OnOk r (e.b < 2 ^ 64) → OnOk r (FitsEvent e)
event_fits (Ok done) e key kind a b = record { key = key; kind = kind; a = a; b = b }
event_fits (Err refused) e key kind a b = tt

pub key_fits : (r : Result (Unit {0}) OutOfMemory) (k : Key) → k.rank < 2 ^ 32 → k.dest < 2 ^ 32 → k.src < 2 ^ 32 → k.serial < 2 ^ 64 → OnOk r (FitsKey k)
key_fits (Ok done) k rank dest src serial = record { rank = rank; dest = dest; src = src; serial = serial }
key_fits (Err refused) k rank dest src serial = tt

pub types_fit : (r : Result (Unit {0}) OutOfMemory) (s : State) → s.count < 2 ^ 64 → AllByRecursion FitsObject s.objects → length s.pending < 2 ^ 64 → AllByRecursion FitsEvent s.pending → OnOk r (FitsTypes s)
types_fit (Ok done) s count objects many pending = record { count = count; objects = objects; many = many; pending = pending }
types_fit (Err refused) s count objects many pending = tt
