-- What the code keeps, in the words of the definitions.
use Rattle.std.specs.Prelude.{ℕ, List, map}
use Rattle.std.specs.Global.{Vec}
use Rattle.model_core.specs.Meaning.{Meaning}
use Rattle.model_reader.specs.Readings.{as_read}
use Rattle.run_tally.specs.Tallies.{TotalsOf}
use Rattle.sim_spec.specs.declared.terms.Terms.{Terms}
use Rattle.run_save.specs.declared.cursor.Cursor.{Cursor}
use Rattle.run_save.specs.declared.draft.Draft.{Draft as OwnDraft}
use Rattle.run_save.specs.declared.saved.Saved.{Saved}
use Rattle.run_save.specs.Lines.{Draft}
use Rattle.run_save.specs.Rests.{Rest}
use Rattle.run_save.specs.SavedStates.{SavedState}

abbrev pub rest_of : Cursor → Rest
rest_of cursor = record { bytes = cursor.bytes.now; line = cursor.line }

abbrev pub lines_of : List (Vec ℕ) → List (List ℕ)
lines_of lines = map (λ line. line.items) lines

abbrev pub draft_of : OwnDraft → Draft
draft_of draft = record {
  state = record { objects = draft.objects.items; pending = draft.pending.items; count = draft.count };
  model = draft.model.now;
  line = draft.line;
}

abbrev pub saved_of : {M : Type 0} → (M → Meaning) → (M → Terms → TotalsOf) → Saved M → SavedState
saved_of meaning_of lines_of saved = record { model = as_read meaning_of lines_of saved.model saved.terms; state = saved.state }
